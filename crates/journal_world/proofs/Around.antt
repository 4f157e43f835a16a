-- The ring blocks from a position on, once around the ring.
use Rattle.std.proofs.Common.{◌≡◌, ℕ, ◌+◌, ◌-◌, ◌*◌, ◌/◌, ◌%◌, ◌<◌, ◌≤◌, arith, ◌∙◌, subst, ap}
use Rattle.std.proofs.Math.Nat.{add-mod-mod, add-mod_right, add-mul-mod_self_left, div-add-mod, mod-add-mod, mod-lt}
use Rattle.log_model.specs.Chain.{Ring, place_from, ring_place}

-- the lap from a position's place goes through the later positions
pub place-lap : (r : Ring) (from k : ℕ) → place_from r (ring_place r from) k ≡ ring_place r (from + k)
place-lap r from k =
    let back : r.first + from % r.blocks - r.first + k ≡ from % r.blocks + k = omega arith in
    ap (λ (j : ℕ). r.first + j % r.blocks) back ∙ ap (λ (j : ℕ). r.first + j) (mod-add-mod from r.blocks k)

-- a position has the place of the one a lap earlier
pub place-around : (r : Ring) (k : ℕ) → r.blocks ≤ k → ring_place r k ≡ ring_place r (k - r.blocks)
place-around r k past =
    let lap : k ≡ k - r.blocks + r.blocks = omega arith in
    ap (ring_place r) lap ∙ ap (λ (j : ℕ). r.first + j) (add-mod_right (k - r.blocks) r.blocks)

-- how far after a position the place of ring block j stands
abbrev ahead : Ring → ℕ → ℕ → ℕ
ahead r from j = (j + (r.blocks - from % r.blocks)) % r.blocks

-- block j has the place that far after the position
ahead-place : (r : Ring) (from j : ℕ) → 0 < r.blocks → ring_place r (from + ahead r from j) ≡ ring_place r j
ahead-place r from j some =
    let below : from % r.blocks < r.blocks = mod-lt from some in
    let whole : r.blocks * (from / r.blocks) + from % r.blocks ≡ from = div-add-mod from r.blocks in
    let laps : from + (j + (r.blocks - from % r.blocks)) ≡ j + r.blocks + r.blocks * (from / r.blocks) = omega arith in
    let same : (from + ahead r from j) % r.blocks ≡ j % r.blocks =
    add-mod-mod from (j + (r.blocks - from % r.blocks)) r.blocks
    ∙ ap (λ (k : ℕ). k % r.blocks) laps
    ∙ add-mul-mod_self_left (j + r.blocks) r.blocks (from / r.blocks)
    ∙ add-mod_right j r.blocks in
    ap (λ (k : ℕ). r.first + k) same

-- what holds at each position of a lap holds at each ring block's place
pub each-around : (r : Ring) (P : ℕ → Type 0) (from : ℕ) → ((k : ℕ) → from ≤ k → k < from + r.blocks → P (ring_place r k)) →
    (j : ℕ) → j < r.blocks → P (ring_place r j)
each-around r P from each j below =
    let some : 0 < r.blocks = omega arith in
    let less : ahead r from j < r.blocks = mod-lt (j + (r.blocks - from % r.blocks)) some in
    subst P (ahead-place r from j some) (each (from + ahead r from j) (omega arith) (omega arith))
