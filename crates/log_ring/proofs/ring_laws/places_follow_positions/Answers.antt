use Rattle.std.proofs.Common.{ap, arith, ◌∙◌, ◌+◌, ◌-◌, ◌%◌, ◌≡◌, ℕ}
use Rattle.std.proofs.Math.Nat.{mod-add-mod}
use Rattle.log_ring.proofs.ring_laws.places_follow_positions.Goals as goal

pub returns : goal.returns
returns c = λ r position count.
    let back : r.first + position % r.blocks - r.first ≡ position % r.blocks = omega arith in
    ap (λ (k : ℕ). r.first + (k + count) % r.blocks) back ∙ ap (λ (k : ℕ). r.first + k) (mod-add-mod position r.blocks count)
