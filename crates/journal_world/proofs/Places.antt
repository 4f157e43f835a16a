-- Places of ring blocks, and what a write of a log block leaves of the others.
use Rattle.std.proofs.Common.{refl, sym, ap, subst, arith, inl, inr, ⊎_elim}
use Rattle.std.specs.Prelude.{◌≡◌, ◌⊎◌, ℕ, ◌+◌, ◌*◌, ◌/◌, ◌%◌, ◌<◌, ◌≤◌, ◌==◌, ◌&&◌, true, false, if◌then◌else◌, List, ◌∷◌}
use Rattle.std.proofs.Math.Nat.{add-mod_right, div-add-mod, lt_of_mul-lt-mul_left, mod-eq_of_lt, mod-lt}
use Rattle.std.proofs.lemmas.Bool.{cases_eq, cases_lt}
use Rattle.std.proofs.lemmas.Bool.Decides.{nat_tests}
use Rattle.journal_model.specs.declared.number.Area.TheVariants.{Log}
use Rattle.log_model.specs.Chain.{Ring, ring_place}
use Rattle.journal_model.specs.Disk.{Cell, Disk, IsOneOf, flushed, handed_over, held, written}
use Rattle.journal_world.specs.Call.{IsAfterFault}
use Rattle.journal_world.specs.Call.IsAfterFault.{Undone, Whole, HandedOver}
use Rattle.journal_world.specs.Call.Call.{Write, Flush}
use Rattle.journal_world.specs.Sound.{KeepsHome, durable_cell}

-- a position on the first lap stands at that count
pub place-below : (r : Ring) (k : ℕ) → k < r.blocks → ring_place r k ≡ r.first + k
place-below r k below = ap (λ j. r.first + j) (mod-eq_of_lt below)

-- each position stands in the ring
pub place-within : (r : Ring) (k : ℕ) → 0 < r.blocks → ring_place r k < r.first + r.blocks
place-within r k some = let below : k % r.blocks < r.blocks = mod-lt k some in omega arith

-- one lap on is the same place
pub next_lap : (r : Ring) (k : ℕ) → ring_place r (k + r.blocks) ≡ ring_place r k
next_lap r k = ap (λ j. r.first + j) (add-mod_right k r.blocks)

-- two positions less than a lap apart differ in their rest
one_rest : (blocks j k : ℕ) → j < k → k < j + blocks → j % blocks ≡ k % blocks → ⊥
one_rest blocks j k low high rest =
    let here : blocks * (j / blocks) + j % blocks ≡ j = div-add-mod j blocks in
    let there : blocks * (k / blocks) + k % blocks ≡ k = div-add-mod k blocks in
    let above : j / blocks < k / blocks = lt_of_mul-lt-mul_left blocks (omega arith) in
    let below : k / blocks < j / blocks + 1 = lt_of_mul-lt-mul_left blocks (omega arith) in
    omega arith

-- two positions less than a lap apart with one place are equal
pub one_place : (r : Ring) (j k : ℕ) → j ≤ k → k < j + r.blocks → ring_place r j ≡ ring_place r k → j ≡ k
one_place r j k low high same =
    elim (cases_lt j k) [
      | inl apart ↦ absurd (one_rest r.blocks j k apart high (omega arith))
      | inr equal ↦ omega arith
    ]

-- two positions on one lap with one place are equal
pub one_within : (r : Ring) (tail j k : ℕ) → tail ≤ j → j < tail + r.blocks → tail ≤ k → k < tail + r.blocks →
    ring_place r j ≡ ring_place r k → j ≡ k
one_within r tail j k low high other below same =
    elim (cases_lt j k) [
      | inl apart ↦ one_place r j k (omega arith) (omega arith) same
      | inr equal ↦ sym (one_place r k j equal (omega arith) (sym same))
    ]

-- no position stands at block 0 of the log
pub place-above : (r : Ring) (k : ℕ) → 0 < r.first → ring_place r k ≡ 0 → ⊥
place-above r k above same = omega arith

-- a write of v at log block n, which may have failed: no other block changed, and n holds old values or v
pub record IsWrite (old new : Disk) (n : ℕ) (v : List ℕ) : Type 0 where
  pub home : KeepsHome old new
  pub others : (m : ℕ) → (m ≡ n → ⊥) → new Log m ≡ old Log m
  pub there : (w : List ℕ) → IsOneOf (held (new Log n)) w → (w ≡ v) ⊎ IsOneOf (held (old Log n)) w

-- a cell put at block n stands there
cell-there : {X : Type 0} (n : ℕ) (x y : X) → (if true && (n == n) then x else y) ≡ x
cell-there n x y = let same : (n == n) ≡ true = grind (arith, nat_tests) in rw same

-- a cell put at block n stands nowhere else
cell-other : {X : Type 0} (n m : ℕ) (x y : X) → (m ≡ n → ⊥) → (if true && (m == n) then x else y) ≡ y
cell-other n m x y other = let apart : (m == n) ≡ false = grind (arith, nat_tests) in rw apart

-- what a write leaves at its block
pub written-there : (disk : Disk) (n : ℕ) (v : List ℕ) → written disk Log n v Log n ≡ record { reads = v; others = held (disk Log n) }
written-there disk n v = cell-there n _ (disk Log n)

-- a write that succeeded is one
pub is_write-written : (disk : Disk) (n : ℕ) (v : List ℕ) → IsWrite disk (written disk Log n v) n v
is_write-written disk n v = record {
  home = record { same = λ b. refl };
  others = λ m other. cell-other n m _ (disk Log m) other;
  there = λ w one. subst (λ (c : Cell). IsOneOf (held c) w) (written-there disk n v) one;
}

-- a failed write that was handed over is one
is_write-handed_over : (disk : Disk) (n : ℕ) (v : List ℕ) → IsWrite disk (handed_over disk Log n v) n v
is_write-handed_over disk n v = record {
  home = record { same = λ b. refl };
  others = λ m other. cell-other n m _ (disk Log m) other;
  there = λ w one. handed_cases (disk Log n) v w (subst (λ (c : Cell). IsOneOf (held c) w) (cell-there n _ (disk Log n)) one);
}
  where
    handed_cases : (c : Cell) (v w : List ℕ) → IsOneOf (c.reads ∷ v ∷ c.others) w → (w ≡ v) ⊎ IsOneOf (held c) w
    handed_cases c v w (inl reads) = inr (inl reads)
    handed_cases c v w (inr (inl here)) = inl here
    handed_cases c v w (inr (inr other)) = inr (inr other)

-- a failed write that changed nothing is one
is_write-undone : (disk : Disk) (n : ℕ) (v : List ℕ) → IsWrite disk disk n v
is_write-undone disk n v = record { home = record { same = λ b. refl }; others = λ m other. refl; there = λ w one. inr one }

-- each failed write is one
pub is_write-fault : (old new : Disk) (n : ℕ) (v : List ℕ) → IsAfterFault (Write Log n v) old new → IsWrite old new n v
is_write-fault old new n v (Undone call a b same) = subst (λ (d : Disk). IsWrite old d n v) (sym same) (is_write-undone old n v)
is_write-fault old new n v (Whole a m w b c same) = subst (λ (d : Disk). IsWrite old d n v) (sym same) (is_write-written old n v)
is_write-fault old new n v (HandedOver a m w b c same) = subst (λ (d : Disk). IsWrite old d n v) (sym same) (is_write-handed_over old n v)

-- after a write a value was held before, or is the one written at its block
pub held-after : (old new : Disk) (n : ℕ) (v : List ℕ) (m : ℕ) (w : List ℕ) → IsWrite old new n v → IsOneOf (held (new Log m)) w →
    ((m ≡ n) × (w ≡ v)) ⊎ IsOneOf (held (old Log m)) w
held-after old new n v m w write one =
    elim (cases_eq m n) [
      | inl same ↦ ⊎_elim (λ is. inl (same, is)) (λ was. inr (rw same was)) (write.there w (subst (λ j. IsOneOf (held (new Log j)) w) same one))
      | inr other ↦ inr (subst (λ (c : Cell). IsOneOf (held c) w) (write.others m other) one)
    ]

-- a flush that failed changed nothing
pub flush-fault : (old new : Disk) → IsAfterFault (Flush Log) old new → new ≡ old
flush-fault old new (Undone call a b same) = same

-- after a flush a block holds only what it reads
pub held-flushed : (disk : Disk) (m : ℕ) (w : List ℕ) → IsOneOf (held (flushed disk Log Log m)) w → w ≡ (disk Log m).reads
held-flushed disk m w (inl is) = is
held-flushed disk m w (inr none) = absurd none

-- a durable block holds only what it reads
pub held-durable : (disk : Disk) (n : ℕ) (v w : List ℕ) → disk Log n ≡ durable_cell v → IsOneOf (held (disk Log n)) w → w ≡ v
held-durable disk n v w durable one = only (subst (λ (c : Cell). IsOneOf (held c) w) durable one)
  where
    only : (w ≡ v) ⊎ ⊥ → w ≡ v
    only (inl is) = is
    only (inr none) = absurd none
