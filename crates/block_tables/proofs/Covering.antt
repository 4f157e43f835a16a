-- What a table covers, and how one more note changes that.
use Rattle.std.proofs.Common.{inl, inr, sym, ap, ◌∙◌, arith}
use Rattle.std.specs.Prelude.{◌≡◌, ◌↔◌, ℕ, ◌<◌, ◌≤◌, Some, None}
use Rattle.std.proofs.lemmas.Option.{none-some, same_Some}
use Rattle.std.proofs.lemmas.Bool.{cases_lt}
use Rattle.std.specs.FinMap.{get, insert}
use Rattle.journal_model.proofs.ListElements.{option-known}
use Rattle.block_tables.specs.Revokes.{BlockTable, Covers, greatest, noted}
use Rattle.block_tables.proofs.Maps.{inserted-again}

-- a block is covered up to its noted number
pub covers-up_to : (m : BlockTable) (b t u : ℕ) → get m b ≡ Some u → Covers m b t ↔ (t ≤ u)
covers-up_to m b t u there = (
  λ covers. let same : u ≡ covers.number = same_Some u covers.number (sym there ∙ covers.noted) in let not_before = covers.not_before in omega arith,
  λ up_to. record { number = u; noted = there; not_before = up_to },
)

-- a block without a note is not covered
pub covers-none : (m : BlockTable) (b t : ℕ) → get m b ≡ None → Covers m b t → ⊥
covers-none m b t none covers = none-some covers.number (sym none ∙ covers.noted)

-- the greater of two numbers
greatest-covered : (t u : ℕ) → t ≤ u → greatest t (Some u) ≡ u
greatest-covered t u up_to = grind arith

greatest-uncovered : (t u : ℕ) → u < t → greatest t (Some u) ≡ t
greatest-uncovered t u above = grind arith

-- a note of a covered copy changes nothing
pub noted-covered : (m : BlockTable) (b t : ℕ) → Covers m b t → m ≡ noted m b t
noted-covered m b t covers =
    inserted-again m b covers.number covers.noted
    ∙ ap (insert m b) (sym (ap (greatest t) covers.noted ∙ greatest-covered t covers.number covers.not_before))

-- a note of an uncovered copy inserts the transaction
pub noted-uncovered : (m : BlockTable) (b t : ℕ) → (Covers m b t → ⊥) → insert m b t ≡ noted m b t
noted-uncovered m b t uncovered =
    ap (insert m b)
    (elim (option-known (get m b)) [
      | inl none ↦ sym (ap (greatest t) none)
      | inr (u, there) ↦
          elim (cases_lt u t) [
            | inl above ↦ sym (ap (greatest t) there ∙ greatest-uncovered t u above)
            | inr below ↦ absurd (uncovered ((covers-up_to m b t u there).1 (omega arith)))
          ]
    ])
