-- Cells whose values all have one length; proofs of devices share this.
use Rattle.std.proofs.Common.{◌≡◌, ℕ, Bool, true, false, List, [], length, ap, ◌∙◌, ⊎_elim}
use Rattle.std.specs.Prelude.{if◌then◌else◌}
use Rattle.journal_model.specs.Disk.{Cell, IsOneOf, held}

-- each value that is held in the cell has this length
abbrev pub IsWhole : ℕ → Cell → Type 0
IsWhole size c = (v : List ℕ) → IsOneOf (held c) v → length v ≡ size

pub one_of_two : (size : ℕ) (b : Bool) (x y : Cell) → IsWhole size x → IsWhole size y → IsWhole size (if b then x else y)
one_of_two size true x y hx hy = hx
one_of_two size false x y hx hy = hy

-- one value alone, and one more value, keep this
pub alone : (size : ℕ) (v : List ℕ) → length v ≡ size → IsWhole size (record { reads = v; others = [] })
alone size v e u one = ⊎_elim (λ same. ap length same ∙ e) (λ none. absurd none) one

pub over : (size : ℕ) (v : List ℕ) (c : Cell) → length v ≡ size → IsWhole size c → IsWhole size (record { reads = v; others = held c })
over size v c e h u one = ⊎_elim (λ same. ap length same ∙ e) (λ before. h u before) one
