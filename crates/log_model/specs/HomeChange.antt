-- How home may change, and which values a home block may hold.
-- Source: journal.rst (write-ahead: a copy goes home only after its commit); direct writes are this project's own.
use Rattle.std.specs.Prelude.{◌≡◌, ◌⊎◌, ℕ, ◌<◌, List, Some, slice_get}
use Rattle.journal_model.specs.declared.entry.Content.TheVariants.{Copy as CopyContent, Direct}
use Rattle.journal_model.specs.declared.entry.Entry.TheVariants.{Copy}
use Rattle.journal_model.specs.declared.number.Area.TheVariants.{Home}
use Rattle.journal_model.specs.Disk.{Disk, IsOneOf, held}
use Rattle.journal_model.specs.Reading.{HasDirectRight}
use Rattle.journal_model.specs.Transaction.{Transaction, History, Volume, after, effect}

abbrev pub Addition : Type 1
Addition = ℕ → List ℕ → Type 0

-- each home block reads as before or as a value that may be added, and so with what a crash leaves
pub record HomeAddsOnly (may : Addition) (old new : Disk) : Type 0 where
  pub reads : (b : ℕ) → ((new Home b).reads ≡ (old Home b).reads) ⊎ may b (new Home b).reads
  pub left : (b : ℕ) (v : List ℕ) → IsOneOf (held (new Home b)) v → IsOneOf (held (old Home b)) v ⊎ may b v

-- the copy that the committed transactions leave of the block
abbrev pub IsCommittedCopy : History → ℕ → Addition
IsCommittedCopy ts committed b v = after ts committed b ≡ CopyContent v

-- a direct write may add its bytes, if its block may be written directly
abbrev pub IsDirectWrite : History → ℕ → ℕ → ℕ → List ℕ → Addition
IsDirectWrite ts committed finished block bytes b v =
    HasDirectRight ts committed finished block × (b ≡ block) × (v ≡ bytes)

-- the block held the value at the history's opening, a direct write handed it over since, or it is a copy in the
-- first n transactions
pub data IsRightlyHeld (opening : Disk) (directs : List (ℕ × List ℕ)) (ts : History) (n b : ℕ) (v : List ℕ) : Type 0 where
  FromOpening : IsOneOf (held (opening Home b)) v → IsRightlyHeld opening directs ts n b v
  FromDirectWrite : IsOneOf directs (b, v) → IsRightlyHeld opening directs ts n b v
  FromCopy : (i : ℕ) (t : Transaction) → i < n → slice_get ts i ≡ Some t → effect b t.steps ≡ Some (Copy v) → IsRightlyHeld opening directs ts n b v

-- each block that the first n transactions leave to home has a permitted value
abbrev pub OthersRightlyHeld : ℕ → Disk → List (ℕ × List ℕ) → History → ℕ → Volume → Type 0
OthersRightlyHeld count opening directs ts n home =
    (b : ℕ) → b < count → after ts n b ≡ Direct → IsRightlyHeld opening directs ts n b (home b)
