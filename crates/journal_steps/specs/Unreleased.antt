-- Which blocks have a copy in the log that is not released.
use Rattle.std.specs.Prelude.{◌≡◌, ◌↔◌, ℕ, Bool, IsTrue, true, false, List, drop, Some}
use Rattle.journal_model.specs.declared.entry.Entry.TheVariants.{Copy}
use Rattle.journal_model.specs.declared.refusal.JournalError.{JournalError}
use Rattle.journal_model.specs.declared.refusal.JournalError.TheVariants.{Aborted, BadBlock}
use Rattle.journal_model.specs.Transaction.{History, last_effect}
use Rattle.journal_world.specs.Front.{transactions}
use Rattle.journal_world.specs.Journal.{Journal}
use Rattle.journal_front.specs.Front.{MayTouch}

-- the transactions that are not released, the running one last
abbrev pub unreleased : Journal → History
unreleased j = drop j.engine.released (transactions j.front)

-- the last entry of the block in them is a copy
pub record KeepsCopy (j : Journal) (b : ℕ) : Type 0 where
  pub copy : List ℕ
  pub last : last_effect b (unreleased j) ≡ Some (Copy copy)

-- what is told of a block: whether it is so
pub record TellsKept (j : Journal) (b : ℕ) (kept : Bool) : Type 0 where
  pub running : j.front.aborted ≡ false
  pub allowed : MayTouch j.front b
  pub told : IsTrue kept ↔ KeepsCopy j b

-- why nothing is told of it
pub data KeptUntold (j : Journal) (b : ℕ) : JournalError → Type 0 where
  UntoldAborted : j.front.aborted ≡ true → KeptUntold j b Aborted
  UntoldOutside : j.front.aborted ≡ false → (MayTouch j.front b → ⊥) → KeptUntold j b BadBlock
