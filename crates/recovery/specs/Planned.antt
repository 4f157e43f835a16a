-- The plan of an opening, found without opening.
use Rattle.std.specs.Prelude.{◌≡◌, ℕ, Bool, length}
use Rattle.journal_model.specs.Disk.{Disk, Shape, reading}
use Rattle.log_epochs.specs.OpeningRun.{IsFoundOn}
use Rattle.log_epochs.specs.OpeningSteps.{Found, next_of}
use Rattle.recovery.specs.HomeCopies.{home_copies}
use Rattle.recovery.specs.Opening.{Tells}

-- an opening of this disk would report this, write so many blocks home, and give the next transaction this number
pub record IsPlanned (shape : Shape) (disk : Disk) (clean : Bool) (ends_at transactions blocks next : ℕ) : Type 0 where
  pub found : Found
  pub is : IsFoundOn shape found disk
  pub tells : Tells shape (reading disk) clean ends_at transactions
  pub blocks_are : blocks ≡ length (home_copies found.texts)
  pub next_is : next ≡ next_of found
