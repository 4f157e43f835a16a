-- What an opening in spite of damage would do to a disk.
use Rattle.std.specs.Prelude.{◌≡◌, ℕ, ◌+◌, Bool, List, length, Option}
use Rattle.journal_model.specs.declared.refusal.JournalError.{JournalError}
use Rattle.journal_model.specs.Disk.{Disk, Shape, reading}
use Rattle.log_model.specs.declared.log.Text.{Text}
use Rattle.recovery.specs.HomeCopies.{home_copies}
use Rattle.damaged_logs.specs.Before.{Takes, TellsBefore}

-- it takes this in spite of this refusal, reports this, writes so many blocks home, and gives the next transaction this number
pub record IsPlannedBefore (shape : Shape) (disk : Disk) (stopped : Option JournalError) (clean : Bool) (ends_at transactions blocks next : ℕ) : Type 0 where
  pub texts : List Text
  pub greatest : ℕ
  pub takes : Takes shape (reading disk) texts greatest stopped
  pub tells : TellsBefore (reading disk) texts clean ends_at transactions
  pub blocks_are : blocks ≡ length (home_copies texts)
  pub next_is : next ≡ greatest + 1
