-- Which transaction numbers a later opening takes.
use Rattle.std.specs.Prelude.{◌≡◌, ◌≤◌, ◌-◌, ℕ}
use Rattle.log_model.specs.Opening.{greatest_number}
use Rattle.block_device.specs.State.{DeviceState}
use Rattle.handle.specs.Name.{JournalId}
use Rattle.shared_journal.specs.Moments.{AtOneMoment, WasLastJoinedHere}
use Rattle.journal_steps.specs.Values.{JournalValue}

-- the last transaction that a later opening takes while it is not home: the number after it is below the greatest
abbrev pub last_taken : ℕ
last_taken = greatest_number - 2

-- at a moment of the named journal so many numbers up to that were left, after the last transaction that a handle had joined
pub record HasLeft {D : Type 0} (state : D → DeviceState) (honest : D → Type 0) (name : JournalId) (left : ℕ) : Type 0 where
  pub last : ℕ
  pub was_last : WasLastJoinedHere state honest name last
  pub left_is : left ≡ last_taken - last

-- at one moment the running transaction was that one, or a later one
abbrev pub IsAtLast : Type 0 → Type 0
IsAtLast D = AtOneMoment (λ (old new : JournalValue D). last_taken ≤ old.journal.front.running.tid)
