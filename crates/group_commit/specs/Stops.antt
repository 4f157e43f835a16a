-- Handles that stop one after another, whoever holds them.
use Rattle.block_device.specs.State.{DeviceState}
use Rattle.journal_world.specs.Front.FrontEvent.{StopHandle}
use Rattle.journal_world.specs.Journal.Event.{FrontStep}
use Rattle.journal_steps.specs.Journal.{Does}
use Rattle.journal_steps.specs.Values.{JournalValue}
use Rattle.std.specs.Prelude.{◌≡◌, ◌<◌, ℕ, length}

-- one open handle has stopped
pub record StopsOneHandle {D : Type 0} (state : D → DeviceState) (old new : JournalValue D) : Type 0 where
  pub handle : ℕ
  pub stops : Does state old (FrontStep (StopHandle handle)) new
  pub fewer : length new.journal.front.open_handles < length old.journal.front.open_handles
  pub device : new.device ≡ old.device

-- any number of them have
pub data StopsHandles {D : Type 0} (state : D → DeviceState) (old : JournalValue D) : JournalValue D → Type 0 where
  NoneStopped : StopsHandles state old old
  OneMoreStopped : (mid new : JournalValue D) → StopsHandles state old mid → StopsOneHandle state mid new → StopsHandles state old new
