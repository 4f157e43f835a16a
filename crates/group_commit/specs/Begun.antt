-- The world of the machine in which a journal has just been made on an opened log.
use Rattle.std.specs.Prelude.{[], None, Some}
use Rattle.block_device.specs.State.{DeviceState}
use Rattle.log_epochs.specs.EngineWorld.Phase.{Running}
use Rattle.log_epochs.specs.JournalWorld.{JournalWorld}
use Rattle.journal_steps.specs.Values.{JournalValue}

-- The journal runs on its device. Its epoch, the first, began on the disk of this opened device: nothing was written directly since, and
-- nothing is acknowledged.
abbrev pub world_of_new : {D : Type 0} → (D → DeviceState) → (opened : D) → JournalValue D → JournalWorld
world_of_new state opened v = record {
  below = record {
    shape = (state v.device).shape;
    disk = (state v.device).disk;
    phase = Running;
    epoch = Some (record { opening = (state opened).disk; engine = v.journal.engine; directs = []; pin = None });
    ended = [];
  };
  told = record { front = v.journal.front; answered = [] };
  past = [];
}
