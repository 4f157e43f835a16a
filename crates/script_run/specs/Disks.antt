-- The disk on which a run begins, and the device over it.
use Rattle.std.specs.Prelude.{◌≡◌, ℕ, false, Option, unwrap_or}
use Rattle.journal_model.specs.declared.number.Area.TheVariants.{Log}
use Rattle.journal_model.specs.Disk.{Shape}
use Rattle.log_model.specs.Superblock.{formatted_super, super_in}
use Rattle.block_device.specs.Fail.{failing}
use Rattle.block_device.specs.Memory.{MemState, state_of}
use Rattle.block_device.specs.State.{DeviceState}
use Rattle.block_device.specs.Stop.{stopping}
use Rattle.block_device.specs.declared.fail.FailOnce.{FailOnce}
use Rattle.block_device.specs.declared.stop.StopAt.{StopAt}
use Rattle.journal_world.specs.Opening.{IsOpening}
use Rattle.log_epochs.specs.EngineWorld.{LeadsToEngine}
use Rattle.recovery.specs.Values.{OpenedValue}
use Rattle.journal_script.specs.declared.measures.Measures.{Measures}
use Rattle.script_client.specs.Told.{IsZeroHome}

abbrev pub shape_of : Measures → Shape
shape_of m = record { block_size = m.block_size; log_blocks = m.log_blocks; home_blocks = m.home_blocks }

-- a disk of these measures: home is zeros, and the log has the clean superblock of a new format
pub record IsEmptyLog (m : Measures) (state : DeviceState) : Type 0 where
  pub shape_is : state.shape ≡ shape_of m
  pub home : IsZeroHome state.shape state.disk
  pub superblock : (state.disk Log 0).reads ≡ formatted_super m.block_size m.log_blocks m.uuid m.wide
  pub clean : (super_in (state.disk Log 0).reads).s_start ≡ 0

-- the disk inside the device of a run
abbrev pub disk_behind : FailOnce (StopAt MemState) → MemState
disk_behind device = device.device.device

-- the device of a run over a disk: it stops at write `stop` and fails call `fail`, if named; both counts start at 0
abbrev pub run_device_over : MemState → (stop fail : Option ℕ) → FailOnce (StopAt MemState)
run_device_over disk stop fail = record {
  device = record { device = disk; left = unwrap_or stop 0; stopped = false; faults = 0; calls = 0 };
  fails_at = unwrap_or fail 0;
  calls = 0;
  faults = 0;
}

-- the state of the device of a run
abbrev pub run_state : FailOnce (StopAt MemState) → DeviceState
run_state device = failing (stopping state_of) device

-- An empty log of these measures was opened, by a whole run of the machine. Over its disk stands a device that stops at write `stop` and
-- fails call `fail`, if named, both counted from the end of the opening.
pub record IsOpenedAnew (m : Measures) (stop fail : Option ℕ) (opened : OpenedValue (FailOnce (StopAt MemState))) : Type 0 where
  pub formatted : MemState
  pub empty : IsEmptyLog m (state_of formatted)
  pub disk : MemState
  pub shape_is : disk.shape ≡ shape_of m
  pub opening : IsOpening (state_of formatted).shape (state_of formatted).disk (state_of disk).disk opened.superblock opened.next
  pub run : LeadsToEngine (state_of formatted).shape (state_of formatted).disk (state_of disk).disk opened.superblock opened.next
  pub device_is : opened.device ≡ run_device_over disk stop fail
