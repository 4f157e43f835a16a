-- Direct writes and the flush of home, as an engine makes them: what holds at each moment, and why they are refused.
use Rattle.std.specs.Prelude.{◌≡◌, ℕ, true, false, List, length}
use Rattle.journal_model.specs.declared.number.Area.TheVariants.{Home}
use Rattle.journal_model.specs.declared.refusal.JournalError.{JournalError}
use Rattle.journal_model.specs.declared.refusal.JournalError.TheVariants.{Aborted, BadBlock, Device, NotDirect}
use Rattle.journal_model.specs.Disk.{Disk}
use Rattle.log_model.specs.HomeChange.{Addition, HomeAddsOnly}
use Rattle.block_device.specs.State.{DeviceState, one_more_fault}
use Rattle.journal_world.specs.Call.Call.{Flush, Write}
use Rattle.journal_world.specs.Direct.{DirectFaults, DirectsHome, IsLeftToHome}
use Rattle.journal_world.specs.Engine.{Engine}
use Rattle.journal_world.specs.Sound.{OpensBetween}
use Rattle.log_engine.specs.Engine.{EngineValue, MayTouch}

-- why a direct write is refused
pub data DirectWriteRefused {D : Type 0} (state : D → DeviceState) (old : EngineValue D) (b : ℕ) (v : List ℕ) (new : EngineValue D) : JournalError → Type 0 where
  WriteAborted : old.engine.aborted ≡ true → new ≡ old → DirectWriteRefused state old b v new Aborted
  WriteOutside : old.engine.aborted ≡ false → (MayTouch old.engine b → ⊥) → new ≡ old → DirectWriteRefused state old b v new BadBlock
  WriteNotDirect : old.engine.aborted ≡ false → MayTouch old.engine b → (IsLeftToHome old.engine b → ⊥) → new ≡ old →
      DirectWriteRefused state old b v new NotDirect
  WriteFailed : DirectFaults old.engine (state old.device).disk (Write Home b v) new.engine (state new.device).disk →
      (state new.device).faults ≡ one_more_fault (state old.device).faults → DirectWriteRefused state old b v new Device

-- why a flush of home is refused
pub data DirectSyncRefused {D : Type 0} (state : D → DeviceState) (old new : EngineValue D) : JournalError → Type 0 where
  SyncAborted : old.engine.aborted ≡ true → new ≡ old → DirectSyncRefused state old new Aborted
  SyncFailed : DirectFaults old.engine (state old.device).disk (Flush Home) new.engine (state new.device).disk →
      (state new.device).faults ≡ one_more_fault (state old.device).faults → DirectSyncRefused state old new Device

-- a moment of a direct write: home changed by it alone, if the block is left to home, and each crash image opens to a number from the
-- committed to the accepted transactions
pub record IsDuringDirectWrite (e : Engine) (b : ℕ) (v : List ℕ) (old disk : Disk) : Type 0 where
  pub home : DirectsHome e b v old disk
  pub opens : OpensBetween e.shape e.accepted e.committed (length e.accepted) disk

-- no addition to home
abbrev pub NoAddition : Addition
NoAddition b v = ⊥

-- a moment of the flush of home: home reads as before, no crash leaves anything new there, and each crash image opens likewise
pub record IsDuringDirectSync (e : Engine) (old disk : Disk) : Type 0 where
  pub home : HomeAddsOnly NoAddition old disk
  pub opens : OpensBetween e.shape e.accepted e.committed (length e.accepted) disk
