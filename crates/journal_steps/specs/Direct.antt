-- Direct writes of a journal and the flush of home: what holds at each moment, and why they are refused.
use Rattle.std.specs.Prelude.{◌≡◌, ℕ, true, false, List}
use Rattle.journal_model.specs.declared.refusal.JournalError.{JournalError}
use Rattle.journal_model.specs.declared.refusal.JournalError.TheVariants.{Aborted, BadBlock, Device, NotDirect}
use Rattle.journal_model.specs.Disk.{Disk}
use Rattle.log_model.specs.HomeChange.{HomeAddsOnly}
use Rattle.journal_model.specs.Reading.{HasDirectRight}
use Rattle.block_device.specs.State.{DeviceState, one_more_fault}
use Rattle.journal_world.specs.Direct.{DirectsHome}
use Rattle.journal_world.specs.Front.{finished_count, transactions}
use Rattle.journal_world.specs.Journal.{Journal}
use Rattle.journal_world.specs.Journal.Event.{DirectSyncFault, DirectWriteFault}
use Rattle.log_engine.specs.Direct.{NoAddition}
use Rattle.journal_front.specs.Front.{MayTouch}
use Rattle.journal_steps.specs.Journal.{Does, OpensNow}
use Rattle.journal_steps.specs.Values.{JournalValue}

-- the block may be written directly, given all transactions since the opening
abbrev pub MayWriteDirectly : Journal → ℕ → Type 0
MayWriteDirectly j b = HasDirectRight (transactions j.front) j.engine.committed (finished_count j.front) b

-- why a direct write is refused
pub data DirectWriteRefused {D : Type 0} (state : D → DeviceState) (old : JournalValue D) (b : ℕ) (v : List ℕ) (new : JournalValue D) : JournalError → Type 0 where
  WriteAborted : old.journal.engine.aborted ≡ true → new ≡ old → DirectWriteRefused state old b v new Aborted
  WriteOutside : old.journal.engine.aborted ≡ false → (MayTouch old.journal.front b → ⊥) → new ≡ old → DirectWriteRefused state old b v new BadBlock
  WriteNotDirect : old.journal.engine.aborted ≡ false → MayTouch old.journal.front b → (MayWriteDirectly old.journal b → ⊥) → new ≡ old →
      DirectWriteRefused state old b v new NotDirect
  WriteFailed : Does state old (DirectWriteFault b v) new → (state new.device).faults ≡ one_more_fault (state old.device).faults →
      DirectWriteRefused state old b v new Device

-- why a flush of home is refused
pub data DirectSyncRefused {D : Type 0} (state : D → DeviceState) (old new : JournalValue D) : JournalError → Type 0 where
  SyncAborted : old.journal.engine.aborted ≡ true → new ≡ old → DirectSyncRefused state old new Aborted
  SyncFailed : Does state old DirectSyncFault new → (state new.device).faults ≡ one_more_fault (state old.device).faults → DirectSyncRefused state old new Device

-- a moment of a direct write: home changed by it alone, and each crash image opens
pub record IsDuringDirectWrite (j : Journal) (b : ℕ) (v : List ℕ) (old disk : Disk) : Type 0 where
  pub home : DirectsHome j.engine b v old disk
  pub opens : OpensNow j disk

-- a moment of the flush of home: home gained nothing, and each crash image opens
pub record IsDuringDirectSync (j : Journal) (old disk : Disk) : Type 0 where
  pub home : HomeAddsOnly NoAddition old disk
  pub opens : OpensNow j disk
