-- The close of an engine's log: the moves of the machine that it makes, what holds at each moment of it and at its end, and
-- why it is refused.
use Rattle.std.specs.Prelude.{◌≡◌, ◌≢◌, ◌⊎◌, ℕ, ◌+◌, ◌≤◌, true, false, List, [], ◌∷◌, length, Some}
use Rattle.journal_model.specs.declared.number.Area.TheVariants.{Log}
use Rattle.journal_model.specs.declared.refusal.JournalError.{JournalError}
use Rattle.journal_model.specs.declared.refusal.JournalError.TheVariants.{Aborted, Device}
use Rattle.journal_model.specs.Disk.{Disk, Image, IsOneOf, Leaves, flushed, held, written}
use Rattle.log_model.specs.Opening.{IsClean}
use Rattle.block_device.specs.State.{DeviceState, one_more_fault}
use Rattle.journal_world.specs.declared.stage.Stage.TheVariants.{Idle}
use Rattle.journal_world.specs.Call.{IsAfterFault}
use Rattle.journal_world.specs.Call.Call.{Write}
use Rattle.journal_world.specs.Engine.{Engine}
use Rattle.journal_world.specs.Sound.{KeepsHome, OpensBetween, durable_cell}
use Rattle.log_epochs.specs.EngineSteps.{closed_superblock}
use Rattle.log_epochs.specs.EngineWorld.{Leads, Move, Phase, World}
use Rattle.log_epochs.specs.EngineWorld.Move.{CloseStep, CloseFault}
use Rattle.log_epochs.specs.EngineWorld.Phase.{Closed, Running, Shut}
use Rattle.log_epochs.specs.Epoch.{Epoch}
use Rattle.log_engine.specs.Engine.{EngineValue}

-- all that was handed over is committed and released
pub record IsAllReleased (e : Engine) : Type 0 where
  pub idle : e.stage ≡ Idle
  pub released : e.released ≡ e.committed

-- where nothing was handed over since the opening, block 0 of the log is durable as the opening left it
pub record KeepsClean (e : Engine) (disk : Disk) : Type 0 where
  pub durable : e.started ≡ false → e.stage ≡ Idle → disk Log 0 ≡ durable_cell e.superblock

-- the world in which this engine, in this epoch, works on this disk
abbrev pub world_with : World → Epoch → Engine → Disk → Phase → World
world_with w epoch e disk phase = record w { disk = disk; phase = phase; epoch = Some (record epoch { engine = e }) }

-- whatever came before, these moves of the machine lead from the engine that runs on the one disk to this phase on the other
pub record ClosesBy (e : Engine) (old : Disk) (moves : List Move) (new : Disk) (phase : Phase) : Type 0 where
  pub leads : (w : World) (epoch : Epoch) → Leads (world_with w epoch e old Running) moves (world_with w epoch e new phase)

-- what a close that answers Ok did: nothing where the log was clean, and else both calls of a close
pub data CloseDid {D : Type 0} (state : D → DeviceState) (old : EngineValue D) (new : D) : Type 0 where
  WasClean : old.engine.aborted ≡ false → old.engine.started ≡ false → new ≡ old.device → CloseDid state old new
  Closes : ClosesBy old.engine (state old.device).disk (CloseStep ∷ CloseStep ∷ []) (state new).disk Closed → CloseDid state old new

-- why a close is refused: the device failed before, and nothing was done; or it failed in a call of the close
pub data CloseRefused {D : Type 0} (state : D → DeviceState) (old : EngineValue D) (new : D) : JournalError → Type 0 where
  CloseAborted : old.engine.aborted ≡ true → new ≡ old.device → CloseRefused state old new Aborted
  CloseFailed : ClosesBy old.engine (state old.device).disk (CloseFault ∷ []) (state new).disk Shut →
      (state new).faults ≡ one_more_fault (state old.device).faults → CloseRefused state old new Device

-- the device calls of a close: none where the log is clean, or where the device failed before, and else its write and its flush at most
pub data MakesCloseCalls {D : Type 0} (state : D → DeviceState) (old : EngineValue D) (new : D) : Type 0 where
  NoCloseCall : new ≡ old.device → MakesCloseCalls state old new
  BothCloseCalls : old.engine.aborted ≡ false → old.engine.started ≡ true → (state new).calls ≤ (state old.device).calls + 2 → MakesCloseCalls state old new

-- A moment of a close. Home is as it was. Block 0 alone of the log is written, with the superblock of the clean log; the other blocks are
-- as they were, or durable as they read. Every crash image opens to all transactions.
pub record IsDuringClose (e : Engine) (old disk : Disk) : Type 0 where
  pub home : KeepsHome old disk
  pub log : (n : ℕ) → n ≢ 0 → (disk Log n ≡ old Log n) ⊎ (disk Log n ≡ flushed old Log Log n)
  pub block_0 : (v : List ℕ) → IsOneOf (held (disk Log 0)) v → IsOneOf (held (old Log 0)) v ⊎ (v ≡ closed_superblock e)
  pub opens : OpensBetween e.shape e.accepted (length e.accepted) (length e.accepted) disk

-- a closed log: every crash image of it is clean, and opens to all transactions
pub record IsClosedLog (e : Engine) (disk : Disk) : Type 0 where
  pub clean : (image : Image) → Leaves disk image → IsClean e.shape image
  pub opens : OpensBetween e.shape e.accepted (length e.accepted) (length e.accepted) disk

-- a moment of writing a block 0 and flushing it: it is written at most, or it is durable
pub data IsWritingFirst (block : List ℕ) (old disk : Disk) : Type 0 where
  Handed : IsAfterFault (Write Log 0 block) old disk → IsWritingFirst block old disk
  Durable : disk ≡ flushed (written old Log 0 block) Log → IsWritingFirst block old disk
