-- What an engine's calls do, each as a step of the pure machine, and why they are refused.
use Rattle.std.specs.Prelude.{◌≡◌, ◌≢◌, ℕ, ◌+◌, false, true, List, None, length}
use Rattle.journal_model.specs.declared.refusal.JournalError.{JournalError}
use Rattle.journal_model.specs.declared.refusal.JournalError.TheVariants.{Aborted, BadBlock, Device, Memory}
use Rattle.journal_model.specs.Block.{IsAllowedBlock}
use Rattle.journal_model.specs.Disk.{Disk}
use Rattle.block_device.specs.State.{DeviceState, Stays, one_more_fault}
use Rattle.block_tables.specs.Effects.{EffectsValue, effect_on, noted_effect}
use Rattle.journal_world.specs.declared.round.Round.TheVariants.{Idle as NoRound}
use Rattle.journal_world.specs.declared.stage.Stage.TheVariants.{Idle}
use Rattle.journal_world.specs.Checkpoint.{IsPending, RoundFaults, RoundSteps}
use Rattle.journal_world.specs.Engine.{Engine, CommitFaults, CommitSteps}
use Rattle.journal_world.specs.Sound.{CopiesHome, KeepsHome, OpensBetween}
use Rattle.log_ledger.specs.declared.progress.Progress.{Progress}
use Rattle.log_ledger.specs.declared.progress.Progress.TheVariants.{Idle as NoProgress, Step, Done}

-- an engine and its device
pub record EngineValue (D : Type 0) : Type 0 where
  pub device : D
  pub engine : Engine

-- the table has the last effect on each block of the batches handed over, but for committed revokes
abbrev pub HasEffects : Engine → EffectsValue → Type 0
HasEffects e table = (b : ℕ) → effect_on table b ≡ noted_effect e.accepted b None

-- why a batch is refused for which the ring has room
pub data AcceptRefused (e : Engine) : JournalError → Type 0 where
  AfterFailure : e.aborted ≡ true → AcceptRefused e Aborted
  MemoryIsShort : e.aborted ≡ false → AcceptRefused e Memory

-- what a commit step did
abbrev pub StepDid : Progress → Engine → Disk → Engine → Disk → Type 0
StepDid NoProgress old disk new after = (old.stage ≡ Idle) × (old.aborted ≡ false) × (new ≡ old) × (after ≡ disk)
StepDid Step old disk new after = CommitSteps old disk new after × (new.stage ≢ Idle)
StepDid (Done tid) old disk new after = CommitSteps old disk new after × (new.stage ≡ Idle) × (tid ≡ old.first + old.committed)

-- why a commit step is refused
pub data StepRefused (old : Engine) (before : DeviceState) (new : Engine) (after : DeviceState) : JournalError → Type 0 where
  WasAborted : old.aborted ≡ true → new ≡ old → Stays before after → after.faults ≡ before.faults → StepRefused old before new after Aborted
  DeviceFailed : CommitFaults old before.disk new after.disk → after.faults ≡ one_more_fault before.faults → StepRefused old before new after Device

-- what a checkpoint step did; the last one ends the round
abbrev pub RoundDid : Progress → Engine → Disk → Engine → Disk → Type 0
RoundDid NoProgress old disk new after =
    (old.round ≡ NoRound) × (old.released ≡ old.committed) × (old.aborted ≡ false) × (new ≡ old) × (after ≡ disk)
RoundDid Step old disk new after = RoundSteps old disk new after × (new.round ≢ NoRound)
RoundDid (Done tid) old disk new after = RoundSteps old disk new after × (new.round ≡ NoRound) × (tid + 1 ≡ new.first + new.released)

-- why a checkpoint step is refused
pub data RoundRefused (old : Engine) (before : DeviceState) (new : Engine) (after : DeviceState) : JournalError → Type 0 where
  RoundAborted : old.aborted ≡ true → new ≡ old → Stays before after → after.faults ≡ before.faults → RoundRefused old before new after Aborted
  RoundFailed : RoundFaults old before.disk new after.disk → after.faults ≡ one_more_fault before.faults → RoundRefused old before new after Device

-- home has the block, and the log can hold its number
abbrev pub MayTouch : Engine → ℕ → Type 0
MayTouch e b = IsAllowedBlock e.layout e.shape.home_blocks b

-- why a read is refused; the device fails only if no copy is pending
pub data ReadRefused {D : Type 0} (state : D → DeviceState) (old : EngineValue D) (b : ℕ) (new : EngineValue D) : JournalError → Type 0 where
  ReadAborted : old.engine.aborted ≡ true → new ≡ old → ReadRefused state old b new Aborted
  ReadOutside : old.engine.aborted ≡ false → (MayTouch old.engine b → ⊥) → new ≡ old → ReadRefused state old b new BadBlock
  ReadFailed : old.engine.aborted ≡ false → MayTouch old.engine b → ((i : ℕ) (v : List ℕ) → IsPending old.engine i b v → ⊥) →
      new.engine ≡ record old.engine { aborted = true } → (state new.device).faults ≡ one_more_fault (state old.device).faults →
      ReadRefused state old b new Device

-- a copy of the block is pending
pub record HasPending (e : Engine) (b : ℕ) : Type 0 where
  pub transaction : ℕ  -- from 0 since the opening
  pub bytes : List ℕ
  pub pending : IsPending e transaction b bytes

-- a moment of a commit step: home is as it was, and each crash image opens to a number from the committed to the accepted transactions
pub record IsDuringCommit (e : Engine) (old disk : Disk) : Type 0 where
  pub home : KeepsHome old disk
  pub opens : OpensBetween e.shape e.accepted e.committed (length e.accepted) disk

-- a moment of a checkpoint step: home gained newest committed copies alone, and each crash image opens likewise
pub record IsDuringRound (e : Engine) (old disk : Disk) : Type 0 where
  pub home : CopiesHome e old disk
  pub opens : OpensBetween e.shape e.accepted e.committed (length e.accepted) disk
