-- What a call that takes all turns does, and why it is refused.
use Rattle.std.specs.Prelude.{◌≡◌, ℕ, ◌<◌, true, false, [], length}
use Rattle.journal_model.specs.declared.refusal.JournalError.{JournalError}
use Rattle.journal_model.specs.declared.refusal.JournalError.TheVariants.{Aborted, Device, Memory, NotRunning}
use Rattle.block_device.specs.State.{DeviceState}
use Rattle.journal_world.specs.declared.stage.Stage.TheVariants.{Idle}
use Rattle.journal_world.specs.Front.{Front}
use Rattle.journal_steps.specs.Journal.{Requests}
use Rattle.journal_steps.specs.Values.{JournalValue}
use Rattle.group_commit.specs.Close.{HasSealed, Went, WentWrong}
use Rattle.group_commit.specs.Rounds.{MakesNoRound, MakesRoomAhead}

-- why the rounds do not finish
pub data ReleaseRefused {D : Type 0} (state : D → DeviceState) (old new : JournalValue D) : JournalError → Type 0 where
  ReleaseAborted : old.journal.engine.aborted ≡ true → new ≡ old → ReleaseRefused state old new Aborted
  ReleaseFailed : old.journal.engine.aborted ≡ false → WentWrong state old new → ReleaseRefused state old new Device

-- the running transaction is locked and has no open handle
abbrev pub IsReadyToSeal : Front → Type 0
IsReadyToSeal f = (f.locked ≡ true) × (f.open_handles ≡ [])

-- everything that can be committed is: with the running transaction if it was ready, after rounds for lack of room, and before steps
-- ahead of need; else without it, and with no round
pub data CommitsAll {D : Type 0} (state : D → DeviceState) (old new : JournalValue D) : Type 0 where
  WithRunning : IsReadyToSeal old.journal.front → HasSealed state old new → MakesRoomAhead state old new → CommitsAll state old new
  WithoutRunning : (IsReadyToSeal old.journal.front → ⊥) → Went state old new → MakesNoRound old.journal.engine new.journal.engine → CommitsAll state old new

-- Why not everything is committed. A ready transaction that memory refused stays as it was. (The code reserves room first, so
-- `StaysReady` does not come.)
pub data AllTurnsRefused {D : Type 0} (state : D → DeviceState) (old new : JournalValue D) : JournalError → Type 0 where
  TurnsAborted : old.journal.engine.aborted ≡ true → new ≡ old → AllTurnsRefused state old new Aborted
  FailedUnsealed : old.journal.engine.aborted ≡ false → WentWrong state old new → AllTurnsRefused state old new Device
  FailedSealed : old.journal.engine.aborted ≡ false → IsReadyToSeal old.journal.front → (mid : JournalValue D) → HasSealed state old mid → WentWrong state mid new →
      AllTurnsRefused state old new Device
  SealUnready : old.journal.engine.aborted ≡ false → IsReadyToSeal old.journal.front → 0 < length old.journal.front.running.handles → new ≡ old →
      AllTurnsRefused state old new Memory
  StaysReady : old.journal.engine.aborted ≡ false → IsReadyToSeal old.journal.front → 0 < length old.journal.front.running.handles → Went state old new →
      new.journal.engine.committed ≡ length new.journal.front.sealed → AllTurnsRefused state old new Memory

-- a request of the transaction, then all that can be committed, so that no commit is under way
pub record CommitsThrough {D : Type 0} (state : D → DeviceState) (tid : ℕ) (old new : JournalValue D) : Type 0 where
  pub asked : JournalValue D
  pub requests : Requests state tid old asked
  pub commits : CommitsAll state asked new
  pub idle : new.journal.engine.stage ≡ Idle

-- why a transaction is not committed after a request
pub data CommitRefused {D : Type 0} (state : D → DeviceState) (tid : ℕ) (old new : JournalValue D) (e : JournalError) : Type 0 where
  Unasked : e ≡ Aborted → old.journal.front.aborted ≡ true → new ≡ old → CommitRefused state tid old new e
  Unfinished : (asked : JournalValue D) → Requests state tid old asked → AllTurnsRefused state asked new e → CommitRefused state tid old new e
  StillOpen : CommitsThrough state tid old new → new.journal.front.mark < tid → e ≡ NotRunning → CommitRefused state tid old new e
