-- What a close of a journal did, whatever it answered.
use Rattle.std.specs.Prelude.{◌≡◌, ℕ, false, [], length}
use Rattle.journal_model.specs.declared.refusal.JournalError.{JournalError}
use Rattle.journal_model.specs.declared.refusal.JournalError.TheVariants.{Device}
use Rattle.journal_model.specs.Disk.{Image, Leaves}
use Rattle.journal_model.specs.Record.{IsLegal}
use Rattle.journal_model.specs.Transaction.{History}
use Rattle.block_device.specs.State.{DeviceState, EachMoment, one_more_fault}
use Rattle.log_engine.specs.Close.{MakesCloseCalls}
use Rattle.log_epochs.specs.EngineWorld.Phase.{Shut}
use Rattle.log_epochs.specs.JournalPromise.{IsClosed}
use Rattle.journal_steps.specs.Journal.{Agrees, OpensOver}
use Rattle.journal_steps.specs.Values.{JournalValue}
use Rattle.group_commit.specs.Calls.{CallsForClose, engine_in}
use Rattle.group_commit.specs.Close.{CloseDid, CloseRefused, EndsWith, closing}
use Rattle.group_commit.specs.During.{IsDuringRounds, IsDuringTurns}

-- its parts, whatever its close answered: every crash image opens as they say, and where reads were correct their record is legal
pub record IsLeft {D : Type 0} (state : D → DeviceState) (honest : D → Type 0) (old : JournalValue D) (device : D) (sealed : History) (committed : ℕ) : Type 0 where
  pub opens : honest device → OpensOver old.journal.engine.shape sealed committed (length sealed) (state device).disk
  pub shape : (state device).shape ≡ (state old.device).shape
  pub honest_before : honest device → honest old.device
  pub legal : honest device → IsLegal sealed

-- what a close did to its device, up to its last moment: it made the calls of its turns and of the close of the log, and at each moment a
-- stop opens as between the turns
pub record WentTo {D : Type 0} (state : D → DeviceState) (honest : D → Type 0) (old : JournalValue D) (device : D) (sealed : History) : Type 0 where
  pub calls : CallsForClose state old device sealed
  pub moments : honest device → EachMoment (IsDuringTurns old.journal (state old.device).disk) (state old.device) (state device)

-- Ok: all that a close seals is sealed and committed, and the log is clean
pub record IsClosedWell {D : Type 0} (state : D → DeviceState) (honest : D → Type 0) (old : JournalValue D) (device : D) (sealed : History) (committed : ℕ) : Type 0 where
  pub stopped : old.journal.front.open_handles ≡ []
  pub running : old.journal.engine.aborted ≡ false
  pub all : sealed ≡ closing old.journal.front
  pub committed_all : committed ≡ length sealed
  pub clean : honest device → (image : Image) → Leaves (state device).disk image → IsClosed old.journal.engine.shape sealed image
  pub moves : CloseDid old.journal (state old.device).disk sealed committed (state device).disk
  pub no_fault : (state device).faults ≡ (state old.device).faults
  pub went : WentTo state honest old device sealed
  pub left : IsLeft state honest old device sealed committed

-- it is not closed, for the causes of a close: no handle was open
pub record IsNotClosed {D : Type 0} (state : D → DeviceState) (honest : D → Type 0) (old : JournalValue D) (device : D) (sealed : History) (committed : ℕ) (e : JournalError) : Type 0 where
  pub stopped : old.journal.front.open_handles ≡ []
  pub why : CloseRefused state old device sealed committed e
  pub ends : EndsWith old.journal (state old.device).disk sealed committed (state device).disk Shut
  pub went : WentTo state honest old device sealed
  pub left : IsLeft state honest old device sealed committed

-- what the close of the log, the last part of a close, made of the device: all is sealed and released before it
pub record ClosedLog {D : Type 0} (state : D → DeviceState) (honest : D → Type 0) (old : JournalValue D) (device : D) (sealed : History) (committed : ℕ) : Type 0 where
  pub agrees : Agrees old.journal
  pub sealed_is : sealed ≡ old.journal.front.sealed
  pub calls : MakesCloseCalls state (engine_in old) device
  pub moments : honest device → EachMoment (IsDuringRounds old.journal (state old.device).disk) (state old.device) (state device)
  pub left : IsLeft state honest old device sealed committed

-- Ok: the log is clean
pub record LogIsClosed {D : Type 0} (state : D → DeviceState) (honest : D → Type 0) (old : JournalValue D) (device : D) (sealed : History) (committed : ℕ) : Type 0 where
  pub made : ClosedLog state honest old device sealed committed
  pub committed_all : committed ≡ length sealed
  pub clean : honest device → (image : Image) → Leaves (state device).disk image → IsClosed old.journal.engine.shape sealed image
  pub moves : CloseDid old.journal (state old.device).disk sealed committed (state device).disk
  pub no_fault : (state device).faults ≡ (state old.device).faults

-- the device failed
pub record LogIsNotClosed {D : Type 0} (state : D → DeviceState) (honest : D → Type 0) (old : JournalValue D) (device : D) (sealed : History) (committed : ℕ) (e : JournalError) : Type 0 where
  pub made : ClosedLog state honest old device sealed committed
  pub why : e ≡ Device
  pub committed_is : committed ≡ old.journal.engine.committed
  pub fault : (state device).faults ≡ one_more_fault (state old.device).faults
  pub ends : EndsWith old.journal (state old.device).disk sealed committed (state device).disk Shut
