-- The close of a journal: the machine's moves, what it seals, how far it comes, and why it is refused.
use Rattle.std.specs.Prelude.{◌≡◌, ◌⊎◌, ℕ, ◌<◌, ◌≤◌, true, false, List, [], ◌∷◌, ◌++◌, length, Some}
use Rattle.journal_model.specs.declared.refusal.JournalError.{JournalError}
use Rattle.journal_model.specs.declared.refusal.JournalError.TheVariants.{Aborted, Device, Memory, NeedSpace}
use Rattle.journal_model.specs.Disk.{Disk}
use Rattle.journal_model.specs.Transaction.{History, Transaction}
use Rattle.block_device.specs.State.{DeviceState, one_more_fault}
use Rattle.journal_world.specs.Front.{Front, locking, sealing}
use Rattle.journal_world.specs.Journal.{Journal}
use Rattle.log_epochs.specs.EngineWorld.{Phase}
use Rattle.log_epochs.specs.EngineWorld.Phase.{Closed, Running, Shut}
use Rattle.log_epochs.specs.Epoch.{Epoch}
use Rattle.log_epochs.specs.JournalWorld.{JournalWorld, Leads, Move}
use Rattle.log_engine.specs.Close.{IsAllReleased}
use Rattle.journal_steps.specs.Journal.{HasRoomFor}
use Rattle.journal_steps.specs.Values.{JournalValue}

-- the sealed transactions, followed by the running one if these handles have joined it
abbrev pub with_running : History → Transaction → List ℕ → History
with_running sealed running [] = sealed
with_running sealed running (handle ∷ handles) = sealed ++ running ∷ []

-- the sealed transactions once the journal is closed
abbrev pub closing : Front → History
closing f = with_running f.sealed f.running f.running.handles

-- the front after the running transaction is sealed, if these handles have joined it
abbrev pub sealed_with : Front → List ℕ → Front
sealed_with f [] = f
sealed_with f (handle ∷ handles) = sealing f

-- the front after everything is sealed that a close seals
abbrev pub closing_front : Front → Front
closing_front f = sealed_with f f.running.handles

-- the front, with the other's `finished`, `mark` and `aborted`
abbrev pub told_as : Front → Front → Front
told_as f other = record f { finished = other.finished; mark = other.mark; aborted = other.aborted }

-- the sealed transactions at a moment of the close: those from before it, or all that it seals
abbrev pub IsSealedInClose : Front → History → Type 0
IsSealedInClose f ts = (ts ≡ f.sealed) ⊎ (ts ≡ closing f)

-- the world in which this journal works on this disk, in this epoch and phase
abbrev pub world_with : JournalWorld → Epoch → Journal → Disk → Phase → JournalWorld
world_with w epoch j disk phase = record w {
  below = record w.below { disk = disk; phase = phase; epoch = Some (record epoch { engine = j.engine }) };
  told = record w.told { front = j.front };
}

-- in any world and epoch, some moves of the machine lead from the running journal on the one disk to this one on the other, in this
-- phase
pub record ComesTo (old : Journal) (disk : Disk) (new : Journal) (after : Disk) (phase : Phase) : Type 0 where
  pub moves : List Move
  pub leads : (w : JournalWorld) (epoch : Epoch) → Leads (world_with w epoch old disk Running) moves (world_with w epoch new after phase)

-- the moves end in a journal that has sealed these transactions, and committed so many of them
pub record EndsWith (old : Journal) (disk : Disk) (sealed : History) (committed : ℕ) (after : Disk) (phase : Phase) : Type 0 where
  pub last : Journal
  pub comes : ComesTo old disk last after phase
  pub sealed_is : sealed ≡ last.front.sealed
  pub committed_is : committed ≡ last.engine.committed

-- what a close that answers Ok did: its last moves closed the log, or nothing was sealed since the opening
pub data CloseDid (old : Journal) (disk : Disk) (sealed : History) (committed : ℕ) (after : Disk) : Type 0 where
  ClosesLog : EndsWith old disk sealed committed after Closed → CloseDid old disk sealed committed after
  StaysClean : sealed ≡ [] → EndsWith old disk sealed committed after Shut → CloseDid old disk sealed committed after

-- Moves lead on: the front changed in `finished`, `mark` and `aborted` alone, the log keeps its layout and ring, and no fewer are
-- committed. Commit and checkpoint steps do this.
pub record GoesOn {D : Type 0} (state : D → DeviceState) (old new : JournalValue D) : Type 0 where
  pub front : new.journal.front ≡ told_as old.journal.front new.journal.front
  pub measures : new.journal.engine.shape ≡ old.journal.engine.shape
  pub layout : new.journal.engine.layout ≡ old.journal.engine.layout
  pub ring : new.journal.engine.ring ≡ old.journal.engine.ring
  pub committed : old.journal.engine.committed ≤ new.journal.engine.committed
  pub shape : (state new.device).shape ≡ (state old.device).shape
  pub path : ComesTo old.journal (state old.device).disk new.journal (state new.device).disk Running

-- such moves, without a device failure
pub record Went {D : Type 0} (state : D → DeviceState) (old new : JournalValue D) : Type 0 where
  pub on : GoesOn state old new
  pub running : new.journal.engine.aborted ≡ false
  pub faults : (state new.device).faults ≡ (state old.device).faults

-- such moves, with one device failure, so that the journal is aborted
pub record WentWrong {D : Type 0} (state : D → DeviceState) (old new : JournalValue D) : Type 0 where
  pub on : GoesOn state old new
  pub aborted : new.journal.engine.aborted ≡ true
  pub faults : (state new.device).faults ≡ one_more_fault (state old.device).faults

-- moves lead on, and everything is sealed that a close seals; otherwise the front changed in `finished`, `mark` and `aborted` alone,
-- and the device has not failed
pub record HasSealed {D : Type 0} (state : D → DeviceState) (old new : JournalValue D) : Type 0 where
  pub front : new.journal.front ≡ told_as (closing_front old.journal.front) new.journal.front
  pub measures : new.journal.engine.shape ≡ old.journal.engine.shape
  pub committed : old.journal.engine.committed ≤ new.journal.engine.committed
  pub shape : (state new.device).shape ≡ (state old.device).shape
  pub running : new.journal.engine.aborted ≡ false
  pub faults : (state new.device).faults ≡ (state old.device).faults
  pub path : ComesTo old.journal (state old.device).disk new.journal (state new.device).disk Running

-- all work before the close of the log is done
pub record IsFinished {D : Type 0} (state : D → DeviceState) (old new : JournalValue D) : Type 0 where
  pub was_running : old.journal.engine.aborted ≡ false
  pub sealed : new.journal.front.sealed ≡ closing old.journal.front
  pub all : IsAllReleased new.journal.engine
  pub running : new.journal.engine.aborted ≡ false
  pub committed : old.journal.engine.committed ≤ new.journal.engine.committed
  pub faults : (state new.device).faults ≡ (state old.device).faults

-- the running transaction, which a handle has joined, was not sealed; all earlier ones are committed
pub record StaysUnsealed (old : Journal) (sealed : History) (committed : ℕ) : Type 0 where
  pub joined : 0 < length old.front.running.handles
  pub same : sealed ≡ old.front.sealed
  pub all : committed ≡ length sealed

-- Why a close is refused, and what it leaves sealed and committed. The code reserves room first, so `NoMemory` does not come; no clause
-- can say so, as an engine's value does not show its room.
pub data CloseRefused {D : Type 0} (state : D → DeviceState) (old : JournalValue D) (device : D) (sealed : History) (committed : ℕ) : JournalError → Type 0 where
  CloseAborted : old.journal.engine.aborted ≡ true → device ≡ old.device → sealed ≡ old.journal.front.sealed → committed ≡ old.journal.engine.committed →
      CloseRefused state old device sealed committed Aborted
  CloseFailed : old.journal.engine.aborted ≡ false → IsSealedInClose old.journal.front sealed → old.journal.engine.committed ≤ committed →
      (state device).faults ≡ one_more_fault (state old.device).faults → CloseRefused state old device sealed committed Device
  NotReady : old.journal.engine.aborted ≡ false → 0 < length old.journal.front.running.handles → device ≡ old.device → sealed ≡ old.journal.front.sealed →
      committed ≡ old.journal.engine.committed → CloseRefused state old device sealed committed Memory
  NoMemory : old.journal.engine.aborted ≡ false → StaysUnsealed old.journal sealed committed → (state device).faults ≡ (state old.device).faults →
      CloseRefused state old device sealed committed Memory

-- the journal with its running transaction locked
abbrev pub locked_journal : {D : Type 0} → JournalValue D → JournalValue D
locked_journal old = record old { journal = record old.journal { front = locking old.journal.front } }

-- Why the running transaction, which a handle has joined, is not sealed and committed. (The code reserves room first, so `LeftUnsealed`
-- does not come.)
pub data LastRefused {D : Type 0} (state : D → DeviceState) (old new : JournalValue D) : JournalError → Type 0 where
  FailedBefore : WentWrong state old new → LastRefused state old new Device
  FailedAfter : (mid : JournalValue D) → HasSealed state old mid → WentWrong state mid new → LastRefused state old new Device
  NotMadeReady : new ≡ old → LastRefused state old new Memory
  LeftUnsealed : (mid : JournalValue D) → Went state old mid → mid.journal.engine.committed ≡ length mid.journal.front.sealed → new ≡ locked_journal mid →
      LastRefused state old new Memory

-- why the running transaction is not sealed
pub data SealRefused (j : Journal) : JournalError → Type 0 where
  NoRoomForIt : (HasRoomFor j → ⊥) → SealRefused j NeedSpace
  NoMemoryForIt : HasRoomFor j → SealRefused j Memory
