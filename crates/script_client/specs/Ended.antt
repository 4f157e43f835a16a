-- What is left of a journal that its client has ended.
use Rattle.std.specs.Prelude.{◌≡◌, ℕ, ◌<◌, List, [], Option, Some, None, length}
use Rattle.journal_model.specs.declared.refusal.JournalError.{JournalError}
use Rattle.journal_model.specs.declared.refusal.JournalError.TheVariants.{NotRunning}
use Rattle.journal_model.specs.Disk.{Disk, Image, Leaves, Shape}
use Rattle.journal_model.specs.Transaction.{History}
use Rattle.block_device.specs.State.{DeviceState}
use Rattle.journal_world.specs.Journal.{Journal}
use Rattle.log_epochs.specs.EngineWorld.{Phase}
use Rattle.log_epochs.specs.JournalPromise.{IsClosed}
use Rattle.log_epochs.specs.JournalWorld.{Begins, JournalWorld, Leads, Move}
use Rattle.journal_front.specs.Values.{HandleValue}
use Rattle.journal_steps.specs.Values.{JournalValue}
use Rattle.group_commit.specs.Close.{CloseRefused}
use Rattle.group_commit.specs.Extension.{EndsHandle}
use Rattle.journal_script.specs.declared.script.Operation.{Operation}
use Rattle.script_client.specs.Told.{AreDirectsOf, greatest_of}

-- the world of a journal in this phase, on a device whose log was opened with this disk, with these direct writes and these transactions
-- acknowledged
abbrev pub world_in : Phase → (opening : Disk) → Journal → DeviceState → (directs : List (ℕ × List ℕ)) → (answered : List ℕ) → JournalWorld
world_in phase opening j state directs answered = record {
  below = record {
    shape = state.shape;
    disk = state.disk;
    phase = phase;
    epoch = Some (record { opening = opening; engine = j.engine; directs = directs; pin = None });
    ended = [];
  };
  told = record { front = j.front; answered = answered };
  past = [];
}

-- Moves of the machine lead from a new journal, on a device whose disk satisfied `Fact`, to this state, in any phase: the journal runs, is
-- closed, or ended in a failure or a refusal. `shown` is the greatest acknowledged transaction. Each direct write is of a block that an
-- operation writes directly.
pub record IsEnded (Fact : Shape → Disk → Type 0) (operations : List Operation) (state : DeviceState) (sealed : History) (shown : Option ℕ) : Type 0 where
  pub opening : Disk
  pub fact : Fact state.shape opening
  pub start : JournalWorld
  pub begins : Begins start
  pub moves : List Move
  pub journal : Journal
  pub phase : Phase
  pub directs : List (ℕ × List ℕ)
  pub written : AreDirectsOf operations directs
  pub answered : List ℕ
  pub leads : Leads start moves (world_in phase opening journal state directs answered)
  pub greatest : shown ≡ greatest_of answered
  pub sealed_is : sealed ≡ journal.front.sealed

-- every crash image has a clean log, and opens to all of these transactions
pub record IsLeftClosed (state : DeviceState) (sealed : History) : Type 0 where
  pub each : (image : Image) → Leaves state.disk image → IsClosed state.shape sealed image

-- handles were stopped, one after another
pub data StopsHandles {D : Type 0} (state : D → DeviceState) : JournalValue D → JournalValue D → Type 0 where
  NoneStops : (j : JournalValue D) → StopsHandles state j j
  OneStops : (h : HandleValue) (old mid new : JournalValue D) → StopsHandles state old mid → EndsHandle state h mid new → StopsHandles state old new

-- why a journal is not closed: a handle is open and nothing was done, or the close was refused
pub data WhyUnclosed {D : Type 0} (state : D → DeviceState) (old : JournalValue D) (device : D) (sealed : History) (committed : ℕ) (e : JournalError) : Type 0 where
  HandleIsOpen : 0 < length old.journal.front.open_handles → device ≡ old.device → sealed ≡ old.journal.front.sealed → committed ≡ old.journal.engine.committed →
      e ≡ NotRunning → WhyUnclosed state old device sealed committed e
  IsRefused : CloseRefused state old device sealed committed e → WhyUnclosed state old device sealed committed e

-- handles were stopped, and then the journal was not closed, for this cause
pub record IsUnclosed {D : Type 0} (state : D → DeviceState) (old : JournalValue D) (device : D) (sealed : History) (e : JournalError) : Type 0 where
  pub stopped : JournalValue D
  pub stops : StopsHandles state old stopped
  pub committed : ℕ
  pub why : WhyUnclosed state stopped device sealed committed e
