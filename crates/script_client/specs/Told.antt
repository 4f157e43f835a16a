-- What a journal's client records, and the moves of the machine that led there.
use Rattle.std.specs.Prelude.{◌≡◌, ⊤, ℕ, max, replicate, List, [], ◌∷◌, Option, Some, None}
use Rattle.journal_model.specs.declared.number.Area.TheVariants.{Home}
use Rattle.journal_model.specs.Disk.{Disk, IsOneOf, Shape}
use Rattle.journal_model.specs.Transaction.{History}
use Rattle.block_device.specs.State.{DeviceState}
use Rattle.journal_world.specs.Journal.{Journal}
use Rattle.journal_world.specs.Sound.{durable_cell}
use Rattle.log_epochs.specs.EngineWorld.Phase.{Running}
use Rattle.log_epochs.specs.JournalWorld.{Begins, JournalWorld, Leads, Move}
use Rattle.journal_script.specs.declared.script.Operation.{Operation}
use Rattle.journal_script.specs.Named.{IsDirectOf}
use Rattle.journal_steps.specs.Values.{JournalValue}

-- the view of a client: its journal and device, its operations, and the greatest acknowledged transaction, if any
pub record ClientValue (D : Type 0) : Type 0 where
  pub journal : JournalValue D
  pub operations : List Operation
  pub shown : Option ℕ

-- the greater of both numbers
abbrev pub with_told : ℕ → Option ℕ → Option ℕ
with_told tid None = Some tid
with_told tid (Some other) = Some (max other tid)

-- the greatest of these numbers, if any
abbrev pub greatest_of : List ℕ → Option ℕ
greatest_of [] = None
greatest_of (tid ∷ tids) = with_told tid (greatest_of tids)

-- each direct write is of a block that one of the operations writes directly
abbrev pub AreDirectsOf : List Operation → List (ℕ × List ℕ) → Type 0
AreDirectsOf operations directs = (b : ℕ) (v : List ℕ) → IsOneOf directs (b, v) → IsDirectOf operations b

-- the world of a running journal on a device whose log was opened with this disk, with these direct writes and these transactions
-- acknowledged
abbrev pub running_world : (opening : Disk) → Journal → DeviceState → (directs : List (ℕ × List ℕ)) → (answered : List ℕ) → JournalWorld
running_world opening j state directs answered = record {
  below = record {
    shape = state.shape;
    disk = state.disk;
    phase = Running;
    epoch = Some (record { opening = opening; engine = j.engine; directs = directs; pin = None });
    ended = [];
  };
  told = record { front = j.front; answered = answered };
  past = [];
}

-- Moves of the machine lead from a new journal, on a device whose disk satisfied `Fact`, to this one. Each direct write is of a block that
-- an operation writes directly. `shown` is the greatest acknowledged transaction.
pub record HasLedTo (Fact : Shape → Disk → Type 0) (operations : List Operation) (j : Journal) (state : DeviceState) (shown : Option ℕ) : Type 0 where
  pub measures : j.engine.shape ≡ state.shape
  pub opening : Disk
  pub fact : Fact state.shape opening
  pub start : JournalWorld
  pub begins : Begins start
  pub moves : List Move
  pub directs : List (ℕ × List ℕ)
  pub written : AreDirectsOf operations directs
  pub answered : List ℕ
  pub leads : Leads start moves (running_world opening j state directs answered)
  pub greatest : shown ≡ greatest_of answered

-- the same for the parts of a journal: its device, the sealed transactions, and the noted one
pub record IsLedTo (Fact : Shape → Disk → Type 0) (operations : List Operation) (state : DeviceState) (sealed : History) (shown : Option ℕ) : Type 0 where
  pub journal : Journal
  pub led : HasLedTo Fact operations journal state shown
  pub sealed_is : sealed ≡ journal.front.sealed

-- nothing is known of the disk
abbrev pub IsAnyHome : Shape → Disk → Type 0
IsAnyHome shape disk = ⊤

-- every block of home is durable zeros
abbrev pub IsZeroHome : Shape → Disk → Type 0
IsZeroHome shape disk = (b : ℕ) → disk Home b ≡ durable_cell (replicate shape.block_size 0)
