-- What a journal keeps of a synced direct write, until it seals a transaction with an entry of the block.
use Rattle.std.specs.Prelude.{◌≡◌, ◌⊎◌, ⊤, ℕ, List, [], ◌∷◌, ◌++◌, Some, None, Contains}
use Rattle.std.specs.List.{AllByRecursion}
use Rattle.journal_model.specs.declared.number.Area.TheVariants.{Home}
use Rattle.journal_model.specs.Disk.{IsOneOf, held}
use Rattle.journal_model.specs.Transaction.{effect}
use Rattle.journal_world.specs.Checkpoint.{IsRead}
use Rattle.journal_world.specs.Front.{Front}
use Rattle.journal_world.specs.Journal.{Event}
use Rattle.journal_world.specs.Journal.Event.{FrontStep, Seal, CommitStep, CommitFault, CheckpointStep, CheckpointFault, ReadBlock, ReadFault, DirectWrite, DirectWriteFault, DirectSync, DirectSyncFault, Finish, AbortMark}
use Rattle.log_epochs.specs.DirectPromise.{IsNoStop as BelowIsNoStop}
use Rattle.log_epochs.specs.EngineWorld.Phase.{Running}
use Rattle.log_epochs.specs.Epoch.{Epoch}
use Rattle.log_epochs.specs.JournalWorld.{JournalWorld, Leads, Move, Moves}
use Rattle.log_epochs.specs.JournalWorld.Move.{Step, Answer, Below}

abbrev pub IsNoStop : Move → Type 0
IsNoStop (Step event) = ⊤
IsNoStop (Answer tid) = ⊤
IsNoStop (Below move) = BelowIsNoStop move

-- the step seals no transaction with an entry of the block
abbrev pub SealsWithout : ℕ → Front → Event → Type 0
SealsWithout b f Seal = effect b f.running.steps ≡ None
SealsWithout b f (FrontStep event) = ⊤
SealsWithout b f CommitStep = ⊤
SealsWithout b f CommitFault = ⊤
SealsWithout b f CheckpointStep = ⊤
SealsWithout b f CheckpointFault = ⊤
SealsWithout b f (ReadBlock h block bytes) = ⊤
SealsWithout b f ReadFault = ⊤
SealsWithout b f (DirectWrite block bytes) = ⊤
SealsWithout b f (DirectWriteFault block bytes) = ⊤
SealsWithout b f DirectSync = ⊤
SealsWithout b f DirectSyncFault = ⊤
SealsWithout b f Finish = ⊤
SealsWithout b f AbortMark = ⊤

abbrev pub LeavesAlone : ℕ → Front → Move → Type 0
LeavesAlone b f (Step event) = SealsWithout b f event
LeavesAlone b f (Answer tid) = ⊤
LeavesAlone b f (Below move) = ⊤

abbrev pub LeaveAlone : (b : ℕ) (old : JournalWorld) (moves : List Move) (new : JournalWorld) → Leads old moves new → Type 0
LeaveAlone b old [] new same = ⊤
LeaveAlone b old (move ∷ moves) new (mid, first, rest) = LeavesAlone b old.told.front move × LeaveAlone b mid moves new rest

-- Block b is written directly as v, and home is then synced, without a crash between. Other moves may come before, between
-- and after, but no transaction sealed since the write has an entry of the block.
pub record IsSynced (start : JournalWorld) (b : ℕ) (v : List ℕ) (end : JournalWorld) : Type 0 where
  pub before : List Move
  pub between : List Move
  pub behind : List Move
  pub ready : JournalWorld
  pub written : JournalWorld
  pub unsynced : JournalWorld
  pub synced : JournalWorld
  pub leads_to : Leads start before ready
  pub writes : Moves ready (Step (DirectWrite b v)) written
  pub leads_on : Leads written between unsynced
  pub syncs : Moves unsynced (Step DirectSync) synced
  pub leads : Leads synced behind end
  pub unstopped : AllByRecursion IsNoStop between
  pub alone : LeaveAlone b written between unsynced leads_on
  pub alone_after : LeaveAlone b synced behind end leads

abbrev pub since_write : (start : JournalWorld) (b : ℕ) (v : List ℕ) (end : JournalWorld) → IsSynced start b v end → List Move
since_write start b v end run = run.between ++ run.behind

-- a direct write among the moves hands over these bytes, and may fail
pub data IsHandedOver (moves : List Move) (b : ℕ) (v : List ℕ) : Type 0 where
  Succeeded : Contains moves (Step (DirectWrite b v)) → IsHandedOver moves b v
  Failed : Contains moves (Step (DirectWriteFault b v)) → IsHandedOver moves b v

abbrev pub IsThatOrLater : List Move → ℕ → List ℕ → List ℕ → Type 0
IsThatOrLater since b v w = (w ≡ v) ⊎ IsHandedOver since b w

-- Home holds, and the engine of a running journal reads, only such bytes of the block; so each crash image has them. (The
-- front may read an entry of an unsealed transaction.)
pub record KeepsDirect (since : List Move) (b : ℕ) (v : List ℕ) (w : JournalWorld) : Type 0 where
  pub holds : (u : List ℕ) → IsOneOf (held (w.below.disk Home b)) u → IsThatOrLater since b v u
  pub reads : (epoch : Epoch) (u : List ℕ) → w.below.phase ≡ Running → w.below.epoch ≡ Some epoch → IsRead epoch.engine w.below.disk b u →
      IsThatOrLater since b v u
