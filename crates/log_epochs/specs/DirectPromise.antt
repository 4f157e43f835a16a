-- What a synced direct write keeps: it survives every crash, and nothing older replaces it.
use Rattle.std.specs.Prelude.{◌≡◌, ◌⊎◌, ⊤, ℕ, List, ◌++◌, Some, map, Contains}
use Rattle.std.specs.List.{AllByRecursion}
use Rattle.journal_model.specs.declared.number.Area.TheVariants.{Home}
use Rattle.journal_model.specs.Disk.{IsOneOf, held}
use Rattle.journal_world.specs.Checkpoint.{IsRead}
use Rattle.log_epochs.specs.EngineSteps.Event.{Accept, Read, CommitStep, CommitFault, CheckpointStep, CheckpointFault, ReadFault, DirectWrite, DirectWriteFault, DirectSync, DirectSyncFault}
use Rattle.log_epochs.specs.EngineWorld.{Leads, Move, Moves, World}
use Rattle.log_epochs.specs.EngineWorld.Move.{Step, CloseStep, CloseFault, GiveUp, Stop, Begin, OpeningStep, OpeningFault, AnswerOk, Upgrade}
use Rattle.log_epochs.specs.EngineWorld.Phase.{Running}
use Rattle.log_epochs.specs.Epoch.{Epoch}

abbrev pub IsNoStop : Move → Type 0
IsNoStop (Stop left) = ⊥
IsNoStop (Step event) = ⊤
IsNoStop CloseStep = ⊤
IsNoStop CloseFault = ⊤
IsNoStop GiveUp = ⊤
IsNoStop (Begin found) = ⊤
IsNoStop OpeningStep = ⊤
IsNoStop OpeningFault = ⊤
IsNoStop AnswerOk = ⊤
IsNoStop (Upgrade move) = ⊤

-- the move hands over no transaction with an entry of the block
abbrev pub LeavesAlone : ℕ → Move → Type 0
LeavesAlone b (Step (Accept batch)) = Contains (map (λ p. p.0) batch.entries) b → ⊥
LeavesAlone b (Step (Read block bytes)) = ⊤
LeavesAlone b (Step CommitStep) = ⊤
LeavesAlone b (Step CommitFault) = ⊤
LeavesAlone b (Step CheckpointStep) = ⊤
LeavesAlone b (Step CheckpointFault) = ⊤
LeavesAlone b (Step ReadFault) = ⊤
LeavesAlone b (Step (DirectWrite block bytes)) = ⊤
LeavesAlone b (Step (DirectWriteFault block bytes)) = ⊤
LeavesAlone b (Step DirectSync) = ⊤
LeavesAlone b (Step DirectSyncFault) = ⊤
LeavesAlone b CloseStep = ⊤
LeavesAlone b CloseFault = ⊤
LeavesAlone b GiveUp = ⊤
LeavesAlone b (Stop left) = ⊤
LeavesAlone b (Begin found) = ⊤
LeavesAlone b OpeningStep = ⊤
LeavesAlone b OpeningFault = ⊤
LeavesAlone b AnswerOk = ⊤
LeavesAlone b (Upgrade move) = ⊤

-- Block b is written directly as v, and home is then synced, without a crash between. Other moves may come before,
-- between and after, but no transaction accepted since the write has an entry of the block.
pub record IsSynced (start : World) (b : ℕ) (v : List ℕ) (end : World) : Type 0 where
  pub before : List Move
  pub between : List Move
  pub behind : List Move
  pub ready : World
  pub written : World
  pub unsynced : World
  pub synced : World
  pub leads_to : Leads start before ready
  pub writes : Moves ready (Step (DirectWrite b v)) written
  pub leads_on : Leads written between unsynced
  pub syncs : Moves unsynced (Step DirectSync) synced
  pub leads : Leads synced behind end
  pub unstopped : AllByRecursion IsNoStop between
  pub alone : AllByRecursion (LeavesAlone b) (between ++ behind)

abbrev pub since_write : (start : World) (b : ℕ) (v : List ℕ) (end : World) → IsSynced start b v end → List Move
since_write start b v end run = run.between ++ run.behind

-- a direct write among the moves hands over these bytes, and may fail
pub data IsHandedOver (moves : List Move) (b : ℕ) (v : List ℕ) : Type 0 where
  Succeeded : Contains moves (Step (DirectWrite b v)) → IsHandedOver moves b v
  Failed : Contains moves (Step (DirectWriteFault b v)) → IsHandedOver moves b v

abbrev pub IsThatOrLater : List Move → ℕ → List ℕ → List ℕ → Type 0
IsThatOrLater since b v w = (w ≡ v) ⊎ IsHandedOver since b w

-- Home holds, and a running engine reads, only such bytes of the block; so each crash image has them.
pub record KeepsDirect (since : List Move) (b : ℕ) (v : List ℕ) (w : World) : Type 0 where
  pub holds : (u : List ℕ) → IsOneOf (held (w.disk Home b)) u → IsThatOrLater since b v u
  pub reads : (epoch : Epoch) (u : List ℕ) → w.phase ≡ Running → w.epoch ≡ Some epoch → IsRead epoch.engine w.disk b u → IsThatOrLater since b v u
