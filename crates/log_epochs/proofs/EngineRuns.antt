-- Over any moves, some transactions have the batches of each epoch's engine.
use Rattle.std.proofs.Common.{refl, sym, ap, subst, arith}
use Rattle.std.specs.Prelude.{◌≡◌, ⊤, true, List, [], ◌∷◌, Option, Some, None}
use Rattle.journal_model.specs.declared.entry.Batch.{Batch}
use Rattle.journal_model.specs.Disk.{Disk, Image, reading}
use Rattle.journal_model.specs.Transaction.{History}
use Rattle.journal_world.specs.Engine.{Accepts, AreBatchesOf, Engine}
use Rattle.journal_world.proofs.Histories.{history-more}
use Rattle.journal_world.proofs.Onward.{GoesOn, aborted-on, fault-on, round-fault-on, round-on, step-on}
use Rattle.log_epochs.specs.EngineSteps.{Event, Happens}
use Rattle.log_epochs.specs.EngineSteps.Event.{Accept, Read, CommitStep, CommitFault, CheckpointStep, CheckpointFault, ReadFault, DirectWrite, DirectWriteFault, DirectSync, DirectSyncFault}
use Rattle.log_epochs.specs.EngineWorld.{Begins, Leads, Move, Moves, World}
use Rattle.log_epochs.specs.EngineWorld.Begins.{Unopened, Made}
use Rattle.log_epochs.specs.EngineWorld.Move.{Step, CloseStep, CloseFault, GiveUp, Stop, Begin, OpeningStep, OpeningFault, AnswerOk, Upgrade}
use Rattle.log_epochs.specs.Epoch.{Epoch, pinning, pinning_at}
use Rattle.log_epochs.specs.OpeningSteps.{OpeningStage}
use Rattle.log_epochs.specs.OpeningSteps.OpeningStage.{LogFlush, Copies, SuperblockWrite, SuperblockFlush, Done}
use Rattle.log_epochs.specs.UpgradeSteps.{UpgradeStage, pinning_in}
use Rattle.log_epochs.specs.UpgradeSteps.UpgradeStage.{LogFlush as LogUnflushed, SuperblockWrite as Unwritten, SuperblockFlush as Unflushed, Done as Upgraded}
use Rattle.log_epochs.specs.EngineWorld.UpgradeMove.{BeginUpgrade, UpgradeStep, UpgradeFault}

-- a fact of the epoch's engine, or another without an epoch
abbrev pub OfEngine : Type 0 → (Engine → Type 0) → Option Epoch → Type 0
OfEngine none P None = none
OfEngine none P (Some epoch) = P epoch.engine

pinning-engine : (none : Type 0) (P : Engine → Type 0) (epoch : Option Epoch) (image : Image) → OfEngine none P epoch → OfEngine none P (pinning epoch image)
pinning-engine none P None image of = of
pinning-engine none P (Some epoch) image of = of

stage-engine : (none : Type 0) (P : Engine → Type 0) (stage : OpeningStage) (epoch : Option Epoch) (image : Image) → OfEngine none P epoch → OfEngine none P (pinning_at stage epoch image)
stage-engine none P LogFlush epoch image of = pinning-engine none P epoch image of
stage-engine none P Copies epoch image of = of
stage-engine none P SuperblockWrite epoch image of = of
stage-engine none P SuperblockFlush epoch image of = of
stage-engine none P Done epoch image of = of

upgrade-engine : (none : Type 0) (P : Engine → Type 0) (stage : UpgradeStage) (epoch : Option Epoch) (image : Image) → OfEngine none P epoch → OfEngine none P (pinning_in stage epoch image)
upgrade-engine none P LogUnflushed epoch image of = pinning-engine none P epoch image of
upgrade-engine none P Unwritten epoch image of = of
upgrade-engine none P Unflushed epoch image of = of
upgrade-engine none P Upgraded epoch image of = of

pub now-engine : (none : Type 0) (P : Engine → Type 0) (epoch : Option Epoch) (now : Epoch) → epoch ≡ Some now → OfEngine none P epoch → P now.engine
now-engine none P epoch now is of = subst (OfEngine none P) is of

-- a fact of engines holds after each move, if each step and a fresh engine have it
pub move-engine : (none : Type 0) (P : Engine → Type 0) (old new : World) (move : Move) →
    ((e new_engine : Engine) (disk after : Disk) (event : Event) → move ≡ Step event → Happens e disk event new_engine after → P e → P new_engine) →
    ((e : Engine) → e.accepted ≡ [] → P e) → Moves old move new → OfEngine none P old.epoch → OfEngine none P new.epoch
move-engine none P old new (Step event) steps fresh moves of =
    subst (λ (w : World). OfEngine none P w.epoch) (sym moves.after)
    (steps moves.epoch.engine moves.engine old.disk new.disk event refl moves.happens (now-engine none P old.epoch moves.epoch moves.now of))
move-engine none P old new CloseStep steps fresh moves of = subst (λ (w : World). OfEngine none P w.epoch) (sym moves.after) of
move-engine none P old new CloseFault steps fresh moves of = subst (λ (w : World). OfEngine none P w.epoch) (sym moves.after) of
move-engine none P old new GiveUp steps fresh moves of = subst (λ (w : World). OfEngine none P w.epoch) (sym moves.after) of
move-engine none P old new (Stop left) steps fresh moves of =
    subst (λ (w : World). OfEngine none P w.epoch) (sym moves.after) (pinning-engine none P old.epoch left of)
move-engine none P old new (Begin found) steps fresh moves of = subst (λ (w : World). OfEngine none P w.epoch) (sym moves.after) of
move-engine none P old new OpeningStep steps fresh moves of =
    subst (λ (w : World). OfEngine none P w.epoch) (sym moves.after) (stage-engine none P moves.stage old.epoch (reading old.disk) of)
move-engine none P old new OpeningFault steps fresh moves of = subst (λ (w : World). OfEngine none P w.epoch) (sym moves.after) of
move-engine none P old new (Upgrade (BeginUpgrade block)) steps fresh moves of = subst (λ (w : World). OfEngine none P w.epoch) (sym moves.after) of
move-engine none P old new (Upgrade UpgradeStep) steps fresh moves of =
    subst (λ (w : World). OfEngine none P w.epoch) (sym moves.after) (upgrade-engine none P moves.stage old.epoch (reading old.disk) of)
move-engine none P old new (Upgrade UpgradeFault) steps fresh moves of = subst (λ (w : World). OfEngine none P w.epoch) (sym moves.after) of
move-engine none P old new AnswerOk steps fresh moves of = subst (λ (w : World). OfEngine none P w.epoch) (sym moves.after) (fresh _ refl)

-- a step of the engine takes a batch, or the engine goes on
pub data IsOnward (old : Engine) (event : Event) (new : Engine) : Type 0 where
  Taken : (batch : Batch) → event ≡ Accept batch → Accepts old batch new → IsOnward old event new
  Going : GoesOn old new → IsOnward old event new

same-on : (old new : Engine) → new ≡ old → GoesOn old new
same-on old new same =
    subst (GoesOn old) (sym same) (record { shape = refl; layout = refl; ring = refl; first = refl; accepted = refl; committed = omega arith })

failed-on : (old new : Engine) → new ≡ record old { aborted = true } → GoesOn old new
failed-on old new is = subst (GoesOn old) (sym is) (aborted-on old)

pub event-onward : (old new : Engine) (disk after : Disk) (event : Event) → Happens old disk event new after → IsOnward old event new
event-onward old new disk after (Accept batch) happens = Taken batch refl happens.engine
event-onward old new disk after (Read b v) happens = Going (same-on old new happens.engine)
event-onward old new disk after CommitStep happens = Going (step-on old new disk after happens)
event-onward old new disk after CommitFault happens = Going (fault-on old new disk after happens)
event-onward old new disk after CheckpointStep happens = Going (round-on old new disk after happens)
event-onward old new disk after CheckpointFault happens = Going (round-fault-on old new disk after happens)
event-onward old new disk after ReadFault happens = Going (failed-on old new happens.engine)
event-onward old new disk after (DirectWrite b v) happens = Going (same-on old new happens.engine)
event-onward old new disk after (DirectWriteFault b v) happens = Going (failed-on old new happens.engine)
event-onward old new disk after DirectSync happens = Going (same-on old new happens.engine)
event-onward old new disk after DirectSyncFault happens = Going (failed-on old new happens.engine)

-- some transactions have the engine's batches
pub record HasHistory (e : Engine) : Type 0 where
  pub history : History
  pub batches : AreBatchesOf history e.accepted

-- this holds after each step of the engine
event-history : (old new : Engine) (disk after : Disk) (event : Event) → Happens old disk event new after → HasHistory old → HasHistory new
event-history old new disk after event happens has = by (event-onward old new disk after event happens)
  where
    by : IsOnward old event new → HasHistory new
    by (Taken batch is accepts) =
        let (more, are) = history-more has.history old.accepted batch accepts.batch.once has.batches in
        record { history = more; batches = subst (λ (e : Engine). AreBatchesOf more e.accepted) (sym accepts.after) are }
    by (Going on) = record { history = has.history; batches = subst (AreBatchesOf has.history) (sym on.accepted) has.batches }

-- an engine without batches has the empty history
fresh-history : (e : Engine) → e.accepted ≡ [] → HasHistory e
fresh-history e none = record { history = []; batches = subst (AreBatchesOf []) (sym none) tt }

-- this holds after each move
pub move-history : (old new : World) (move : Move) → Moves old move new → OfEngine ⊤ HasHistory old.epoch → OfEngine ⊤ HasHistory new.epoch
move-history old new move moves history =
    move-engine ⊤ HasHistory old new move (λ e f disk after event is happens had. event-history e f disk after event happens had)
    (λ e none. fresh-history e none) moves history

pub run-history : (old new : World) (moves : List Move) → OfEngine ⊤ HasHistory old.epoch → Leads old moves new → OfEngine ⊤ HasHistory new.epoch
run-history old new [] history same = subst (λ (w : World). OfEngine ⊤ HasHistory w.epoch) (sym same) history
run-history old new (move ∷ moves) history (mid, first, rest) = run-history mid new moves (move-history old mid move first history) rest

pub begin-history : (w : World) → Begins w → OfEngine ⊤ HasHistory w.epoch
begin-history w (Unopened shut none first) = subst (OfEngine ⊤ HasHistory) (sym none) tt
begin-history w (Made superblock next log running is first) = subst (OfEngine ⊤ HasHistory) (sym is) (fresh-history _ refl)

-- no move changes the shape of the device
pub move-shape : (old new : World) (move : Move) → Moves old move new → new.shape ≡ old.shape
move-shape old new (Step event) moves = ap (λ (w : World). w.shape) moves.after
move-shape old new CloseStep moves = ap (λ (w : World). w.shape) moves.after
move-shape old new CloseFault moves = ap (λ (w : World). w.shape) moves.after
move-shape old new GiveUp moves = ap (λ (w : World). w.shape) moves.after
move-shape old new (Stop left) moves = ap (λ (w : World). w.shape) moves.after
move-shape old new (Begin found) moves = ap (λ (w : World). w.shape) moves.after
move-shape old new OpeningStep moves = ap (λ (w : World). w.shape) moves.after
move-shape old new OpeningFault moves = ap (λ (w : World). w.shape) moves.after
move-shape old new (Upgrade (BeginUpgrade block)) moves = ap (λ (w : World). w.shape) moves.after
move-shape old new (Upgrade UpgradeStep) moves = ap (λ (w : World). w.shape) moves.after
move-shape old new (Upgrade UpgradeFault) moves = ap (λ (w : World). w.shape) moves.after
move-shape old new AnswerOk moves = ap (λ (w : World). w.shape) moves.after
