-- A fact of what an epoch has told holds through the moves below the journal, if it holds of each new epoch.
use Rattle.std.proofs.Common.{sym, ◌∙◌, ap, subst, arith}
use Rattle.std.specs.Prelude.{◌≡◌, ⊤, ℕ, ◌<◌, List, Option, Some, None}
use Rattle.std.proofs.lemmas.Option.{same_Some}
use Rattle.journal_model.specs.Disk.{Image, reading}
use Rattle.log_epochs.specs.EngineSteps.{Event}
use Rattle.log_epochs.specs.EngineSteps.Event.{Accept, Read, CommitStep, CommitFault, CheckpointStep, CheckpointFault, ReadFault, DirectWrite, DirectWriteFault, DirectSync, DirectSyncFault}
use Rattle.log_epochs.specs.EngineWorld.{Begins as BelowBegins, Move as BelowMove, Moves as BelowMoves, Steps as BelowSteps, World}
use Rattle.log_epochs.specs.EngineWorld.Begins.{Unopened, Made}
use Rattle.log_epochs.specs.EngineWorld.Move.{Step as EngineStep, CloseStep, CloseFault, GiveUp, Stop, Begin, OpeningStep, OpeningFault, AnswerOk, Upgrade}
use Rattle.log_epochs.specs.EngineWorld.UpgradeMove.{BeginUpgrade, UpgradeStep, UpgradeFault}
use Rattle.log_epochs.specs.Epoch.{Epoch, pinning, pinning_at}
use Rattle.log_epochs.specs.JournalWorld.{Begins, IsFreshTold, JournalWorld, TellsAfter, TellsAfterStep, TellsNothing, TellsSame, Told}
use Rattle.log_epochs.specs.OpeningSteps.{OpeningStage, next_of}
use Rattle.log_epochs.specs.OpeningSteps.OpeningStage.{LogFlush, Copies, SuperblockWrite, SuperblockFlush, Done}
use Rattle.log_epochs.specs.UpgradeSteps.{UpgradeStage, pinning_in}
use Rattle.log_epochs.specs.UpgradeSteps.UpgradeStage.{LogFlush as LogUnflushed, SuperblockWrite as Unwritten, SuperblockFlush as Unflushed, Done as Upgraded}

-- it holds now, if there is an epoch
abbrev pub Now : (Told → Type 0) → Option Epoch → Told → Type 0
Now P None told = ⊤
Now P (Some epoch) told = P told

pub now-some : (P : Told → Type 0) (epoch : Option Epoch) (current : Epoch) (told : Told) → epoch ≡ Some current → Now P epoch told → P told
now-some P epoch current told is now = subst (λ (o : Option Epoch). Now P o told) is now

-- it holds of each new epoch
abbrev pub OfNew : (Told → Type 0) → Type 0
OfNew P = (epoch : Epoch) (told : Told) → 0 < epoch.engine.first → IsFreshTold epoch told → P told

-- a pin does not matter
pinning-now : (P : Told → Type 0) (epoch : Option Epoch) (image : Image) (told : Told) → Now P epoch told → Now P (pinning epoch image) told
pinning-now P None image told now = tt
pinning-now P (Some epoch) image told now = now

stage-now : (P : Told → Type 0) (stage : OpeningStage) (epoch : Option Epoch) (image : Image) (told : Told) → Now P epoch told →
    Now P (pinning_at stage epoch image) told
stage-now P LogFlush epoch image told now = pinning-now P epoch image told now
stage-now P Copies epoch image told now = now
stage-now P SuperblockWrite epoch image told now = now
stage-now P SuperblockFlush epoch image told now = now
stage-now P Done epoch image told now = now

upgrade-now : (P : Told → Type 0) (stage : UpgradeStage) (epoch : Option Epoch) (image : Image) (told : Told) → Now P epoch told →
    Now P (pinning_in stage epoch image) told
upgrade-now P LogUnflushed epoch image told now = pinning-now P epoch image told now
upgrade-now P Unwritten epoch image told now = now
upgrade-now P Unflushed epoch image told now = now
upgrade-now P Upgraded epoch image told now = now

-- the same was told
same-now : (P : Told → Type 0) (old new : JournalWorld) (below : World) → new.below ≡ below → TellsSame old new →
    Now P below.epoch old.told → Now P new.below.epoch new.told
same-now P old new below is tells now =
    subst (λ (w : World). Now P w.epoch new.told) (sym is) (subst (Now P below.epoch) (sym tells.told) now)

read-now : (P : Told → Type 0) (old new : JournalWorld) (b : ℕ) (v : List ℕ) → BelowSteps old.below (Read b v) new.below →
    TellsSame old new → Now P old.below.epoch old.told → Now P new.below.epoch new.told
read-now P old new b v step tells now = same-now P old new _ step.after tells (now-some P old.below.epoch step.epoch old.told step.now now)

engine-now : (P : Told → Type 0) (old new : JournalWorld) (event : Event) → BelowSteps old.below event new.below →
    TellsAfterStep event old new → Now P old.below.epoch old.told → Now P new.below.epoch new.told
engine-now P old new (Read b v) step tells now = read-now P old new b v step tells now
engine-now P old new (Accept b) step tells now = absurd tells
engine-now P old new CommitStep step tells now = absurd tells
engine-now P old new CommitFault step tells now = absurd tells
engine-now P old new CheckpointStep step tells now = absurd tells
engine-now P old new CheckpointFault step tells now = absurd tells
engine-now P old new ReadFault step tells now = absurd tells
engine-now P old new (DirectWrite b v) step tells now = absurd tells
engine-now P old new (DirectWriteFault b v) step tells now = absurd tells
engine-now P old new DirectSync step tells now = absurd tells
engine-now P old new DirectSyncFault step tells now = absurd tells

-- each move below the journal
pub below-now : (P : Told → Type 0) → OfNew P → (old new : JournalWorld) (move : BelowMove) → BelowMoves old.below move new.below →
    TellsAfter move old new → Now P old.below.epoch old.told → Now P new.below.epoch new.told
below-now P fresh old new (EngineStep event) moves tells now = engine-now P old new event moves tells now
below-now P fresh old new CloseStep moves tells now = same-now P old new _ moves.after tells now
below-now P fresh old new CloseFault moves tells now = same-now P old new _ moves.after tells now
below-now P fresh old new GiveUp moves tells now = same-now P old new _ moves.after tells now
below-now P fresh old new (Stop left) moves tells now =
    same-now P old new _ moves.after tells (pinning-now P old.below.epoch left old.told now)
below-now P fresh old new (Begin found) moves tells now = same-now P old new _ moves.after tells now
below-now P fresh old new OpeningStep moves tells now =
    same-now P old new _ moves.after tells (stage-now P moves.stage old.below.epoch (reading old.below.disk) old.told now)
below-now P fresh old new OpeningFault moves tells now = same-now P old new _ moves.after tells now
below-now P fresh old new (Upgrade (BeginUpgrade block)) moves tells now = same-now P old new _ moves.after tells now
below-now P fresh old new (Upgrade UpgradeStep) moves tells now =
    same-now P old new _ moves.after tells (upgrade-now P moves.stage old.below.epoch (reading old.below.disk) old.told now)
below-now P fresh old new (Upgrade UpgradeFault) moves tells now = same-now P old new _ moves.after tells now
below-now P fresh old new AnswerOk moves tells now =
    let is = same_Some tells.epoch _ (sym tells.now ∙ ap (λ (w : World). w.epoch) moves.after) in
    let number : tells.epoch.engine.first ≡ next_of moves.found = ap (λ (e : Epoch). e.engine.first) is in
    let some : 0 < tells.epoch.engine.first = omega arith in
    subst (λ (o : Option Epoch). Now P o new.told) (sym tells.now) (fresh tells.epoch new.told some tells.fresh)

-- where a life begins
pub begin-now : (P : Told → Type 0) → OfNew P → (start : JournalWorld) → Begins start → Now P start.below.epoch start.told
begin-now P fresh start begins = from begins.below
  where
    from : BelowBegins start.below → Now P start.below.epoch start.told
    from (Unopened shut none first) = subst (λ (o : Option Epoch). Now P o start.told) (sym none) tt
    from (Made superblock next log running is first) =
        subst (λ (o : Option Epoch). Now P o start.told) (sym is)
        (fresh _ start.told log.some (subst (λ (o : Option Epoch). TellsNothing o start.told) is begins.fresh))
