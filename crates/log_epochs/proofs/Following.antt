-- Each epoch begins on the disk that the one before ended with.
use Rattle.std.proofs.Common.{refl, sym, subst}
use Rattle.std.specs.Prelude.{ℕ, List, [], ◌∷◌, Option, Some, None}
use Rattle.journal_model.specs.declared.number.Area.TheVariants.{Log}
use Rattle.journal_model.specs.Disk.{Image, reading}
use Rattle.journal_world.specs.Engine.{Engine}
use Rattle.journal_world.specs.Opening.{cleaned}
use Rattle.log_epochs.specs.EnginePromise.{Continues}
use Rattle.log_epochs.specs.EngineSteps.{with_directs}
use Rattle.log_epochs.specs.EngineWorld.{Begins, Leads, Move, Moves, World}
use Rattle.log_epochs.specs.EngineWorld.Begins.{Unopened, Made}
use Rattle.log_epochs.specs.EngineWorld.Move.{Step, CloseStep, CloseFault, GiveUp, Stop, Begin, OpeningStep, OpeningFault, AnswerOk, Upgrade}
use Rattle.log_epochs.specs.Epoch.{Ended, Epoch, ending, fresh_epoch, pinning, pinning_at}
use Rattle.log_epochs.specs.OpeningSteps.{OpeningStage, next_of}
use Rattle.log_epochs.specs.OpeningSteps.OpeningStage.{LogFlush, Copies, SuperblockWrite, SuperblockFlush, Done}
use Rattle.log_epochs.specs.UpgradeSteps.{UpgradeStage, pinning_in}
use Rattle.log_epochs.specs.UpgradeSteps.UpgradeStage.{LogFlush as LogUnflushed, SuperblockWrite as Unwritten, SuperblockFlush as Unflushed, Done as Upgraded}
use Rattle.log_epochs.specs.EngineWorld.UpgradeMove.{BeginUpgrade, UpgradeStep, UpgradeFault}

abbrev Follows : World → Type 0
Follows w = Continues w.epoch w.ended

-- other engines, direct writes and pins leave the begin of an epoch
engine-follows : (epoch : Epoch) (engine : Engine) (directs : List (ℕ × List ℕ)) (ended : List Ended) → Continues (Some epoch) ended →
    Continues (Some (record epoch { engine = engine; directs = directs })) ended
engine-follows epoch engine directs [] follows = tt
engine-follows epoch engine directs (x ∷ xs) follows = follows

pinning-follows : (epoch : Option Epoch) (image : Image) (ended : List Ended) → Continues epoch ended → Continues (pinning epoch image) ended
pinning-follows None image ended follows = follows
pinning-follows (Some epoch) image [] follows = tt
pinning-follows (Some epoch) image (x ∷ xs) follows = follows

stage-follows : (stage : OpeningStage) (epoch : Option Epoch) (image : Image) (ended : List Ended) → Continues epoch ended →
    Continues (pinning_at stage epoch image) ended
stage-follows LogFlush epoch image ended follows = pinning-follows epoch image ended follows
stage-follows Copies epoch image ended follows = follows
stage-follows SuperblockWrite epoch image ended follows = follows
stage-follows SuperblockFlush epoch image ended follows = follows
stage-follows Done epoch image ended follows = follows

upgrade-follows : (stage : UpgradeStage) (epoch : Option Epoch) (image : Image) (ended : List Ended) → Continues epoch ended →
    Continues (pinning_in stage epoch image) ended
upgrade-follows LogUnflushed epoch image ended follows = pinning-follows epoch image ended follows
upgrade-follows Unwritten epoch image ended follows = follows
upgrade-follows Unflushed epoch image ended follows = follows
upgrade-follows Upgraded epoch image ended follows = follows

-- an epoch that begins as another ends follows it
ending-follows : (epoch : Option Epoch) (fresh : Epoch) (ended : List Ended) → Continues epoch ended →
    Continues (Some fresh) (ending epoch fresh.opening ended)
ending-follows None fresh [] follows = tt
ending-follows None fresh (x ∷ xs) follows = absurd follows
ending-follows (Some epoch) fresh ended follows = (refl, follows)

move-follows : (old new : World) (move : Move) → Moves old move new → Follows old → Follows new
move-follows old new (Step event) moves follows =
    subst Follows (sym moves.after)
    (engine-follows moves.epoch moves.engine (with_directs event moves.epoch.directs) old.ended (subst (λ (o : Option Epoch). Continues o old.ended) moves.now follows))
move-follows old new CloseStep moves follows = subst Follows (sym moves.after) follows
move-follows old new CloseFault moves follows = subst Follows (sym moves.after) follows
move-follows old new GiveUp moves follows = subst Follows (sym moves.after) follows
move-follows old new (Stop left) moves follows = subst Follows (sym moves.after) (pinning-follows old.epoch left old.ended follows)
move-follows old new (Begin found) moves follows = subst Follows (sym moves.after) follows
move-follows old new OpeningStep moves follows =
    subst Follows (sym moves.after) (stage-follows moves.stage old.epoch (reading old.disk) old.ended follows)
move-follows old new OpeningFault moves follows = subst Follows (sym moves.after) follows
move-follows old new (Upgrade (BeginUpgrade block)) moves follows = subst Follows (sym moves.after) follows
move-follows old new (Upgrade UpgradeStep) moves follows =
    subst Follows (sym moves.after) (upgrade-follows moves.stage old.epoch (reading old.disk) old.ended follows)
move-follows old new (Upgrade UpgradeFault) moves follows = subst Follows (sym moves.after) follows
move-follows old new AnswerOk moves follows =
    let fresh : Epoch = fresh_epoch old.shape (cleaned (moves.found.image Log 0) (next_of moves.found)) (next_of moves.found) old.disk in
    subst Follows (sym moves.after) (ending-follows old.epoch fresh old.ended follows)

pub run-follows : (old new : World) (moves : List Move) → Follows old → Leads old moves new → Follows new
run-follows old new [] follows same = subst Follows (sym same) follows
run-follows old new (move ∷ moves) follows (mid, first, rest) = run-follows mid new moves (move-follows old mid move first follows) rest

-- the first epoch follows nothing
none-follows : (epoch : Option Epoch) → Continues epoch []
none-follows None = tt
none-follows (Some epoch) = tt

pub begin-follows : (w : World) → Begins w → Follows w
begin-follows w (Unopened shut none first) = subst (Continues w.epoch) (sym first) (none-follows w.epoch)
begin-follows w (Made superblock next log running is first) = subst (Continues w.epoch) (sym first) (none-follows w.epoch)
