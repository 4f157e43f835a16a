-- What every life of a log keeps.
use Rattle.std.proofs.Common.{refl, sym, ◌∙◌, ap, subst, ⊎_elim, inl, inr}
use Rattle.std.specs.Prelude.{◌≡◌, ℕ, List, [], ◌∷◌, Option, Some, None}
use Rattle.std.specs.List.{AllByRecursion}
use Rattle.std.proofs.lemmas.Option.{same_Some}
use Rattle.journal_model.specs.declared.number.Area.TheVariants.{Log}
use Rattle.journal_model.specs.Disk.{Cell, Disk, Image, Leaves, Shape, flushed, written, IsOneOf, held}
use Rattle.log_model.specs.Opening.{IsClean}
use Rattle.log_model.specs.Superblock.{super_in, super_refusal}
use Rattle.journal_world.specs.Call.{Call, IsAfterFault, after_success}
use Rattle.journal_world.specs.Journal.{fresh_engine}
use Rattle.journal_world.specs.Opening.{IsOpenedLog, cleaned}
use Rattle.journal_world.proofs.Fresh.{fresh-sound}
use Rattle.journal_world.proofs.HomeRights.{right-first}
use Rattle.journal_world.proofs.Places.{IsWrite, is_write-fault, is_write-written, written-there}
use Rattle.log_epochs.specs.OpeningSteps.{Found, IsFound, next_of}
use Rattle.log_epochs.specs.EnginePromise.{EndedWell, IsClosed, KeepsClosed, KeepsNow, KeepsPromise}
use Rattle.log_epochs.specs.EngineSteps.{Event, MayClose, closed_superblock, with_directs}
use Rattle.log_epochs.specs.EngineWorld.{AnswersOk, Begins, CloseCall, Leads, Move, Moves, Phase, Steps, World}
use Rattle.log_epochs.specs.Epoch.{Ended, Epoch, ending, fresh_epoch}
use Rattle.log_epochs.specs.EngineWorld.CloseCall.{WriteClosed, FlushClosed}
use Rattle.log_epochs.specs.EngineWorld.Move.{Step, CloseStep, CloseFault, GiveUp, Stop, Begin, OpeningStep, OpeningFault, AnswerOk, Upgrade}
use Rattle.log_epochs.specs.EngineWorld.Begins.{Unopened, Made}
use Rattle.log_epochs.specs.EngineWorld.Phase.{Shut, Opening, Upgrading, Running, Closing, Closed}
use Rattle.log_epochs.proofs.Closing.{close-closes, close-keeps}
use Rattle.log_epochs.proofs.Following.{begin-follows, run-follows}
use Rattle.log_epochs.proofs.HomeRule.{move-home}
use Rattle.log_epochs.proofs.Keeping.{IsPinned, flush-keeps, flushed-leaves, stop-keeps}
use Rattle.log_epochs.proofs.Running.{IsRunning, event-runs, running-keeps, running_epoch}
use Rattle.log_epochs.proofs.Stages.{IsDone, StageHolds, call-holds, fault-keeps, stage-keeps, undone-keeps}
use Rattle.log_epochs.specs.EngineWorld.UpgradeMove.{BeginUpgrade, UpgradeStep, UpgradeFault}
use Rattle.log_epochs.proofs.Upgrading.{UpgradeHolds, upgrade-call, upgrade-fault, upgrade-keeps}

-- an epoch whose engine runs
pub record RunsIn (shape : Shape) (epoch : Epoch) (disk : Disk) : Type 0 where
  pub pin : epoch.pin ≡ None
  pub runs : IsRunning shape epoch.opening epoch.directs epoch.engine disk

-- an epoch whose log is being closed: images with the new superblock are closed
pub record IsClosing (shape : Shape) (epoch : Option Epoch) (disk : Disk) : Type 0 where
  pub now : Epoch
  pub is : epoch ≡ Some now
  pub keeps : KeepsNow shape epoch disk
  pub closed : (image : Image) → Leaves disk image → image Log 0 ≡ (disk Log 0).reads → IsClosed shape now image

-- the invariant of each phase
abbrev pub HoldsAt : Shape → Option Epoch → Disk → Phase → Type 0
HoldsAt shape epoch disk Shut = KeepsNow shape epoch disk
HoldsAt shape epoch disk (Opening found stage) = (base : Disk) × IsFound shape found × StageHolds shape found base stage epoch disk
HoldsAt shape epoch disk (Upgrading block stage) = UpgradeHolds shape block stage epoch disk
HoldsAt shape epoch disk Running = (now : Epoch) × (epoch ≡ Some now) × RunsIn shape now disk
HoldsAt shape epoch disk Closing = IsClosing shape epoch disk
HoldsAt shape epoch disk Closed = KeepsNow shape epoch disk × KeepsClosed shape epoch disk Closed

abbrev pub Holds : World → Type 0
Holds w = HoldsAt w.shape w.epoch w.disk w.phase × AllByRecursion (EndedWell w.shape) w.ended

-- the epoch of a running engine has no pin
no-pin : (epoch : Epoch) → epoch.pin ≡ None → running_epoch epoch.opening epoch.directs epoch.engine ≡ epoch
no-pin epoch none = ap (λ (o : Option Image). let e : Epoch = record { opening = epoch.opening; engine = epoch.engine; directs = epoch.directs; pin = o } in e) (sym none)

-- what holds of an epoch without a pin holds of the current one
of-now : (shape : Shape) (epoch : Option Epoch) (now : Epoch) (disk : Disk) → epoch ≡ Some now → now.pin ≡ None →
    KeepsNow shape (Some (running_epoch now.opening now.directs now.engine)) disk → KeepsNow shape epoch disk
of-now shape epoch now disk is none keeps =
    subst (λ (o : Option Epoch). KeepsNow shape o disk) (sym is)
    (subst (λ (x : Epoch). KeepsNow shape (Some x) disk) (no-pin now none) keeps)

-- in each phase each crash image keeps the promise
pub phase-keeps : (shape : Shape) (epoch : Option Epoch) (disk : Disk) (phase : Phase) → HoldsAt shape epoch disk phase → KeepsNow shape epoch disk
phase-keeps shape epoch disk Shut holds = holds
phase-keeps shape epoch disk (Opening found stage) holds = stage-keeps shape found holds.0 stage epoch disk holds.1 holds.2
phase-keeps shape epoch disk (Upgrading block stage) holds = upgrade-keeps shape block stage epoch disk holds
phase-keeps shape epoch disk Running (now, is, runs) =
    of-now shape epoch now disk is runs.pin (running-keeps shape now.opening now.directs now.engine disk runs.runs)
phase-keeps shape epoch disk Closing holds = holds.keeps
phase-keeps shape epoch disk Closed holds = holds.0

-- in phase `Closed` each crash image is closed
phase-closed : (shape : Shape) (epoch : Option Epoch) (disk : Disk) (phase : Phase) → HoldsAt shape epoch disk phase → KeepsClosed shape epoch disk phase
phase-closed shape epoch disk Closed holds = holds.1
phase-closed shape None disk Shut holds = tt
phase-closed shape (Some epoch) disk Shut holds = tt
phase-closed shape None disk (Opening found stage) holds = tt
phase-closed shape (Some epoch) disk (Opening found stage) holds = tt
phase-closed shape None disk (Upgrading block stage) holds = tt
phase-closed shape (Some epoch) disk (Upgrading block stage) holds = tt
phase-closed shape None disk Running holds = tt
phase-closed shape (Some epoch) disk Running holds = tt
phase-closed shape None disk Closing holds = tt
phase-closed shape (Some epoch) disk Closing holds = tt

-- the running engine is that of the current epoch
pub runs-in : (shape : Shape) (epoch : Option Epoch) (now : Epoch) (disk : Disk) → epoch ≡ Some now → HoldsAt shape epoch disk Running → RunsIn shape now disk
runs-in shape epoch now disk is (other, also, runs) = subst (λ (x : Epoch). RunsIn shape x disk) (same_Some other now (sym also ∙ is)) runs

-- a step of the engine keeps the invariant
step-holds : (old new : World) (event : Event) → Holds old → Steps old event new → Holds new
step-holds old new event holds step =
    let w : World = record old { disk = new.disk; epoch = Some (record step.epoch { engine = step.engine; directs = with_directs event step.epoch.directs }) } in
    let runs : RunsIn old.shape step.epoch old.disk =
    runs-in old.shape old.epoch step.epoch old.disk step.now (subst (HoldsAt old.shape old.epoch old.disk) step.running holds.0) in
    let now : HoldsAt w.shape w.epoch w.disk Running = (
      record step.epoch { engine = step.engine; directs = with_directs event step.epoch.directs },
      refl,
      record {
        pin = runs.pin;
        runs = event-runs old.shape step.epoch.opening step.epoch.directs step.epoch.engine step.engine old.disk new.disk event runs.runs step.happens;
      },
    ) in
    subst Holds (sym step.after) (subst (HoldsAt w.shape w.epoch w.disk) (sym step.running) now, holds.1)

-- a closed image of a running epoch is one of the epoch
of-epoch : (shape : Shape) (now : Epoch) (image : Image) → now.pin ≡ None →
    IsClosed shape (running_epoch now.opening now.directs now.engine) image → IsClosed shape now image
of-epoch shape now image none closed = subst (λ (x : Epoch). IsClosed shape x image) (no-pin now none) closed

-- the invariant once the clean superblock is written
closing : (shape : Shape) (epoch : Option Epoch) (now : Epoch) (disk : Disk) → epoch ≡ Some now → MayClose now.engine → RunsIn shape now disk →
    IsClosing shape epoch (written disk Log 0 (closed_superblock now.engine))
closing shape epoch now disk is may runs =
    let new : Disk = written disk Log 0 (closed_superblock now.engine) in
    let write : IsWrite disk new 0 (closed_superblock now.engine) = is_write-written disk 0 (closed_superblock now.engine) in
    let reads : (new Log 0).reads ≡ closed_superblock now.engine = ap (λ (c : Cell). c.reads) (written-there disk 0 (closed_superblock now.engine)) in
    record {
      now = now;
      is = is;
      keeps = of-now shape epoch now new is runs.pin (close-keeps shape now.opening now.directs now.engine disk new runs.runs may write);
      closed = λ image leaves first.
          of-epoch shape now image runs.pin (close-closes shape now.opening now.directs now.engine disk new runs.runs may write image leaves (first ∙ reads));
    }

-- each crash image is closed once it is flushed
closed : (shape : Shape) (epoch : Option Epoch) (disk : Disk) → IsClosing shape epoch disk → KeepsClosed shape epoch (flushed disk Log) Closed
closed shape epoch disk closing =
    subst (λ (o : Option Epoch). KeepsClosed shape o (flushed disk Log) Closed) (sym closing.is)
    (λ image leaves.
    closing.closed image (flushed-leaves disk Log image leaves) (⊎_elim (λ same. same) (λ none. absurd none) (leaves.each Log 0)))

-- a call of a close keeps the invariant
close-at : (shape : Shape) (epoch : Option Epoch) (now : Epoch) (disk : Disk) (phase next : Phase) (call : Call) → epoch ≡ Some now →
    CloseCall now.engine phase call next → HoldsAt shape epoch disk phase → HoldsAt shape epoch (after_success call disk) next
close-at shape epoch now disk phase next call is (WriteClosed may) holds = closing shape epoch now disk is may (runs-in shape epoch now disk is holds)
close-at shape epoch now disk phase next call is FlushClosed holds = (flush-keeps shape epoch disk Log holds.keeps, closed shape epoch disk holds)

-- a failed call of a close keeps the invariant
close-fails : (shape : Shape) (epoch : Option Epoch) (now : Epoch) (disk after : Disk) (phase next : Phase) (call : Call) → epoch ≡ Some now →
    CloseCall now.engine phase call next → HoldsAt shape epoch disk phase → IsAfterFault call disk after → KeepsNow shape epoch after
close-fails shape epoch now disk after phase next call is (WriteClosed may) holds fault =
    let runs = runs-in shape epoch now disk is holds in
    of-now shape epoch now after is runs.pin
    (close-keeps shape now.opening now.directs now.engine disk after runs.runs may (is_write-fault disk after 0 (closed_superblock now.engine) fault))
close-fails shape epoch now disk after phase next call is FlushClosed holds fault = undone-keeps shape epoch Log disk after fault holds.keeps

-- a value that is held alone is the only one
only-one : (v w : List ℕ) → IsOneOf (v ∷ []) w → w ≡ v
only-one v w (inl same) = same
only-one v w (inr none) = absurd none

-- each crash image of an opened log is clean
opened-clean : (shape : Shape) (disk : Disk) (superblock : List ℕ) (next : ℕ) (image : Image) → IsOpenedLog shape disk superblock next → Leaves disk image →
    IsClean shape image
opened-clean shape disk superblock next image log leaves =
    let reads : image Log 0 ≡ superblock = only-one superblock (image Log 0) (subst (λ (c : Cell). IsOneOf (held c) (image Log 0)) log.durable (leaves.each Log 0)) in
    record {
      accepted = ap (super_refusal shape) reads ∙ log.named.is_superblock.accepted;
      clean = ap (λ (block : List ℕ). (super_in block).s_start) reads ∙ log.named.clean;
    }

-- an epoch ends well when an opening answers Ok
ending-well : (shape : Shape) (epoch : Option Epoch) (disk : Disk) (ended : List Ended) → IsPinned epoch → KeepsNow shape epoch disk →
    ((image : Image) → Leaves disk image → IsClean shape image) → AllByRecursion (EndedWell shape) ended → AllByRecursion (EndedWell shape) (ending epoch disk ended)
ending-well shape None disk ended pin keeps clean all = all
ending-well shape (Some epoch) disk ended pin keeps clean all =
    (record { pin = pin.0; pin_is = pin.1; clean = clean; keeps = keeps }, all)

-- the engine of an opened log runs
fresh-runs : (shape : Shape) (superblock : List ℕ) (next : ℕ) (disk : Disk) → IsOpenedLog shape disk superblock next →
    RunsIn shape (fresh_epoch shape superblock next disk) disk
fresh-runs shape superblock next disk log = record {
  pin = refl;
  runs = record {
    shape_is = refl;
    sound = fresh-sound shape disk superblock next log;
    home = right-first disk [] (fresh_engine shape superblock next);
  };
}

-- an opening that answers Ok keeps the invariant
answer-holds : (old new : World) → Holds old → AnswersOk old new → Holds new
answer-holds old new holds answer =
    let x : Found = answer.found in
    let opening = subst (HoldsAt old.shape old.epoch old.disk) answer.opening holds.0 in
    let done : IsDone old.shape x opening.0 old.epoch old.disk = opening.2 in
    let superblock : List ℕ = cleaned (x.image Log 0) (next_of x) in
    subst Holds (sym answer.after) (
      (fresh_epoch old.shape superblock (next_of x) old.disk, refl, fresh-runs old.shape superblock (next_of x) old.disk done.log),
      ending-well old.shape old.epoch old.disk old.ended done.flush.pin done.keeps
          (λ image leaves. opened-clean old.shape old.disk superblock (next_of x) image done.log leaves) holds.1,
    )

-- each move keeps the invariant
pub move-holds : (old new : World) (move : Move) → Holds old → Moves old move new → Holds new
move-holds old new (Step event) holds moves = step-holds old new event holds moves
move-holds old new CloseStep holds moves =
    subst Holds (sym moves.after) (close-at old.shape old.epoch moves.epoch old.disk old.phase moves.phase moves.call moves.now moves.due holds.0, holds.1)
move-holds old new CloseFault holds moves =
    subst Holds (sym moves.after)
    (close-fails old.shape old.epoch moves.epoch old.disk new.disk old.phase moves.phase moves.call moves.now moves.due holds.0 moves.disk_is, holds.1)
move-holds old new GiveUp holds moves =
    subst Holds (sym moves.after) (phase-keeps old.shape old.epoch old.disk old.phase holds.0, holds.1)
move-holds old new (Stop left) holds moves =
    subst Holds (sym moves.after)
    (stop-keeps old.shape old.epoch old.disk left moves.leaves (phase-keeps old.shape old.epoch old.disk old.phase holds.0), holds.1)
move-holds old new (Begin found) holds moves =
    subst Holds (sym moves.after)
    ((flushed old.disk Log, moves.found_is.good, record { read = moves.found_is.read; base_is = refl; keeps = subst (HoldsAt old.shape old.epoch old.disk) moves.shut holds.0 }), holds.1)
move-holds old new OpeningStep holds moves =
    let opening = subst (HoldsAt old.shape old.epoch old.disk) moves.opening holds.0 in
    subst Holds (sym moves.after) (
      (opening.0, opening.1, call-holds old.shape moves.found opening.0 moves.stage moves.next moves.call old.epoch old.disk opening.1 moves.due opening.2),
      holds.1,
    )
move-holds old new OpeningFault holds moves =
    let opening = subst (HoldsAt old.shape old.epoch old.disk) moves.opening holds.0 in
    subst Holds (sym moves.after) (
      fault-keeps old.shape moves.found opening.0 moves.stage moves.next moves.call old.epoch old.disk new.disk opening.1 moves.due opening.2 moves.disk_is,
      holds.1,
    )
move-holds old new (Upgrade (BeginUpgrade block)) holds moves =
    subst Holds (sym moves.after)
    (record { may = moves.on.may; reads = moves.on.read; keeps = subst (HoldsAt old.shape old.epoch old.disk) moves.shut holds.0 }, holds.1)
move-holds old new (Upgrade UpgradeStep) holds moves =
    let upgrading = subst (HoldsAt old.shape old.epoch old.disk) moves.upgrading holds.0 in
    subst Holds (sym moves.after) (upgrade-call old.shape moves.block moves.stage moves.next moves.call old.epoch old.disk moves.due upgrading, holds.1)
move-holds old new (Upgrade UpgradeFault) holds moves =
    let upgrading = subst (HoldsAt old.shape old.epoch old.disk) moves.upgrading holds.0 in
    subst Holds (sym moves.after)
    (upgrade-fault old.shape moves.block moves.stage moves.next moves.call old.epoch old.disk new.disk moves.due upgrading moves.disk_is, holds.1)
move-holds old new AnswerOk holds moves = answer-holds old new holds moves

-- a sequence of moves keeps the invariant
pub life-holds : (old new : World) (moves : List Move) → Holds old → Leads old moves new → Holds new
life-holds old new [] holds same = subst Holds (sym same) holds
life-holds old new (move ∷ moves) holds (mid, first, rest) = life-holds mid new moves (move-holds old mid move holds first) rest

pub begin-holds : (w : World) → Begins w → Holds w
begin-holds w (Unopened shut none first) = (
  subst (HoldsAt w.shape w.epoch w.disk) (sym shut) (subst (λ (o : Option Epoch). KeepsNow w.shape o w.disk) (sym none) tt),
  subst (AllByRecursion (EndedWell w.shape)) (sym first) tt,
)
begin-holds w (Made superblock next log running is first) = (
  subst (HoldsAt w.shape w.epoch w.disk) (sym running)
      (fresh_epoch w.shape superblock next w.disk, is, fresh-runs w.shape superblock next w.disk log),
  subst (AllByRecursion (EndedWell w.shape)) (sym first) tt,
)

-- every life keeps the promise
pub life-promise : (start end : World) (moves : List Move) → Begins start → Leads start moves end → KeepsPromise end
life-promise start end moves begins leads =
    let holds : Holds end = life-holds start end moves (begin-holds start begins) leads in
    record {
      now = phase-keeps end.shape end.epoch end.disk end.phase holds.0;
      ended = holds.1;
      follows = run-follows start end moves (begin-follows start begins) leads;
      closed = phase-closed end.shape end.epoch end.disk end.phase holds.0;
      home = move-home end;
    }
