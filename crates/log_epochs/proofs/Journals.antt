-- The journal's law, from the engine's law and the front's steps.
use Rattle.std.proofs.Common.{refl, sym, ◌∙◌, ap, subst, arith, inl}
use Rattle.std.specs.Prelude.{◌≡◌, ⊤, ℕ, suc, ◌≤◌, List, [], ◌∷◌, length, Option, Some, None}
use Rattle.std.specs.List.{AllByRecursion}
use Rattle.journal_model.specs.declared.entry.Batch.{Batch}
use Rattle.journal_model.specs.declared.number.Area.TheVariants.{Home}
use Rattle.journal_model.specs.Disk.{Disk, Image, Shape, reading}
use Rattle.log_model.specs.HomeChange.{Addition, HomeAddsOnly}
use Rattle.log_model.specs.Opening.{Opens}
use Rattle.journal_model.specs.Transaction.{AreNumbered, History}
use Rattle.journal_world.specs.Call.Call.{Write}
use Rattle.journal_world.specs.Engine.{AreBatchesOf, Engine}
use Rattle.journal_world.specs.Front.{Front}
use Rattle.journal_world.specs.Journal.{Event as JournalEvent, Happens as JournalHappens, Journal}
use Rattle.journal_world.specs.Journal.Event.{FrontStep, Seal, CommitStep as JournalCommit, CommitFault as JournalCommitFault, CheckpointStep as JournalCheckpoint, CheckpointFault as JournalCheckpointFault, ReadBlock, ReadFault as JournalReadFault, DirectWrite as JournalDirect, DirectWriteFault as JournalDirectFault, DirectSync as JournalSync, DirectSyncFault as JournalSyncFault, Finish, AbortMark}
use Rattle.journal_world.specs.Sound.{AreNumberedFrom}
use Rattle.journal_world.proofs.Batches.{same-length}
use Rattle.journal_world.proofs.Fronts.{FrontAgrees, answer-agrees, fresh-agrees}
use Rattle.journal_world.proofs.DirectCalls.{direct-adds, direct-fault-adds}
use Rattle.journal_world.proofs.DirectRights.{written-rightly}
use Rattle.journal_world.proofs.HomeCopies.{adds-flushed, adds-none, round-fault-home, round-home}
use Rattle.journal_world.proofs.Homes.{fault-home, step-home}
use Rattle.journal_world.proofs.Promises.{acknowledged-few}
use Rattle.log_epochs.specs.EnginePromise.{EndedWell as BelowEndedWell, IsClosed as IsClosedBelow, KeepsClosed as BelowKeepsClosed, KeepsImage, KeepsNow as BelowKeepsNow, KeepsPromise as BelowKeepsPromise, Kept as BelowKept}
use Rattle.log_epochs.specs.EngineSteps.{Event}
use Rattle.log_epochs.specs.EngineSteps.Event.{Accept, Read, CommitStep, CommitFault, CheckpointStep, CheckpointFault, ReadFault, DirectWrite, DirectWriteFault, DirectSync, DirectSyncFault}
use Rattle.log_epochs.specs.EngineWorld.{Begins as BelowBegins, Leads as BelowLeads, Move as BelowMove, Moves as BelowMoves, Phase, Steps as BelowSteps, World}
use Rattle.log_epochs.specs.EngineWorld.Begins.{Unopened, Made}
use Rattle.log_epochs.specs.EngineWorld.Move.{Step as EngineStep, CloseStep, CloseFault, GiveUp, Stop, Begin, OpeningStep, OpeningFault, AnswerOk, Upgrade}
use Rattle.log_epochs.specs.EngineWorld.Phase.{Shut, Opening, Upgrading, Running, Closing, Closed}
use Rattle.log_epochs.specs.Epoch.{Ended, Epoch, ending, pinning, pinning_at}
use Rattle.log_epochs.specs.JournalPromise.{HaveEndedWell, KeepsClosed, KeepsFrontNow, KeepsNow, KeepsPromise, JournalMayAdd, Kept, MakesSteps, MayAdd, StepMayAdd}
use Rattle.log_epochs.specs.JournalPromise.MakesSteps.{NoStep, Begun}
use Rattle.log_epochs.specs.JournalWorld.{Begins, IsFreshTold, JournalWorld, Leads, Move, Moves, Steps, TellsAfter, TellsAfterStep, TellsAnew, TellsNothing, TellsSame, Told, journal_of, telling, with_directs}
use Rattle.log_epochs.specs.JournalWorld.Move.{Step, Answer, Below}
use Rattle.log_epochs.specs.OpeningSteps.{OpeningStage}
use Rattle.log_epochs.specs.OpeningSteps.OpeningStage.{LogFlush, Copies, SuperblockWrite, SuperblockFlush, Done}
use Rattle.log_epochs.proofs.HomeRule.{same-adds}
use Rattle.log_epochs.proofs.Homes.{flush-undone}
use Rattle.log_epochs.proofs.Keeping.{reads-left}
use Rattle.log_epochs.proofs.JournalSteps.{Agrees, IsBelow, below_event, event-agrees, event-below, event-steps}
use Rattle.log_epochs.proofs.JournalSteps.IsBelow.{Nothing, Same}
use Rattle.log_epochs.specs.UpgradeSteps.{UpgradeStage, pinning_in}
use Rattle.log_epochs.specs.UpgradeSteps.UpgradeStage.{LogFlush as LogUnflushed, SuperblockWrite as Unwritten, SuperblockFlush as Unflushed, Done as Upgraded}
use Rattle.log_epochs.specs.EngineWorld.UpgradeMove.{BeginUpgrade, UpgradeStep, UpgradeFault}

-- an epoch's front and answers agree with its engine
abbrev pub AgreesIn : Epoch → Told → Type 0
AgreesIn epoch told = FrontAgrees told.front epoch.engine told.answered

abbrev pub AgreesNow : Option Epoch → Told → Type 0
AgreesNow None told = ⊤
AgreesNow (Some epoch) told = AgreesIn epoch told

-- so do those of the ended epochs
abbrev pub AgreesPast : List Ended → List Told → Type 0
AgreesPast [] [] = ⊤
AgreesPast (x ∷ xs) (t ∷ ts) = AgreesIn x.epoch t × AgreesPast xs ts
AgreesPast [] (t ∷ ts) = ⊥
AgreesPast (x ∷ xs) [] = ⊥

abbrev pub Holds : JournalWorld → Type 0
Holds w = AgreesNow w.below.epoch w.told × AgreesPast w.below.ended w.past

-- a pin does not matter
pinning-agrees : (epoch : Option Epoch) (image : Image) (told : Told) → AgreesNow epoch told → AgreesNow (pinning epoch image) told
pinning-agrees None image told agrees = tt
pinning-agrees (Some epoch) image told agrees = agrees

stage-agrees : (stage : OpeningStage) (epoch : Option Epoch) (image : Image) (told : Told) → AgreesNow epoch told → AgreesNow (pinning_at stage epoch image) told
stage-agrees LogFlush epoch image told agrees = pinning-agrees epoch image told agrees
stage-agrees Copies epoch image told agrees = agrees
stage-agrees SuperblockWrite epoch image told agrees = agrees
stage-agrees SuperblockFlush epoch image told agrees = agrees
stage-agrees Done epoch image told agrees = agrees

upgrade-agrees : (stage : UpgradeStage) (epoch : Option Epoch) (image : Image) (told : Told) → AgreesNow epoch told → AgreesNow (pinning_in stage epoch image) told
upgrade-agrees LogUnflushed epoch image told agrees = pinning-agrees epoch image told agrees
upgrade-agrees Unwritten epoch image told agrees = agrees
upgrade-agrees Unflushed epoch image told agrees = agrees
upgrade-agrees Upgraded epoch image told agrees = agrees

-- an unchanged front and answers still agree with the world below
same-holds : (old new : JournalWorld) (below : World) → new.below ≡ below → below.ended ≡ old.below.ended → TellsSame old new →
    AgreesNow below.epoch old.told → AgreesPast old.below.ended old.past → Holds new
same-holds old new below is ended tells now past =
    let told : AgreesNow below.epoch new.told = subst (AgreesNow below.epoch) (sym tells.told) now in
    let before : AgreesPast below.ended new.past =
    subst (AgreesPast below.ended) (sym tells.past) (subst (λ (xs : List Ended). AgreesPast xs old.past) (sym ended) past) in (
      subst (λ (w : World). AgreesNow w.epoch new.told) (sym is) told,
      subst (λ (w : World). AgreesPast w.ended new.past) (sym is) before,
    )

-- the current epoch agrees
now-agrees : (epoch : Option Epoch) (now : Epoch) (told : Told) → epoch ≡ Some now → AgreesNow epoch told → AgreesIn now told
now-agrees epoch now told is agrees = subst (λ (o : Option Epoch). AgreesNow o told) is agrees

-- a step of the journal keeps what holds
step-holds : (old new : JournalWorld) (event : JournalEvent) → Steps old event new → Holds old → Holds new
step-holds old new event step holds =
    let now : Agrees step.journal old.told.answered =
    event-agrees (journal_of step.epoch old.told) step.journal old.below.disk new.below.disk old.told.answered event
    (now-agrees old.below.epoch step.epoch old.told step.now holds.0) step.happens in
    subst Holds (sym step.after) (now, holds.1)

-- an ended epoch joins those that agree
ending-agrees : (epoch : Option Epoch) (after : Disk) (ended : List Ended) (told : Told) (past : List Told) → AgreesNow epoch told → AgreesPast ended past →
    AgreesPast (ending epoch after ended) (telling epoch told past)
ending-agrees None after ended told past now before = before
ending-agrees (Some epoch) after ended told past now before = (now, before)

-- a fresh front agrees with its engine
fresh-told : (epoch : Epoch) (told : Told) → IsFreshTold epoch told → AgreesIn epoch told
fresh-told epoch told fresh =
    let e : Engine = epoch.engine in
    subst (λ (answered : List ℕ). FrontAgrees told.front e answered) (sym fresh.unanswered)
    (subst (λ (f : Front). FrontAgrees f e []) (sym fresh.journal.front)
    (fresh-agrees told.front.capacity e.shape e.superblock e.first e fresh.journal.engine fresh.journal.capacity))

-- an opening that answers Ok keeps what holds
answer-holds : (old new : JournalWorld) → BelowMoves old.below AnswerOk new.below → TellsAnew old new → Holds old → Holds new
answer-holds old new answer tells holds =
    let past : AgreesPast (ending old.below.epoch old.below.disk old.below.ended) new.past =
    subst (AgreesPast (ending old.below.epoch old.below.disk old.below.ended)) (sym tells.past)
    (ending-agrees old.below.epoch old.below.disk old.below.ended old.told old.past holds.0 holds.1) in (
      subst (λ (o : Option Epoch). AgreesNow o new.told) (sym tells.now) (fresh-told tells.epoch new.told tells.fresh),
      subst (λ (w : World). AgreesPast w.ended new.past) (sym answer.after) past,
    )

-- a read of the engine keeps what holds
read-holds : (old new : JournalWorld) (b : ℕ) (v : List ℕ) → BelowSteps old.below (Read b v) new.below → TellsSame old new → Holds old → Holds new
read-holds old new b v step tells holds =
    let now : AgreesIn step.epoch old.told = now-agrees old.below.epoch step.epoch old.told step.now holds.0 in
    same-holds old new _ step.after refl tells
    (subst (λ (e : Engine). FrontAgrees old.told.front e old.told.answered) (sym step.happens.engine) now) holds.1

-- an engine step that is no step of the journal keeps what holds
engine-holds : (old new : JournalWorld) (event : Event) → BelowSteps old.below event new.below → TellsAfterStep event old new → Holds old → Holds new
engine-holds old new (Read b v) step tells holds = read-holds old new b v step tells holds
engine-holds old new (Accept b) step tells holds = absurd tells
engine-holds old new CommitStep step tells holds = absurd tells
engine-holds old new CommitFault step tells holds = absurd tells
engine-holds old new CheckpointStep step tells holds = absurd tells
engine-holds old new CheckpointFault step tells holds = absurd tells
engine-holds old new ReadFault step tells holds = absurd tells
engine-holds old new (DirectWrite b v) step tells holds = absurd tells
engine-holds old new (DirectWriteFault b v) step tells holds = absurd tells
engine-holds old new DirectSync step tells holds = absurd tells
engine-holds old new DirectSyncFault step tells holds = absurd tells

-- each other move of the world below keeps what holds
below-holds : (old new : JournalWorld) (move : BelowMove) → BelowMoves old.below move new.below → TellsAfter move old new → Holds old → Holds new
below-holds old new (EngineStep event) moves tells holds = engine-holds old new event moves tells holds
below-holds old new CloseStep moves tells holds = same-holds old new _ moves.after refl tells holds.0 holds.1
below-holds old new CloseFault moves tells holds = same-holds old new _ moves.after refl tells holds.0 holds.1
below-holds old new GiveUp moves tells holds = same-holds old new _ moves.after refl tells holds.0 holds.1
below-holds old new (Stop left) moves tells holds =
    same-holds old new _ moves.after refl tells (pinning-agrees old.below.epoch left old.told holds.0) holds.1
below-holds old new (Begin found) moves tells holds = same-holds old new _ moves.after refl tells holds.0 holds.1
below-holds old new OpeningStep moves tells holds =
    same-holds old new _ moves.after refl tells (stage-agrees moves.stage old.below.epoch (reading old.below.disk) old.told holds.0) holds.1
below-holds old new OpeningFault moves tells holds = same-holds old new _ moves.after refl tells holds.0 holds.1
below-holds old new (Upgrade (BeginUpgrade block)) moves tells holds = same-holds old new _ moves.after refl tells holds.0 holds.1
below-holds old new (Upgrade UpgradeStep) moves tells holds =
    same-holds old new _ moves.after refl tells (upgrade-agrees moves.stage old.below.epoch (reading old.below.disk) old.told holds.0) holds.1
below-holds old new (Upgrade UpgradeFault) moves tells holds = same-holds old new _ moves.after refl tells holds.0 holds.1
below-holds old new AnswerOk moves tells holds = answer-holds old new moves tells holds

-- the current epoch agrees after one more answer
told-agrees : (epoch : Option Epoch) (told : Told) (tid : ℕ) → tid ≤ told.front.mark → AgreesNow epoch told →
    AgreesNow epoch (record told { answered = tid ∷ told.answered })
told-agrees None told tid marked agrees = tt
told-agrees (Some epoch) told tid marked agrees = answer-agrees told.front epoch.engine told.answered tid marked agrees

-- each move keeps what holds
move-holds : (old new : JournalWorld) (move : Move) → Moves old move new → Holds old → Holds new
move-holds old new (Step event) moves holds = step-holds old new event moves holds
move-holds old new (Answer tid) moves holds = subst Holds (sym moves.after) (told-agrees old.below.epoch old.told tid moves.marked holds.0, holds.1)
move-holds old new (Below move) moves holds = below-holds old new move moves.below moves.tells holds

run-holds : (old new : JournalWorld) (moves : List Move) → Holds old → Leads old moves new → Holds new
run-holds old new [] holds same = subst Holds (sym same) holds
run-holds old new (move ∷ moves) holds (mid, first, rest) = run-holds mid new moves (move-holds old mid move first holds) rest

-- a step of the journal is this engine step below, or none
pub data IsStepBelow (own : Option Event) (old new : World) : Type 0 where
  Unchanged : new ≡ old → IsStepBelow own old new
  Stepped : (event : Event) → own ≡ Some event → BelowSteps old event new → IsStepBelow own old new

-- a world with the same engine, direct writes and disk is the same
same-world : (w : World) (epoch : Epoch) (engine : Engine) (directs : List (ℕ × List ℕ)) (disk : Disk) → w.epoch ≡ Some epoch → engine ≡ epoch.engine →
    directs ≡ epoch.directs → disk ≡ w.disk → record w { disk = disk; epoch = Some (record epoch { engine = engine; directs = directs }) } ≡ w
same-world w epoch engine directs disk now same_engine same_directs same_disk =
    ap (λ (e : Engine). record w { disk = disk; epoch = Some (record epoch { engine = e; directs = directs }) }) same_engine
    ∙ ap (λ (ds : List (ℕ × List ℕ)). record w { disk = disk; epoch = Some (record epoch { directs = ds }) }) same_directs
    ∙ ap (λ (d : Disk). record w { disk = d; epoch = Some epoch }) same_disk
    ∙ ap (λ (o : Option Epoch). record w { epoch = o }) (sym now)

pub step-below : (old new : JournalWorld) (event : JournalEvent) → Steps old event new →
    IsStepBelow (below_event old.told.front event) old.below new.below
step-below old new event step =
    below (event-below (journal_of step.epoch old.told) step.journal old.below.disk new.below.disk event step.epoch.directs step.happens)
  where
    directs : List (ℕ × List ℕ)
    directs = with_directs event step.epoch.directs

    is : new.below ≡ record old.below { disk = new.below.disk; epoch = Some (record step.epoch { engine = step.journal.engine; directs = directs }) }
    is = ap (λ (w : JournalWorld). w.below) step.after

    own : Option Event
    own = below_event old.told.front event

    below : IsBelow own step.epoch.engine old.below.disk step.journal.engine new.below.disk step.epoch.directs directs → IsStepBelow own old.below new.below
    below (Nothing same_engine same_disk same_directs) =
        Unchanged (is ∙ same-world old.below step.epoch step.journal.engine directs new.below.disk step.now same_engine same_directs same_disk)
    below (Same e same_event happens same_directs) = Stepped e same_event (record {
      running = step.running;
      epoch = step.epoch;
      now = step.now;
      engine = step.journal.engine;
      happens = happens;
      after =
          is
          ∙ ap (λ (ds : List (ℕ × List ℕ)). record old.below { disk = new.below.disk; epoch = Some (record step.epoch { engine = step.journal.engine; directs = ds }) })
          same_directs;
    })

-- two sequences of moves below join
leads-on : (old mid new : World) (moves others : List BelowMove) → BelowLeads old moves mid → BelowLeads mid others new →
    (all : List BelowMove) × BelowLeads old all new
leads-on old mid new [] others first rest = (others, subst (λ (w : World). BelowLeads w others new) first rest)
leads-on old mid new (move ∷ moves) others (next, one, more) rest =
    let on = leads-on next mid new moves others more rest in (move ∷ on.0, (next, one, on.1))

-- each move of the journal is some moves below
move-below : (old new : JournalWorld) (move : Move) → Moves old move new → (moves : List BelowMove) × BelowLeads old.below moves new.below
move-below old new (Step event) moves = below (step-below old new event moves)
  where
    below : IsStepBelow (below_event old.told.front event) old.below new.below → (all : List BelowMove) × BelowLeads old.below all new.below
    below (Unchanged same) = ([], same)
    below (Stepped e is step) = (EngineStep e ∷ [], (new.below, step, refl))
move-below old new (Answer tid) moves = ([], ap (λ (w : JournalWorld). w.below) moves.after)
move-below old new (Below move) moves = (move ∷ [], (new.below, moves.below, refl))

-- a run of the journal is one of the world below
pub run-below : (old new : JournalWorld) (moves : List Move) → Leads old moves new → (all : List BelowMove) × BelowLeads old.below all new.below
run-below old new [] same = ([], ap (λ (w : JournalWorld). w.below) same)
run-below old new (move ∷ moves) (mid, first, rest) =
    let one = move-below old mid move first in
    let more = run-below mid new moves rest in
    leads-on old.below mid.below new.below one.0 more.0 one.1 more.1

-- the batches of numbered transactions are numbered
numbered-batches : (first : ℕ) (ts : History) (bs : List Batch) → AreNumbered first ts → AreBatchesOf ts bs → AreNumberedFrom first bs
numbered-batches first [] [] numbered are = tt
numbered-batches first [] (b ∷ bs) numbered are = absurd are
numbered-batches first (t ∷ ts) [] numbered are = absurd are
numbered-batches first (t ∷ ts) (b ∷ bs) numbered are = (are.0 ∙ numbered.0, numbered-batches (suc first) ts bs numbered.1 are.2)

-- what the engine's world keeps of an image, the journal's keeps
image-kept : (shape : Shape) (epoch : Epoch) (told : Told) (image : Image) → AgreesIn epoch told → KeepsImage shape epoch image → Kept shape epoch told image
image-kept shape epoch told image agrees keeps =
    let e : Engine = epoch.engine in
    let kept : BelowKept shape epoch told.front.sealed image = keeps told.front.sealed agrees.keeps.accepted in
    let few =
    acknowledged-few e.first e.committed told.front.mark told.answered told.front.sealed e.accepted agrees.told
    (λ some. let committed = agrees.keeps.committed some in let marked = agrees.keeps.marked in omega arith)
    (numbered-batches e.first told.front.sealed e.accepted kept.numbered agrees.keeps.accepted) agrees.keeps.accepted in
    let low : e.committed ≤ kept.n = kept.low in
    let high : kept.n ≤ length e.accepted = kept.high in
    let size : length told.front.sealed ≡ length e.accepted = same-length told.front.sealed e.accepted agrees.keeps.accepted in
    record {
      n = kept.n;
      low = omega arith;
      high = omega arith;
      count = kept.count;
      opens = kept.opens;
      others = kept.others;
      numbered = kept.numbered;
      joined = agrees.handles.all;
      handles = agrees.handles.each;
      legal = agrees.legal;
    }

now-kept : (shape : Shape) (epoch : Option Epoch) (disk : Disk) (told : Told) → AgreesNow epoch told → BelowKeepsNow shape epoch disk → KeepsNow shape epoch disk told
now-kept shape None disk told agrees keeps = tt
now-kept shape (Some epoch) disk told agrees keeps = λ image leaves. image-kept shape epoch told image agrees (keeps image leaves)

past-kept : (shape : Shape) (ended : List Ended) (past : List Told) → AgreesPast ended past → AllByRecursion (BelowEndedWell shape) ended → HaveEndedWell shape ended past
past-kept shape [] [] agrees all = tt
past-kept shape [] (t ∷ ts) agrees all = absurd agrees
past-kept shape (x ∷ xs) [] agrees all = absurd agrees
past-kept shape (x ∷ xs) (t ∷ ts) agrees all = (
  record { pin = all.0.pin; pin_is = all.0.pin_is; clean = all.0.clean; keeps = λ image leaves. image-kept shape x.epoch t image agrees.0 (all.0.keeps image leaves) },
  past-kept shape xs ts agrees.1 all.1,
)

-- a closed log has all sealed transactions
closed-kept : (shape : Shape) (epoch : Option Epoch) (disk : Disk) (told : Told) (phase : Phase) → AgreesNow epoch told →
    BelowKeepsClosed shape epoch disk phase → KeepsClosed shape disk told phase
closed-kept shape epoch disk told Shut agrees keeps = tt
closed-kept shape epoch disk told (Opening found stage) agrees keeps = tt
closed-kept shape epoch disk told (Upgrading block stage) agrees keeps = tt
closed-kept shape epoch disk told Running agrees keeps = tt
closed-kept shape epoch disk told Closing agrees keeps = tt
closed-kept shape None disk told Closed agrees keeps = absurd keeps
closed-kept shape (Some epoch) disk told Closed agrees keeps = λ image leaves.
    let closed : IsClosedBelow shape epoch image = keeps image leaves in
    let size : length told.front.sealed ≡ length epoch.engine.accepted = same-length told.front.sealed epoch.engine.accepted agrees.keeps.accepted in
    record {
      clean = closed.clean;
      all = subst (λ (n : ℕ). Opens shape told.front.sealed n image) (sym size) (closed.all told.front.sealed agrees.keeps.accepted);
    }

-- an unchanged world below adds nothing
unchanged-adds : (may : Addition) (old new : World) → new ≡ old → HomeAddsOnly may old.disk new.disk
unchanged-adds may old new same = subst (λ (w : World). HomeAddsOnly may old.disk w.disk) (sym same) (record { reads = λ b. inl refl; left = λ b v one. inl one })

-- at most as many transactions are committed as are sealed
committed-within : (shape : Shape) (epoch : Epoch) (disk : Disk) (told : Told) → AgreesIn epoch told → BelowKeepsNow shape (Some epoch) disk →
    epoch.engine.committed ≤ length told.front.sealed
committed-within shape epoch disk told agrees keeps =
    let kept : BelowKept shape epoch told.front.sealed (reading disk) = keeps (reading disk) (reads-left disk) told.front.sealed agrees.keeps.accepted in
    let low : epoch.engine.committed ≤ kept.n = kept.low in
    let high : kept.n ≤ length epoch.engine.accepted = kept.high in
    let size : length told.front.sealed ≡ length epoch.engine.accepted = same-length told.front.sealed epoch.engine.accepted agrees.keeps.accepted in
    omega arith

-- a step of the journal adds to home what it may
event-adds : (epoch : Epoch) (told : Told) (new : Journal) (disk after : Disk) (event : JournalEvent) → AgreesIn epoch told →
    epoch.engine.committed ≤ length told.front.sealed → JournalHappens (journal_of epoch told) disk event new after →
    HomeAddsOnly (StepMayAdd epoch told.front event) disk after
event-adds epoch told new disk after (FrontStep event) agrees within happens = same-adds _ disk after happens.disk_is
event-adds epoch told new disk after Seal agrees within happens = same-adds _ disk after happens.disk_is
event-adds epoch told new disk after Finish agrees within happens = same-adds _ disk after happens.disk_is
event-adds epoch told new disk after AbortMark agrees within happens = same-adds _ disk after happens.disk_is
event-adds epoch told new disk after JournalCommit agrees within happens =
    adds-none _ disk after (step-home epoch.engine new.engine disk after happens.engine).same
event-adds epoch told new disk after JournalCommitFault agrees within happens =
    adds-none _ disk after (fault-home epoch.engine new.engine disk after happens.engine).same
event-adds epoch told new disk after JournalCheckpoint agrees within happens =
    (round-home epoch.engine new.engine disk after happens.engine).adds told.front.sealed agrees.keeps.accepted
event-adds epoch told new disk after JournalCheckpointFault agrees within happens =
    (round-fault-home epoch.engine new.engine disk after happens.engine).adds told.front.sealed agrees.keeps.accepted
event-adds epoch told new disk after (ReadBlock h b v) agrees within happens = same-adds _ disk after happens.disk_is
event-adds epoch told new disk after JournalReadFault agrees within happens = same-adds _ disk after happens.disk_is
event-adds epoch told new disk after (JournalDirect b v) agrees within happens =
    subst (HomeAddsOnly (StepMayAdd epoch told.front (JournalDirect b v)) disk) (sym happens.engine.disk_is)
    (direct-adds (StepMayAdd epoch told.front (JournalDirect b v)) epoch.engine disk (Write Home b v)
    (written-rightly told.front epoch.engine b v agrees.keeps.accepted within happens.untouched) happens.engine.due)
event-adds epoch told new disk after (JournalDirectFault b v) agrees within happens =
    direct-fault-adds (StepMayAdd epoch told.front (JournalDirectFault b v)) epoch.engine disk after (Write Home b v)
    (written-rightly told.front epoch.engine b v agrees.keeps.accepted within happens.untouched) happens.engine.due happens.engine.disk_is
event-adds epoch told new disk after JournalSync agrees within happens =
    subst (HomeAddsOnly (StepMayAdd epoch told.front JournalSync) disk) (sym happens.engine.disk_is)
    (adds-flushed (StepMayAdd epoch told.front JournalSync) disk)
event-adds epoch told new disk after JournalSyncFault agrees within happens = same-adds _ disk after (flush-undone disk after happens.engine.disk_is)

event-home : (w new : JournalWorld) (event : JournalEvent) → Holds w → BelowKeepsPromise w.below → Steps w event new →
    HomeAddsOnly (JournalMayAdd w.below.epoch w.told.front event) w.below.disk new.below.disk
event-home w new event holds promise step =
    let agrees : AgreesIn step.epoch w.told = now-agrees w.below.epoch step.epoch w.told step.now holds.0 in
    let keeps : BelowKeepsNow w.below.shape (Some step.epoch) w.below.disk =
    subst (λ (o : Option Epoch). BelowKeepsNow w.below.shape o w.below.disk) step.now promise.now in
    subst (λ (o : Option Epoch). HomeAddsOnly (JournalMayAdd o w.told.front event) w.below.disk new.below.disk) (sym step.now)
    (event-adds step.epoch w.told step.journal w.below.disk new.below.disk event agrees
    (committed-within w.below.shape step.epoch w.below.disk w.told agrees keeps) step.happens)

-- each move adds to home only what it may
move-home : (w new : JournalWorld) (move : Move) → Holds w → BelowKeepsPromise w.below → Moves w move new →
    HomeAddsOnly (MayAdd w move) w.below.disk new.below.disk
move-home w new (Step event) holds promise moves = event-home w new event holds promise moves
move-home w new (Answer tid) holds promise moves =
    unchanged-adds (MayAdd w (Answer tid)) w.below new.below (ap (λ (x : JournalWorld). x.below) moves.after)
move-home w new (Below move) holds promise moves = promise.home move new.below moves.below

-- the front of the current epoch keeps `KeepsFront`
front-kept : (epoch : Option Epoch) (told : Told) → AgreesNow epoch told → KeepsFrontNow epoch told
front-kept None told agrees = tt
front-kept (Some epoch) told agrees = agrees.keeps

-- an unchanged front makes no step of a handle
told-steps : (move : Move) (old new : JournalWorld) → TellsSame old new → MakesSteps move old.told.front new.told.front
told-steps move old new tells = NoStep (ap (λ (t : Told). t.front.sealed) tells.told) (ap (λ (t : Told). t.front.running.steps) tells.told)

-- an engine step makes no step of a handle
engine-steps : (move : Move) (old new : JournalWorld) (event : Event) → TellsAfterStep event old new → MakesSteps move old.told.front new.told.front
engine-steps move old new (Read b v) tells = told-steps move old new tells
engine-steps move old new (Accept b) tells = absurd tells
engine-steps move old new CommitStep tells = absurd tells
engine-steps move old new CommitFault tells = absurd tells
engine-steps move old new CheckpointStep tells = absurd tells
engine-steps move old new CheckpointFault tells = absurd tells
engine-steps move old new ReadFault tells = absurd tells
engine-steps move old new (DirectWrite b v) tells = absurd tells
engine-steps move old new (DirectWriteFault b v) tells = absurd tells
engine-steps move old new DirectSync tells = absurd tells
engine-steps move old new DirectSyncFault tells = absurd tells

-- another move of the world below makes none, or begins an epoch
below-steps : (old new : JournalWorld) (move : BelowMove) → TellsAfter move old new → MakesSteps (Below move) old.told.front new.told.front
below-steps old new (EngineStep event) tells = engine-steps (Below (EngineStep event)) old new event tells
below-steps old new CloseStep tells = told-steps (Below CloseStep) old new tells
below-steps old new CloseFault tells = told-steps (Below CloseFault) old new tells
below-steps old new GiveUp tells = told-steps (Below GiveUp) old new tells
below-steps old new (Stop left) tells = told-steps (Below (Stop left)) old new tells
below-steps old new (Begin found) tells = told-steps (Below (Begin found)) old new tells
below-steps old new OpeningStep tells = told-steps (Below OpeningStep) old new tells
below-steps old new OpeningFault tells = told-steps (Below OpeningFault) old new tells
below-steps old new (Upgrade move) tells = told-steps (Below (Upgrade move)) old new tells
below-steps old new AnswerOk tells =
    let front : new.told.front ≡ _ = tells.fresh.journal.front in Begun refl (ap (λ (f : Front). f.sealed) front) (ap (λ (f : Front). f.running.steps) front)

-- what each move does to the steps of handles
move-steps : (old new : JournalWorld) (move : Move) → Moves old move new → MakesSteps move old.told.front new.told.front
move-steps old new (Step event) moves =
    let made = event-steps (journal_of moves.epoch old.told) moves.journal old.below.disk new.below.disk event moves.happens in
    subst (λ (w : JournalWorld). MakesSteps (Step event) old.told.front w.told.front) (sym moves.after) made
move-steps old new (Answer tid) moves =
    NoStep (ap (λ (w : JournalWorld). w.told.front.sealed) moves.after) (ap (λ (w : JournalWorld). w.told.front.running.steps) moves.after)
move-steps old new (Below move) moves = below-steps old new move moves.tells

-- front and engine agree at the begin
begin-told : (epoch : Option Epoch) (told : Told) → TellsNothing epoch told → AgreesNow epoch told
begin-told None told fresh = tt
begin-told (Some epoch) told fresh = fresh-told epoch told fresh

begin-past : (w : JournalWorld) → Begins w → AgreesPast w.below.ended w.past
begin-past w begins =
    subst (AgreesPast w.below.ended) (sym begins.first) (subst (λ (xs : List Ended). AgreesPast xs []) (sym (none-ended w.below begins.below)) tt)
  where
    none-ended : (below : World) → BelowBegins below → below.ended ≡ []
    none-ended below (Unopened shut none first) = first
    none-ended below (Made superblock next log running is first) = first

-- the journal's law, if the engine's holds
pub journal-promise : ((start end : World) (moves : List BelowMove) → BelowBegins start → BelowLeads start moves end → BelowKeepsPromise end) →
    (start end : JournalWorld) (moves : List Move) → Begins start → Leads start moves end → KeepsPromise end
journal-promise law start end moves begins leads =
    let below = run-below start end moves leads in
    let promise : BelowKeepsPromise end.below = law start.below end.below below.0 begins.below below.1 in
    let holds : Holds end = run-holds start end moves (begin-told start.below.epoch start.told begins.fresh, begin-past start begins) leads in
    record {
      now = now-kept end.below.shape end.below.epoch end.below.disk end.told holds.0 promise.now;
      ended = past-kept end.below.shape end.below.ended end.past holds.1 promise.ended;
      follows = promise.follows;
      closed = closed-kept end.below.shape end.below.epoch end.below.disk end.told end.below.phase holds.0 promise.closed;
      front = front-kept end.below.epoch end.told holds.0;
      steps = λ move new moved. move-steps end new move moved;
      home = λ move new moved. move-home end new move holds promise moved;
    }
