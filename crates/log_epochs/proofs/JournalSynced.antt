-- A journal's synced direct write stays, as in the engine's world.
use Rattle.std.proofs.Common.{refl, sym, ap, subst, inl, inr}
use Rattle.std.specs.Prelude.{◌≡◌, ⊤, ℕ, List, [], ◌∷◌, ◌++◌, Some, Contains}
use Rattle.std.specs.List.{AllByRecursion}
use Rattle.std.proofs.lemmas.List.Elements.{Contains-append_left, Contains-append_right}
use Rattle.std.proofs.lemmas.Option.{none-some, same_Some}
use Rattle.journal_model.proofs.ListElements.{contains-behind, contains-first}
use Rattle.journal_model.specs.Transaction.{entries}
use Rattle.journal_world.specs.Front.{Front}
use Rattle.journal_world.specs.Journal.{Event, batch_of}
use Rattle.journal_world.specs.Journal.Event.{FrontStep, Seal, CommitStep, CommitFault, CheckpointStep, CheckpointFault, ReadBlock, ReadFault, DirectWrite, DirectWriteFault, DirectSync, DirectSyncFault, Finish, AbortMark}
use Rattle.journal_world.proofs.Lasts.{none-entered}
use Rattle.log_epochs.specs.DirectPromise.{LeavesAlone as BelowLeavesAlone}
use Rattle.log_epochs.specs.EngineSteps.{Event as EngineEvent}
use Rattle.log_epochs.specs.EngineSteps.Event.{Accept, Read, CommitStep as EngineCommit, CommitFault as EngineCommitFault, CheckpointStep as EngineCheckpoint, CheckpointFault as EngineCheckpointFault, ReadFault as EngineReadFault, DirectWrite as EngineDirect, DirectWriteFault as EngineDirectFault, DirectSync as EngineSync, DirectSyncFault as EngineSyncFault}
use Rattle.log_epochs.specs.EngineWorld.{Move as BelowMove, Moves as BelowMoves, World}
use Rattle.log_epochs.specs.EngineWorld.Move.{Step as EngineStep, CloseStep, CloseFault, GiveUp, Stop, Begin, OpeningStep, OpeningFault, AnswerOk, Upgrade}
use Rattle.log_epochs.specs.JournalDirect.{IsNoStop, IsSynced, IsThatOrLater, KeepsDirect, LeaveAlone, LeavesAlone, SealsWithout, since_write}
use Rattle.log_epochs.specs.JournalDirect.IsHandedOver.{Succeeded, Failed}
use Rattle.log_epochs.specs.JournalWorld.{Begins, JournalWorld, Leads, Move, Moves, TellsAfter, TellsAfterStep}
use Rattle.log_epochs.specs.JournalWorld.Move.{Step, Answer, Below}
use Rattle.log_epochs.proofs.EngineRuns.{HasHistory, OfEngine, begin-history, run-history}
use Rattle.log_epochs.proofs.JournalSteps.{below_event}
use Rattle.log_epochs.proofs.Journals.{IsStepBelow, run-below, step-below}
use Rattle.log_epochs.proofs.Journals.IsStepBelow.{Unchanged, Stepped}
use Rattle.log_epochs.proofs.Lives.{Holds, begin-holds, life-holds}
use Rattle.log_epochs.proofs.Synced.{Carries, HandsAt, HandsOver, HoldsAs, on-held, on-safe, safe-reads, synced-held, written-safe}

-- a direct write of block b hands over bytes that satisfy P
abbrev JournalHands : (List ℕ → Type 0) → ℕ → Move → Type 0
JournalHands P b (Step (DirectWrite c v)) = c ≡ b → P v
JournalHands P b (Step (DirectWriteFault c v)) = c ≡ b → P v
JournalHands P b (Step DirectSync) = ⊤
JournalHands P b (Step DirectSyncFault) = ⊤
JournalHands P b (Step (FrontStep event)) = ⊤
JournalHands P b (Step Seal) = ⊤
JournalHands P b (Step CommitStep) = ⊤
JournalHands P b (Step CommitFault) = ⊤
JournalHands P b (Step CheckpointStep) = ⊤
JournalHands P b (Step CheckpointFault) = ⊤
JournalHands P b (Step (ReadBlock h block v)) = ⊤
JournalHands P b (Step ReadFault) = ⊤
JournalHands P b (Step Finish) = ⊤
JournalHands P b (Step AbortMark) = ⊤
JournalHands P b (Answer tid) = ⊤
JournalHands P b (Below move) = ⊤

module _ (P : List ℕ → Type 0) (b : ℕ) where
  -- so does the engine's step that it makes
  hands-below : (f : Front) (event : Event) (e : EngineEvent) → below_event f event ≡ Some e → JournalHands P b (Step event) → HandsAt P b e
  hands-below f (FrontStep event) e is hands = absurd (none-some e is)
  hands-below f (ReadBlock h block v) e is hands = absurd (none-some e is)
  hands-below f Finish e is hands = absurd (none-some e is)
  hands-below f AbortMark e is hands = absurd (none-some e is)
  hands-below f Seal e is hands = subst (HandsAt P b) (same_Some _ e is) tt
  hands-below f CommitStep e is hands = subst (HandsAt P b) (same_Some _ e is) tt
  hands-below f CommitFault e is hands = subst (HandsAt P b) (same_Some _ e is) tt
  hands-below f CheckpointStep e is hands = subst (HandsAt P b) (same_Some _ e is) tt
  hands-below f CheckpointFault e is hands = subst (HandsAt P b) (same_Some _ e is) tt
  hands-below f ReadFault e is hands = subst (HandsAt P b) (same_Some _ e is) tt
  hands-below f (DirectWrite c v) e is hands = subst (HandsAt P b) (same_Some (EngineDirect c v) e is) hands
  hands-below f (DirectWriteFault c v) e is hands = subst (HandsAt P b) (same_Some (EngineDirectFault c v) e is) hands
  hands-below f DirectSync e is hands = subst (HandsAt P b) (same_Some _ e is) tt
  hands-below f DirectSyncFault e is hands = subst (HandsAt P b) (same_Some _ e is) tt

  -- the engine's step leaves the block alone too
  alone-below : (f : Front) (event : Event) (e : EngineEvent) → below_event f event ≡ Some e → SealsWithout b f event → BelowLeavesAlone b (EngineStep e)
  alone-below f (FrontStep event) e is alone = absurd (none-some e is)
  alone-below f (ReadBlock h block v) e is alone = absurd (none-some e is)
  alone-below f Finish e is alone = absurd (none-some e is)
  alone-below f AbortMark e is alone = absurd (none-some e is)
  alone-below f Seal e is alone =
      subst (λ (x : EngineEvent). BelowLeavesAlone b (EngineStep x)) (same_Some (Accept (batch_of f.running)) e is)
      (none-entered b f.running.steps (entries f.running.steps) refl alone)
  alone-below f CommitStep e is alone = subst (λ (x : EngineEvent). BelowLeavesAlone b (EngineStep x)) (same_Some EngineCommit e is) tt
  alone-below f CommitFault e is alone = subst (λ (x : EngineEvent). BelowLeavesAlone b (EngineStep x)) (same_Some EngineCommitFault e is) tt
  alone-below f CheckpointStep e is alone = subst (λ (x : EngineEvent). BelowLeavesAlone b (EngineStep x)) (same_Some EngineCheckpoint e is) tt
  alone-below f CheckpointFault e is alone = subst (λ (x : EngineEvent). BelowLeavesAlone b (EngineStep x)) (same_Some EngineCheckpointFault e is) tt
  alone-below f ReadFault e is alone = subst (λ (x : EngineEvent). BelowLeavesAlone b (EngineStep x)) (same_Some EngineReadFault e is) tt
  alone-below f (DirectWrite c v) e is alone = subst (λ (x : EngineEvent). BelowLeavesAlone b (EngineStep x)) (same_Some (EngineDirect c v) e is) tt
  alone-below f (DirectWriteFault c v) e is alone =
      subst (λ (x : EngineEvent). BelowLeavesAlone b (EngineStep x)) (same_Some (EngineDirectFault c v) e is) tt
  alone-below f DirectSync e is alone = subst (λ (x : EngineEvent). BelowLeavesAlone b (EngineStep x)) (same_Some EngineSync e is) tt
  alone-below f DirectSyncFault e is alone = subst (λ (x : EngineEvent). BelowLeavesAlone b (EngineStep x)) (same_Some EngineSyncFault e is) tt

  -- an engine step that is no step of the journal leaves the block alone
  quiet-step : (event : EngineEvent) (old new : JournalWorld) → TellsAfterStep event old new → HandsAt P b event × BelowLeavesAlone b (EngineStep event)
  quiet-step (Read c v) old new tells = (tt, tt)
  quiet-step (Accept batch) old new tells = absurd tells
  quiet-step EngineCommit old new tells = absurd tells
  quiet-step EngineCommitFault old new tells = absurd tells
  quiet-step EngineCheckpoint old new tells = absurd tells
  quiet-step EngineCheckpointFault old new tells = absurd tells
  quiet-step EngineReadFault old new tells = absurd tells
  quiet-step (EngineDirect c v) old new tells = absurd tells
  quiet-step (EngineDirectFault c v) old new tells = absurd tells
  quiet-step EngineSync old new tells = absurd tells
  quiet-step EngineSyncFault old new tells = absurd tells

  quiet : (move : BelowMove) (old new : JournalWorld) → TellsAfter move old new → HandsOver P b move × BelowLeavesAlone b move
  quiet (EngineStep event) old new tells = quiet-step event old new tells
  quiet CloseStep old new tells = (tt, tt)
  quiet CloseFault old new tells = (tt, tt)
  quiet GiveUp old new tells = (tt, tt)
  quiet (Stop left) old new tells = (tt, tt)
  quiet (Begin found) old new tells = (tt, tt)
  quiet OpeningStep old new tells = (tt, tt)
  quiet OpeningFault old new tells = (tt, tt)
  quiet (Upgrade move) old new tells = (tt, tt)
  quiet AnswerOk old new tells = (tt, tt)

  -- a move that is no crash keeps the block safe
  move-safe : (old new : JournalWorld) (move : Move) → JournalHands P b move → IsNoStop move → LeavesAlone b old.told.front move → Moves old move new →
      Carries P b old.below → Carries P b new.below
  move-safe old new (Step event) hands goes alone moves carries = by (step-below old new event moves)
    where
      by : IsStepBelow (below_event old.told.front event) old.below new.below → Carries P b new.below
      by (Unchanged same) = subst (Carries P b) (sym same) carries
      by (Stepped e is below) =
          on-safe P b old.below new.below (EngineStep e) (hands-below old.told.front event e is hands) tt (alone-below old.told.front event e is alone) below carries
  move-safe old new (Answer tid) hands goes alone moves carries =
      subst (Carries P b) (sym (ap (λ (w : JournalWorld). w.below) moves.after)) carries
  move-safe old new (Below move) hands goes alone moves carries =
      let still = quiet move old new moves.tells in on-safe P b old.below new.below move still.0 goes still.1 moves.below carries

  -- any move does, if home holds nothing else of the block
  move-held : (old new : JournalWorld) (move : Move) → JournalHands P b move → LeavesAlone b old.told.front move → Moves old move new →
      Carries P b old.below × HoldsAs P b old.below → Carries P b new.below × HoldsAs P b new.below
  move-held old new (Step event) hands alone moves has = by (step-below old new event moves)
    where
      by : IsStepBelow (below_event old.told.front event) old.below new.below → Carries P b new.below × HoldsAs P b new.below
      by (Unchanged same) = subst (λ (w : World). Carries P b w × HoldsAs P b w) (sym same) has
      by (Stepped e is below) =
          on-held P b old.below new.below (EngineStep e) (hands-below old.told.front event e is hands) (alone-below old.told.front event e is alone) below has
  move-held old new (Answer tid) hands alone moves has =
      subst (λ (w : World). Carries P b w × HoldsAs P b w) (sym (ap (λ (w : JournalWorld). w.below) moves.after)) has
  move-held old new (Below move) hands alone moves has =
      let still = quiet move old new moves.tells in on-held P b old.below new.below move still.0 still.1 moves.below has

  -- so does a sequence of moves
  run-safe : (old new : JournalWorld) (moves : List Move) → ((move : Move) → Contains moves move → JournalHands P b move) → AllByRecursion IsNoStop moves →
      (leads : Leads old moves new) → LeaveAlone b old moves new leads → Carries P b old.below → Carries P b new.below
  run-safe old new [] hands goes same alone carries = subst (λ (w : JournalWorld). Carries P b w.below) (sym same) carries
  run-safe old new (move ∷ moves) hands goes (mid, first, rest) alone carries =
      run-safe mid new moves (λ m among. hands m (contains-behind move moves m among)) goes.1 rest alone.1
      (move-safe old mid move (hands move (contains-first move moves move refl)) goes.0 alone.0 first carries)

  run-held : (old new : JournalWorld) (moves : List Move) → ((move : Move) → Contains moves move → JournalHands P b move) → (leads : Leads old moves new) →
      LeaveAlone b old moves new leads → Carries P b old.below × HoldsAs P b old.below → Carries P b new.below × HoldsAs P b new.below
  run-held old new [] hands same alone has = subst (λ (w : JournalWorld). Carries P b w.below × HoldsAs P b w.below) (sym same) has
  run-held old new (move ∷ moves) hands (mid, first, rest) alone has =
      run-held mid new moves (λ m among. hands m (contains-behind move moves m among)) rest alone.1
      (move-held old mid move (hands move (contains-first move moves move refl)) alone.0 first has)

-- a direct write among some moves is one of them
handed-among : (since moves : List Move) (b : ℕ) (v : List ℕ) → ((move : Move) → Contains moves move → Contains since move) →
    (move : Move) → Contains moves move → JournalHands (IsThatOrLater since b v) b move
handed-among since moves b v within (Step (DirectWrite c w)) among =
    λ here. inr (Succeeded (subst (λ (n : ℕ). Contains since (Step (DirectWrite n w))) here (within (Step (DirectWrite c w)) among)))
handed-among since moves b v within (Step (DirectWriteFault c w)) among =
    λ here. inr (Failed (subst (λ (n : ℕ). Contains since (Step (DirectWriteFault n w))) here (within (Step (DirectWriteFault c w)) among)))
handed-among since moves b v within (Step DirectSync) among = tt
handed-among since moves b v within (Step DirectSyncFault) among = tt
handed-among since moves b v within (Step (FrontStep event)) among = tt
handed-among since moves b v within (Step Seal) among = tt
handed-among since moves b v within (Step CommitStep) among = tt
handed-among since moves b v within (Step CommitFault) among = tt
handed-among since moves b v within (Step CheckpointStep) among = tt
handed-among since moves b v within (Step CheckpointFault) among = tt
handed-among since moves b v within (Step (ReadBlock h block u)) among = tt
handed-among since moves b v within (Step ReadFault) among = tt
handed-among since moves b v within (Step Finish) among = tt
handed-among since moves b v within (Step AbortMark) among = tt
handed-among since moves b v within (Answer tid) among = tt
handed-among since moves b v within (Below move) among = tt

-- the engine makes the direct write
write-below : (old new : JournalWorld) (b : ℕ) (v : List ℕ) → Moves old (Step (DirectWrite b v)) new → BelowMoves old.below (EngineStep (EngineDirect b v)) new.below
write-below old new b v moves = record {
  running = moves.running;
  epoch = moves.epoch;
  now = moves.now;
  engine = moves.journal.engine;
  happens = moves.happens.engine;
  after = ap (λ (w : JournalWorld). w.below) moves.after;
}

-- the engine makes the sync
sync-below : (old new : JournalWorld) → Moves old (Step DirectSync) new → BelowMoves old.below (EngineStep EngineSync) new.below
sync-below old new moves = record {
  running = moves.running;
  epoch = moves.epoch;
  now = moves.now;
  engine = moves.journal.engine;
  happens = moves.happens.engine;
  after = ap (λ (w : JournalWorld). w.below) moves.after;
}

-- a synced direct write stays
pub journal-stays : (start end : JournalWorld) (b : ℕ) (v : List ℕ) (run : IsSynced start b v end) → Begins start →
    KeepsDirect (since_write start b v end run) b v end
journal-stays start end b v run begins =
    let since : List Move = run.between ++ run.behind in
    let P : List ℕ → Type 0 = IsThatOrLater since b v in
    let below = run-below start run.ready run.before run.leads_to in
    let holds : Holds run.ready.below = life-holds start.below run.ready.below below.0 (begin-holds start.below begins.below) below.1 in
    let history : OfEngine ⊤ HasHistory run.ready.below.epoch = run-history start.below run.ready.below below.0 (begin-history start.below begins.below) below.1 in
    let first : Carries P b run.written.below =
    written-safe P b v run.ready.below run.written.below holds history (write-below run.ready run.written b v run.writes) (inl refl) in
    let unsynced : Carries P b run.unsynced.below =
    run-safe P b run.written run.unsynced run.between
    (handed-among since run.between b v (λ move among. Contains-append_left run.between run.behind move among))
    run.unstopped run.leads_on run.alone first in
    let syncs = sync-below run.unsynced run.synced run.syncs in
    let synced : Carries P b run.synced.below = on-safe P b run.unsynced.below run.synced.below (EngineStep EngineSync) tt tt tt syncs unsynced in
    let last =
    run-held P b run.synced end run.behind
    (handed-among since run.behind b v (λ move among. Contains-append_right run.between run.behind move among))
    run.leads run.alone_after (synced, synced-held P b run.unsynced.below run.synced.below unsynced.safe syncs) in
    record {
      holds = last.1;
      reads = λ epoch u running now read. safe-reads P b end.below epoch u last.0.safe now read;
    }
