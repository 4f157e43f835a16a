-- A record has the steps of its run.
use Rattle.std.proofs.Common.{refl, sym, ◌∙◌, ap, append-nil}
use Rattle.std.specs.Prelude.{◌≡◌, List, [], ◌∷◌, ◌++◌}
use Rattle.journal_model.specs.declared.transaction.Step.{Step}
use Rattle.journal_model.specs.Disk.{Disk}
use Rattle.journal_model.specs.Record.{steps_of}
use Rattle.journal_world.specs.Front.{Front, FrontEvent, FrontHappens, sealing, transactions}
use Rattle.journal_world.specs.Front.FrontEvent.{Reserve, RefuseReserve, TakeBack, GiveBack, LoadCredits, LoadMark, Join, ExtendHandle, WriteBlock, RevokeBlock, StopHandle, Lock, Raise}
use Rattle.journal_world.specs.Journal.{Event, Happens, Journal}
use Rattle.journal_world.specs.Journal.Event.{FrontStep, Seal, CommitStep, CommitFault, CheckpointStep, CheckpointFault, ReadBlock, ReadFault, DirectWrite, DirectWriteFault, DirectSync, DirectSyncFault, Finish, AbortMark}
use Rattle.log_epochs.specs.EngineSteps.{Event as EngineEvent}
use Rattle.log_epochs.specs.EngineSteps.Event.{Accept, Read, CommitStep as EngineCommit, CommitFault as EngineCommitFault, CheckpointStep as EngineCheckpoint, CheckpointFault as EngineCheckpointFault, ReadFault as EngineReadFault, DirectWrite as EngineDirect, DirectWriteFault as EngineDirectFault, DirectSync as EngineSync, DirectSyncFault as EngineSyncFault}
use Rattle.log_epochs.specs.EngineWorld.{Move as BelowMove}
use Rattle.log_epochs.specs.EngineWorld.Move.{Step as EngineStep, CloseStep, CloseFault, GiveUp, Stop, Begin, OpeningStep, OpeningFault, AnswerOk, Upgrade}
use Rattle.log_epochs.specs.JournalWorld.{JournalWorld, Leads, Move, Moves, TellsAfter, TellsAfterStep, TellsSame, Told}
use Rattle.log_epochs.specs.JournalWorld.Move.{Step as StepOf, Answer, Below}
use Rattle.locked_journal.specs.Run.{block_steps, front_steps}
use Rattle.volume_prefix.specs.Runs.{after_move, recorded}
use Rattle.volume_prefix.proofs.Steps.{steps-more, steps-same, steps-sealed}

-- the steps of the record
abbrev steps_told : Front → List Step
steps_told f = steps_of (transactions f)

-- the same steps
same-told : (old new : Front) → steps_told new ≡ steps_told old → steps_told new ≡ steps_told old ++ []
same-told old new same = same ∙ sym (append-nil (steps_told old))

is-told : (old new : Front) → new ≡ old → steps_told new ≡ steps_told old ++ []
is-told old new is = same-told old new (ap (λ (f : Front). steps_told f) is)

as-told : (old other new : Front) → new ≡ other → other.sealed ≡ old.sealed → other.running.steps ≡ old.running.steps →
    steps_told new ≡ steps_told old ++ []
as-told old other new is sealed steps = same-told old new (ap (λ (f : Front). steps_told f) is ∙ steps-same old other sealed steps)

one-told : (old other new : Front) (s : Step) → new ≡ other → other.sealed ≡ old.sealed →
    other.running.steps ≡ old.running.steps ++ s ∷ [] → steps_told new ≡ steps_told old ++ s ∷ []
one-told old other new s is sealed steps = ap (λ (f : Front). steps_told f) is ∙ steps-more old other s sealed steps

-- each step of the front
front-told : (old new : Front) (event : FrontEvent) → FrontHappens old event new → steps_told new ≡ steps_told old ++ front_steps event
front-told old new (Reserve n) step = as-told old _ new step.after refl refl
front-told old new (RefuseReserve n) step = as-told old _ new step.after refl refl
front-told old new (TakeBack n) step = as-told old _ new step.after refl refl
front-told old new (GiveBack n) step = as-told old _ new step.after refl refl
front-told old new (LoadCredits found) step = is-told old new step.after
front-told old new (LoadMark found) step = is-told old new step.after
front-told old new (Join n) step = as-told old _ new step.after refl refl
front-told old new (ExtendHandle h n) step = as-told old _ new step.after refl refl
front-told old new (WriteBlock h b v) step = one-told old _ new _ step.after refl refl
front-told old new (RevokeBlock h b) step = one-told old _ new _ step.after refl refl
front-told old new (StopHandle h) step = as-told old _ new step.after refl refl
front-told old new Lock step = as-told old _ new step.after refl refl
front-told old new (Raise t) step = as-told old _ new step.after refl refl

-- each step of the journal
event-told : (old new : Journal) (disk after : Disk) (event : Event) → Happens old disk event new after →
    steps_told new.front ≡ steps_told old.front ++ block_steps event
event-told old new disk after (FrontStep event) step = front-told old.front new.front event step.front
event-told old new disk after Seal step =
    same-told old.front new.front (ap (λ (f : Front). steps_told f) step.front ∙ steps-sealed old.front (sealing old.front) refl refl)
event-told old new disk after CommitStep step = is-told old.front new.front step.front
event-told old new disk after CommitFault step = is-told old.front new.front step.front
event-told old new disk after CheckpointStep step = is-told old.front new.front step.front
event-told old new disk after CheckpointFault step = is-told old.front new.front step.front
event-told old new disk after (ReadBlock h b v) step = one-told old.front _ new.front _ step.front refl refl
event-told old new disk after ReadFault step = as-told old.front _ new.front step.front refl refl
event-told old new disk after (DirectWrite b v) step = is-told old.front new.front step.front
event-told old new disk after (DirectWriteFault b v) step = as-told old.front _ new.front step.front refl refl
event-told old new disk after DirectSync step = is-told old.front new.front step.front
event-told old new disk after DirectSyncFault step = as-told old.front _ new.front step.front refl refl
event-told old new disk after Finish step = as-told old.front _ new.front step.front refl refl
event-told old new disk after AbortMark step = as-told old.front _ new.front step.front refl refl

-- a move below the journal that tells the same
tells-told : (old new : JournalWorld) → TellsSame old new → steps_told new.told.front ≡ steps_told old.told.front
tells-told old new tells = ap (λ (t : Told). steps_told t.front) tells.told

engine-told : (old new : JournalWorld) (event : EngineEvent) → TellsAfterStep event old new →
    steps_told new.told.front ≡ steps_told old.told.front
engine-told old new (Read b v) tells = tells-told old new tells
engine-told old new (Accept b) tells = absurd tells
engine-told old new EngineCommit tells = absurd tells
engine-told old new EngineCommitFault tells = absurd tells
engine-told old new EngineCheckpoint tells = absurd tells
engine-told old new EngineCheckpointFault tells = absurd tells
engine-told old new EngineReadFault tells = absurd tells
engine-told old new (EngineDirect b v) tells = absurd tells
engine-told old new (EngineDirectFault b v) tells = absurd tells
engine-told old new EngineSync tells = absurd tells
engine-told old new EngineSyncFault tells = absurd tells

below-told : (old new : JournalWorld) (move : BelowMove) → TellsAfter move old new →
    steps_told new.told.front ≡ after_move (steps_told old.told.front) (Below move)
below-told old new (EngineStep event) tells = engine-told old new event tells
below-told old new CloseStep tells = tells-told old new tells
below-told old new CloseFault tells = tells-told old new tells
below-told old new GiveUp tells = tells-told old new tells
below-told old new (Stop left) tells = tells-told old new tells
below-told old new (Begin found) tells = tells-told old new tells
below-told old new OpeningStep tells = tells-told old new tells
below-told old new OpeningFault tells = tells-told old new tells
below-told old new AnswerOk tells =
    ap (λ (f : Front). steps_told f) tells.fresh.journal.front
below-told old new (Upgrade move) tells = tells-told old new tells

-- each move
move-told : (old new : JournalWorld) (move : Move) → Moves old move new →
    steps_told new.told.front ≡ after_move (steps_told old.told.front) move
move-told old new (StepOf event) step =
    ap (λ (w : JournalWorld). steps_told w.told.front) step.after
    ∙ event-told _ step.journal old.below.disk new.below.disk event step.happens
move-told old new (Answer tid) step = ap (λ (w : JournalWorld). steps_told w.told.front) step.after
move-told old new (Below move) step = below-told old new move step.tells

pub run-told : (start end : JournalWorld) (moves : List Move) → Leads start moves end →
    steps_of (transactions end.told.front) ≡ recorded (steps_of (transactions start.told.front)) moves
run-told start end [] same = ap (λ (w : JournalWorld). steps_told w.told.front) same
run-told start end (move ∷ moves) (mid, first, rest) =
    run-told mid end moves rest ∙ ap (λ (ss : List Step). recorded ss moves) (move-told start mid move first)
