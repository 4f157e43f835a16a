-- Front and engine agree after each step of the journal, which is one step of the engine, or none.
use Rattle.std.proofs.Common.{refl, sym, ap, subst, ◌∙◌, arith}
use Rattle.std.specs.Prelude.{◌≡◌, ℕ, true, Option, Some, None, List}
use Rattle.journal_model.specs.declared.number.Area.TheVariants.{Home}
use Rattle.journal_model.specs.Disk.{Disk}
use Rattle.journal_world.specs.Call.{Call}
use Rattle.journal_world.specs.Call.Call.{Write, Flush}
use Rattle.journal_world.specs.Direct.{DirectFaults, DirectSteps}
use Rattle.journal_world.specs.Engine.{Engine}
use Rattle.journal_world.specs.Front.{Front, FrontEvent, FrontHappens, aborting}
use Rattle.journal_world.specs.Front.FrontEvent.{Reserve, RefuseReserve, TakeBack, GiveBack, LoadCredits, LoadMark, Join, ExtendHandle, WriteBlock, RevokeBlock, StopHandle, Lock, Raise}
use Rattle.journal_world.specs.Journal.{Event, Happens, Journal, batch_of}
use Rattle.journal_world.specs.Journal.Event.{FrontStep, Seal, CommitStep, CommitFault, CheckpointStep, CheckpointFault, ReadBlock, ReadFault, DirectWrite, DirectWriteFault, DirectSync, DirectSyncFault, Finish, AbortMark}
use Rattle.journal_world.proofs.Fronts.{FrontAgrees, fails-on, finish-agrees, front-agrees, goes-on, read-agrees, seal-agrees, told-on}
use Rattle.journal_world.proofs.Onward.{GoesOn, aborted-on, fault-on, round-fault-on, round-on, round-unfailed, step-on, step-unfailed}
use Rattle.log_epochs.specs.JournalWorld.{Move, with_directs}
use Rattle.log_epochs.specs.JournalWorld.Move.{Step}
use Rattle.log_epochs.specs.JournalPromise.{MakesSteps}
use Rattle.log_epochs.specs.JournalPromise.MakesSteps.{NoStep, OneWrite, OneRevoke, OneRead, Sealed}
use Rattle.log_epochs.specs.EngineSteps.{Event as EngineEvent, Happens as EngineHappens, with_directs as below_directs}
use Rattle.log_epochs.specs.EngineSteps.Event.{Accept, CommitStep as EngineCommit, CommitFault as EngineCommitFault, CheckpointStep as EngineCheckpoint, CheckpointFault as EngineCheckpointFault, ReadFault as EngineReadFault, DirectWrite as EngineDirect, DirectWriteFault as EngineDirectFault, DirectSync as EngineSync, DirectSyncFault as EngineSyncFault}

-- front and engine agree, with these answers
abbrev pub Agrees : Journal → List ℕ → Type 0
Agrees j answered = FrontAgrees j.front j.engine answered

-- they agree after a step by which the engine goes on
engine-agrees : (old new : Journal) (answered : List ℕ) → new.front ≡ old.front → GoesOn old.engine new.engine → new.engine.aborted ≡ old.engine.aborted →
    Agrees old answered → Agrees new answered
engine-agrees old new answered same on unfailed agrees =
    subst (λ (f : Front). FrontAgrees f new.engine answered) (sym same) (goes-on old.front old.engine new.engine answered on unfailed agrees)

-- they agree after a step that fails, if the front is notified
failed-agrees : (old new : Journal) (answered : List ℕ) → new.front ≡ aborting old.front → GoesOn old.engine new.engine → new.engine.aborted ≡ true →
    Agrees old answered → Agrees new answered
failed-agrees old new answered told on failed agrees =
    subst (λ (f : Front). FrontAgrees f new.engine answered) (sym told) (fails-on old.front old.engine new.engine answered on failed agrees)

-- they agree after a step that fails, before the front is notified
unmarked-agrees : (old new : Journal) (answered : List ℕ) → new.front ≡ old.front → GoesOn old.engine new.engine → new.engine.aborted ≡ true →
    Agrees old answered → Agrees new answered
unmarked-agrees old new answered same on failed agrees =
    subst (λ (f : Front). FrontAgrees f new.engine answered) (sym same)
    (told-on old.front old.engine new.engine answered old.front.aborted on (λ yes. failed) agrees)

-- they agree when the front is notified
marked-agrees : (old new : Journal) (answered : List ℕ) → new.front ≡ aborting old.front → new.engine ≡ old.engine → old.engine.aborted ≡ true →
    Agrees old answered → Agrees new answered
marked-agrees old new answered told same failed agrees =
    subst (λ (e : Engine). FrontAgrees new.front e answered) (sym same)
    (subst (λ (f : Front). FrontAgrees f old.engine answered) (sym told)
    (told-on old.front old.engine old.engine answered true
    (record { shape = refl; layout = refl; ring = refl; first = refl; accepted = refl; committed = omega arith }) (λ yes. failed) agrees))

-- they agree after a direct call
direct-agrees : (old new : Journal) (disk after : Disk) (answered : List ℕ) (call : Call) → new.front ≡ old.front →
    DirectSteps old.engine disk call new.engine after → Agrees old answered → Agrees new answered
direct-agrees old new disk after answered call same step agrees =
    subst (λ (f : Front). FrontAgrees f new.engine answered) (sym same)
    (subst (λ (e : Engine). FrontAgrees old.front e answered) (sym step.engine) agrees)

-- they agree after a direct call that fails
direct-fault-agrees : (old new : Journal) (disk after : Disk) (answered : List ℕ) (call : Call) → new.front ≡ aborting old.front →
    DirectFaults old.engine disk call new.engine after → Agrees old answered → Agrees new answered
direct-fault-agrees old new disk after answered call told fault agrees =
    failed-agrees old new answered told (subst (GoesOn old.engine) (sym fault.engine) (aborted-on old.engine))
    (ap (λ (e : Engine). e.aborted) fault.engine) agrees

-- they agree after each event
pub event-agrees : (old new : Journal) (disk after : Disk) (answered : List ℕ) (event : Event) → Agrees old answered → Happens old disk event new after →
    Agrees new answered
event-agrees old new disk after answered (FrontStep event) agrees happens =
    subst (λ (e : Engine). FrontAgrees new.front e answered) (sym happens.engine)
    (front-agrees old.front new.front old.engine answered event happens.front agrees)
event-agrees old new disk after answered Finish agrees happens =
    subst (λ (e : Engine). FrontAgrees new.front e answered) (sym happens.engine)
    (subst (λ (f : Front). FrontAgrees f old.engine answered) (sym happens.front)
    (finish-agrees old.front old.engine answered happens.committed agrees))
event-agrees old new disk after answered AbortMark agrees happens = marked-agrees old new answered happens.front happens.engine happens.failed agrees
event-agrees old new disk after answered Seal agrees happens =
    subst (λ (f : Front). FrontAgrees f new.engine answered) (sym happens.front)
    (seal-agrees old.front old.engine new.engine answered happens.may happens.engine agrees)
event-agrees old new disk after answered CommitStep agrees happens =
    engine-agrees old new answered happens.front (step-on old.engine new.engine disk after happens.engine)
    (step-unfailed old.engine new.engine disk after happens.engine) agrees
event-agrees old new disk after answered CommitFault agrees happens =
    unmarked-agrees old new answered happens.front (fault-on old.engine new.engine disk after happens.engine)
    (ap (λ (e : Engine). e.aborted) happens.engine.engine) agrees
event-agrees old new disk after answered CheckpointStep agrees happens =
    engine-agrees old new answered happens.front (round-on old.engine new.engine disk after happens.engine)
    (round-unfailed old.engine new.engine disk after happens.engine) agrees
event-agrees old new disk after answered CheckpointFault agrees happens =
    unmarked-agrees old new answered happens.front (round-fault-on old.engine new.engine disk after happens.engine)
    (ap (λ (e : Engine). e.aborted) happens.engine.engine) agrees
event-agrees old new disk after answered (ReadBlock h b v) agrees happens =
    subst (λ (e : Engine). FrontAgrees new.front e answered) (sym happens.engine)
    (subst (λ (f : Front). FrontAgrees f old.engine answered) (sym happens.front)
    (read-agrees old.front old.engine answered h b v (disk Home b).reads happens.handle happens.sees agrees))
event-agrees old new disk after answered ReadFault agrees happens =
    failed-agrees old new answered happens.front (subst (GoesOn old.engine) (sym happens.engine) (aborted-on old.engine))
    (ap (λ (e : Engine). e.aborted) happens.engine) agrees
event-agrees old new disk after answered (DirectWrite b v) agrees happens = direct-agrees old new disk after answered (Write Home b v) happens.front happens.engine agrees
event-agrees old new disk after answered (DirectWriteFault b v) agrees happens =
    direct-fault-agrees old new disk after answered (Write Home b v) happens.front happens.engine agrees
event-agrees old new disk after answered DirectSync agrees happens = direct-agrees old new disk after answered (Flush Home) happens.front happens.engine agrees
event-agrees old new disk after answered DirectSyncFault agrees happens =
    direct-fault-agrees old new disk after answered (Flush Home) happens.front happens.engine agrees

-- the engine's step that a journal's step makes, if any
abbrev pub below_event : Front → Event → Option EngineEvent
below_event f (FrontStep event) = None
below_event f Finish = None
below_event f AbortMark = None
below_event f Seal = Some (Accept (batch_of f.running))
below_event f CommitStep = Some EngineCommit
below_event f CommitFault = Some EngineCommitFault
below_event f CheckpointStep = Some EngineCheckpoint
below_event f CheckpointFault = Some EngineCheckpointFault
below_event f (ReadBlock h b v) = None
below_event f ReadFault = Some EngineReadFault
below_event f (DirectWrite b v) = Some (EngineDirect b v)
below_event f (DirectWriteFault b v) = Some (EngineDirectFault b v)
below_event f DirectSync = Some EngineSync
below_event f DirectSyncFault = Some EngineSyncFault

-- a journal's step is no step of the engine, or this one
pub data IsBelow (own : Option EngineEvent) (old : Engine) (disk : Disk) (new : Engine) (after : Disk) (directs more : List (ℕ × List ℕ)) : Type 0 where
  Nothing : new ≡ old → after ≡ disk → more ≡ directs → IsBelow own old disk new after directs more
  Same : (event : EngineEvent) → own ≡ Some event → EngineHappens old disk event new after → more ≡ below_directs event directs →
      IsBelow own old disk new after directs more

pub event-below : (old new : Journal) (disk after : Disk) (event : Event) (directs : List (ℕ × List ℕ)) → Happens old disk event new after →
    IsBelow (below_event old.front event) old.engine disk new.engine after directs (with_directs event directs)
event-below old new disk after (FrontStep event) directs happens = Nothing happens.engine happens.disk_is refl
event-below old new disk after Finish directs happens = Nothing happens.engine happens.disk_is refl
event-below old new disk after AbortMark directs happens = Nothing happens.engine happens.disk_is refl
event-below old new disk after Seal directs happens =
    Same (Accept (batch_of old.front.running)) refl (record { engine = happens.engine; disk_is = happens.disk_is }) refl
event-below old new disk after CommitStep directs happens = Same EngineCommit refl happens.engine refl
event-below old new disk after CommitFault directs happens = Same EngineCommitFault refl happens.engine refl
event-below old new disk after CheckpointStep directs happens = Same EngineCheckpoint refl happens.engine refl
event-below old new disk after CheckpointFault directs happens = Same EngineCheckpointFault refl happens.engine refl
event-below old new disk after (ReadBlock h b v) directs happens = Nothing happens.engine happens.disk_is refl
event-below old new disk after ReadFault directs happens =
    Same EngineReadFault refl (record { running = happens.running; engine = happens.engine; disk_is = happens.disk_is }) refl
event-below old new disk after (DirectWrite b v) directs happens = Same (EngineDirect b v) refl happens.engine refl
event-below old new disk after (DirectWriteFault b v) directs happens = Same (EngineDirectFault b v) refl happens.engine refl
event-below old new disk after DirectSync directs happens = Same EngineSync refl happens.engine refl
event-below old new disk after DirectSyncFault directs happens = Same EngineSyncFault refl happens.engine refl

-- a step of the front makes at most one step of a handle
front-steps : (old new : Front) (event : FrontEvent) → FrontHappens old event new → MakesSteps (Step (FrontStep event)) old new
front-steps old new (Reserve n) step = NoStep (ap (λ (f : Front). f.sealed) step.after) (ap (λ (f : Front). f.running.steps) step.after)
front-steps old new (RefuseReserve n) step = NoStep (ap (λ (f : Front). f.sealed) step.after) (ap (λ (f : Front). f.running.steps) step.after)
front-steps old new (TakeBack n) step = NoStep (ap (λ (f : Front). f.sealed) step.after) (ap (λ (f : Front). f.running.steps) step.after)
front-steps old new (GiveBack n) step = NoStep (ap (λ (f : Front). f.sealed) step.after) (ap (λ (f : Front). f.running.steps) step.after)
front-steps old new (LoadCredits found) step = NoStep (ap (λ (f : Front). f.sealed) step.after) (ap (λ (f : Front). f.running.steps) step.after)
front-steps old new (LoadMark found) step = NoStep (ap (λ (f : Front). f.sealed) step.after) (ap (λ (f : Front). f.running.steps) step.after)
front-steps old new (Join n) step = NoStep (ap (λ (f : Front). f.sealed) step.after) (ap (λ (f : Front). f.running.steps) step.after)
front-steps old new (ExtendHandle h n) step = NoStep (ap (λ (f : Front). f.sealed) step.after) (ap (λ (f : Front). f.running.steps) step.after)
front-steps old new (WriteBlock h b v) step =
    OneWrite h b v refl step.handle (ap (λ (f : Front). f.sealed) step.after) (ap (λ (f : Front). f.running.steps) step.after)
front-steps old new (RevokeBlock h b) step =
    OneRevoke h b refl step.handle (ap (λ (f : Front). f.sealed) step.after) (ap (λ (f : Front). f.running.steps) step.after)
front-steps old new (StopHandle h) step = NoStep (ap (λ (f : Front). f.sealed) step.after) (ap (λ (f : Front). f.running.steps) step.after)
front-steps old new Lock step = NoStep (ap (λ (f : Front). f.sealed) step.after) (ap (λ (f : Front). f.running.steps) step.after)
front-steps old new (Raise t) step = NoStep (ap (λ (f : Front). f.sealed) step.after) (ap (λ (f : Front). f.running.steps) step.after)

-- a notified front makes no step of a handle
same-steps : (move : Move) (old new front : Front) → new ≡ front → front.sealed ≡ old.sealed → front.running.steps ≡ old.running.steps → MakesSteps move old new
same-steps move old new front is sealed steps =
    NoStep (ap (λ (f : Front). f.sealed) is ∙ sealed) (ap (λ (f : Front). f.running.steps) is ∙ steps)

-- what each event does to the steps of handles
pub event-steps : (old new : Journal) (disk after : Disk) (event : Event) → Happens old disk event new after → MakesSteps (Step event) old.front new.front
event-steps old new disk after (FrontStep event) happens = front-steps old.front new.front event happens.front
event-steps old new disk after Finish happens = same-steps (Step Finish) old.front new.front _ happens.front refl refl
event-steps old new disk after AbortMark happens = same-steps (Step AbortMark) old.front new.front _ happens.front refl refl
event-steps old new disk after Seal happens =
    Sealed refl happens.may.stopped (ap (λ (f : Front). f.sealed) happens.front) (ap (λ (f : Front). f.running.steps) happens.front)
event-steps old new disk after CommitStep happens = same-steps (Step CommitStep) old.front new.front _ happens.front refl refl
event-steps old new disk after CommitFault happens = same-steps (Step CommitFault) old.front new.front _ happens.front refl refl
event-steps old new disk after CheckpointStep happens = same-steps (Step CheckpointStep) old.front new.front _ happens.front refl refl
event-steps old new disk after CheckpointFault happens = same-steps (Step CheckpointFault) old.front new.front _ happens.front refl refl
event-steps old new disk after (ReadBlock h b v) happens =
    OneRead h b v refl happens.handle (ap (λ (f : Front). f.sealed) happens.front) (ap (λ (f : Front). f.running.steps) happens.front)
event-steps old new disk after ReadFault happens = same-steps (Step ReadFault) old.front new.front _ happens.front refl refl
event-steps old new disk after (DirectWrite b v) happens = same-steps (Step (DirectWrite b v)) old.front new.front _ happens.front refl refl
event-steps old new disk after (DirectWriteFault b v) happens = same-steps (Step (DirectWriteFault b v)) old.front new.front _ happens.front refl refl
event-steps old new disk after DirectSync happens = same-steps (Step DirectSync) old.front new.front _ happens.front refl refl
event-steps old new disk after DirectSyncFault happens = same-steps (Step DirectSyncFault) old.front new.front _ happens.front refl refl
