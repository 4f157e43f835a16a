-- What a run of an engine alone preserves, and that each of its calls is such a step.
use Rattle.std.proofs.Common.{refl, sym, ap, subst, ◌∙◌, arith}
use Rattle.std.specs.Prelude.{◌≡◌, List, [], ◌∷◌, true, Result, Ok, Err, IfOk, IfErr, OnOk}
use Rattle.journal_model.specs.declared.refusal.JournalError.{JournalError}
use Rattle.block_device.specs.State.{DeviceState}
use Rattle.journal_world.specs.Engine.{Engine}
use Rattle.journal_world.proofs.Onward.{GoesOn, fault-on, round-fault-on, round-on, round-unfailed, step-on, step-unfailed}
use Rattle.log_ledger.specs.declared.progress.Progress.{Progress}
use Rattle.log_ledger.specs.declared.progress.Progress.TheVariants.{Idle as NoProgress, Step, Done}
use Rattle.log_engine.specs.Engine.{EngineValue, RoundDid, RoundRefused, StepDid, StepRefused}
use Rattle.log_engine.specs.Engine.RoundRefused.{RoundAborted, RoundFailed}
use Rattle.log_engine.specs.Engine.StepRefused.{WasAborted, DeviceFailed}
use Rattle.locked_journal.specs.Alone.{IsSince, KeptAlone, RanAlone, RunsAlone, StepsAlone}
use Rattle.locked_journal.specs.Alone.StepsAlone.{Commits, CommitFails, Checkpoints, CheckpointFails, Rests}

kept-same : (e : Engine) → KeptAlone e e
kept-same e = record { shape = refl; layout = refl; ring = refl; first = refl; accepted = refl; committed = omega arith; aborted = λ is. is }

kept-on : (a b c : Engine) → KeptAlone a b → KeptAlone b c → KeptAlone a c
kept-on a b c one other =
    let x = one.committed in let y = other.committed in
    record {
      shape = other.shape ∙ one.shape;
      layout = other.layout ∙ one.layout;
      ring = other.ring ∙ one.ring;
      first = other.first ∙ one.first;
      accepted = other.accepted ∙ one.accepted;
      committed = omega arith;
      aborted = λ is. other.aborted (one.aborted is);
    }

kept-goes : (old new : Engine) → GoesOn old new → (old.aborted ≡ true → new.aborted ≡ true) → KeptAlone old new
kept-goes old new on aborted =
    record { shape = on.shape; layout = on.layout; ring = on.ring; first = on.first; accepted = on.accepted; committed = on.committed; aborted = aborted }

-- One step preserves it.
goes-kept : {D : Type 0} (state : D → DeviceState) (old new : EngineValue D) → StepsAlone state old new → KeptAlone old.engine new.engine
goes-kept state old new (Commits step counted) =
    kept-goes old.engine new.engine (step-on old.engine new.engine (state old.device).disk (state new.device).disk step)
    (λ is. step-unfailed old.engine new.engine (state old.device).disk (state new.device).disk step ∙ is)
goes-kept state old new (CommitFails fault counted) =
    kept-goes old.engine new.engine (fault-on old.engine new.engine (state old.device).disk (state new.device).disk fault)
    (λ is. ap (λ (e : Engine). e.aborted) fault.engine)
goes-kept state old new (Checkpoints step counted) =
    kept-goes old.engine new.engine (round-on old.engine new.engine (state old.device).disk (state new.device).disk step)
    (λ is. round-unfailed old.engine new.engine (state old.device).disk (state new.device).disk step ∙ is)
goes-kept state old new (CheckpointFails fault counted) =
    kept-goes old.engine new.engine (round-fault-on old.engine new.engine (state old.device).disk (state new.device).disk fault)
    (λ is. ap (λ (e : Engine). e.aborted) fault.engine)
goes-kept state old new (Rests same disk counted) = subst (KeptAlone old.engine) (sym same) (kept-same old.engine)

-- All steps do.
runs-kept : {D : Type 0} (state : D → DeviceState) (old : EngineValue D) (mids : List (EngineValue D)) (new : EngineValue D) →
    RunsAlone state old mids new → KeptAlone old.engine new.engine
runs-kept {D} state old [] new same = subst (λ (v : EngineValue D). KeptAlone old.engine v.engine) (sym same) (kept-same old.engine)
runs-kept state old (mid ∷ mids) new (ran, step) =
    kept-on old.engine mid.engine new.engine (runs-kept state old mids mid ran) (goes-kept state mid new step)

pub ran-kept : {D : Type 0} (state : D → DeviceState) (old new : EngineValue D) → RanAlone state old new → KeptAlone old.engine new.engine
ran-kept state old new ran = runs-kept state old ran.before new ran.runs

-- One more step.
pub ran-more : {D : Type 0} (state : D → DeviceState) (old new : EngineValue D) → StepsAlone state old new → (reconciled : EngineValue D) →
    RanAlone state reconciled old → RanAlone state reconciled new
ran-more state old new step reconciled ran = record { before = old ∷ ran.before; runs = (ran.runs, step) }

-- No step.
pub ran-none : {D : Type 0} (state : D → DeviceState) (e : EngineValue D) → RanAlone state e e
ran-none state e = record { before = []; runs = refl }

-- The same for what a front knows.
pub since-more : {D : Type 0} (state : D → DeviceState) (honest : D → Type 0) (old new : EngineValue D) → StepsAlone state old new →
    (honest new.device → honest old.device) → (reconciled : EngineValue D) → IsSince state honest reconciled old → IsSince state honest reconciled new
since-more state honest old new step back reconciled since =
    record { ran = ran-more state old new step reconciled since.ran; back = λ now. since.back (back now) }

pub since-none : {D : Type 0} (state : D → DeviceState) (honest : D → Type 0) (e : EngineValue D) → IsSince state honest e e
since-none state honest e = record { ran = ran-none state e; back = λ now. now }

module _ {D : Type 0} (state : D → DeviceState) (old new : EngineValue D) where
  stepped : (p : Progress) → StepDid p old.engine (state old.device).disk new.engine (state new.device).disk →
      (state new.device).faults ≡ (state old.device).faults → StepsAlone state old new
  stepped NoProgress did counted = Rests did.2 did.3 counted
  stepped Step did counted = Commits did.0 counted
  stepped (Done tid) did counted = Commits did.0 counted

  step-refused : (e : JournalError) → StepRefused old.engine (state old.device) new.engine (state new.device) e → StepsAlone state old new
  step-refused _ (WasAborted is same stays faults) = Rests same stays.disk faults
  step-refused _ (DeviceFailed fault counted) = CommitFails fault counted

  -- A flush that is begun, or whose wait is over, leaves engine and disk.
  pub rests : new.engine ≡ old.engine → state new.device ≡ state old.device → StepsAlone state old new
  rests same still = Rests same (ap (λ (s : DeviceState). s.disk) still) (ap (λ (s : DeviceState). s.faults) still)

  -- A commit step is a step alone, whatever it answers.
  pub commit-goes : (r : Result Progress JournalError) → IfOk r (λ p. StepDid p old.engine (state old.device).disk new.engine (state new.device).disk) →
      IfErr r (λ e. StepRefused old.engine (state old.device) new.engine (state new.device) e) → OnOk r ((state new.device).faults ≡ (state old.device).faults) →
      StepsAlone state old new
  commit-goes (Ok p) ok err counted = stepped p ok counted
  commit-goes (Err e) ok err counted = step-refused e err

  rounded : (p : Progress) → RoundDid p old.engine (state old.device).disk new.engine (state new.device).disk →
      (state new.device).faults ≡ (state old.device).faults → StepsAlone state old new
  rounded NoProgress did counted = Rests did.3 did.4 counted
  rounded Step did counted = Checkpoints did.0 counted
  rounded (Done tid) did counted = Checkpoints did.0 counted

  round-refused : (e : JournalError) → RoundRefused old.engine (state old.device) new.engine (state new.device) e → StepsAlone state old new
  round-refused _ (RoundAborted is same stays faults) = Rests same stays.disk faults
  round-refused _ (RoundFailed fault counted) = CheckpointFails fault counted

  -- A step of a checkpoint round is one too.
  pub round-goes : (r : Result Progress JournalError) → IfOk r (λ p. RoundDid p old.engine (state old.device).disk new.engine (state new.device).disk) →
      IfErr r (λ e. RoundRefused old.engine (state old.device) new.engine (state new.device) e) → OnOk r ((state new.device).faults ≡ (state old.device).faults) →
      StepsAlone state old new
  round-goes (Ok p) ok err counted = rounded p ok counted
  round-goes (Err e) ok err counted = round-refused e err
