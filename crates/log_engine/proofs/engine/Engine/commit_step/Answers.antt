use Rattle.std.proofs.Common.{refl, sym, ap, subst, ◌∙◌, ◌≡◌, Some, true}
use Rattle.journal_model.specs.Disk.{Shape}
use Rattle.journal_world.specs.Engine.{CommitFaults, CommitSteps, call_due, stepped}
use Rattle.journal_world.proofs.Faults.{fault-sound}
use Rattle.journal_world.proofs.Steps.{step-sound}
use Rattle.log_ledger.specs.Due.{call_of}
use Rattle.log_ledger.specs.Steps.{IsProgress}
use Rattle.log_ledger.specs.Ledger.{Runs, engine_of}
use Rattle.log_ledger.proofs.Advancing.{faults-on}
use Rattle.log_ledger.proofs.Running.{superblock-of}
use Rattle.log_ledger.proofs.Outcomes.{at-err, at-ok, count-err, count-ok}
use Rattle.log_engine.specs.Engine.{StepRefused}
use Rattle.block_device.proofs.OneCall.{no-call}
use Rattle.log_engine.proofs.Effects.{step-noted}
use Rattle.log_engine.proofs.FewerCalls.{step-fewer}
use Rattle.log_engine.proofs.KeptClean.{fault-clean, step-clean}
use Rattle.log_engine.proofs.Plans.{step-planned}
use Rattle.log_engine.proofs.Stepping.{busy, call-there, during-now, each-fault, each-step, faults-here, idle-at, step-did, steps-here}
use Rattle.log_engine.proofs.engine.Engine.commit_step.Goals as goal

pub returns-then-self-clause-err : goal.returns-then-self-clause-err
returns-then-self-clause-err g c =
    rw (← c.self.view_is) (StepRefused.WasAborted c.if-self.true refl (record { shape = refl; disk = refl; past = refl }) refl)

-- what holds now holds at the one moment
pub returns-then-self-clause-device : goal.returns-then-self-clause-device
returns-then-self-clause-device g c = rw (← c.self.view_is) (no-call (λ honest. during-now _ _ (c.self.invariant.2 honest)))

pub returns-in-Nothing-clause-ok : goal.returns-in-Nothing-clause-ok
returns-in-Nothing-clause-ok g c =
    let shape = (g.D.Device.state c.self.inside.device).shape in
    let none = sym (c.due-due.ensures.due shape (sym c.self.invariant.1)) ∙ ap (λ due. call_of due c.due-due.new.writer) c.in-Nothing.is in
    rw (← c.self.view_is) (idle-at (engine_of shape c.self.inside.ledger) c.self.inside.ledger.stage none, c.if-self.false, refl, refl)

pub returns-in-Nothing-clause-device : goal.returns-in-Nothing-clause-device
returns-in-Nothing-clause-device g c = rw (← c.self.view_is) (no-call (λ honest. during-now _ _ (c.self.invariant.2 honest)))

-- a failed call aborts the engine, which can still be asked
pub invariant_of-self-then-is_err : goal.invariant_of-self-then-is_err
invariant_of-self-then-is_err g c =
    let before = g.D.Device.state c.self.inside.device in
    let after = g.D.Device.state c.make_call.new.device in
    let e = engine_of before.shape c.self.inside.ledger in
    let made = call-there c.due-due.result c.bytes.result.now c.in_default.not-Nothing in
    let due : call_due e ≡ Some made.0 =
    sym (c.due-due.ensures.due before.shape (sym c.self.invariant.1)) ∙ ap (call_of c.due-due.result) (sym c.bytes.ensures) ∙ made.1 in
    let failed = sym c.is_err.ensures.value ∙ c.if-is_err.true in
    let fault : CommitFaults e before.disk (record e { shape = after.shape; aborted = true }) after.disk =
    faults-here e after.shape made.0 before.disk after.disk c.make_call.ensures.shape c.if-self.false due
    (at-err c.make_call.result failed (c.make_call.ensures.err made.0 made.1)) in (
      faults-on before.shape after.shape c.self.inside.ledger c.make_call.ensures.shape c.self.invariant.0,
      c.due-due.ensures.size ∙ c.self.invariant.1 ∙ sym (ap (λ (s : Shape). s.block_size) c.make_call.ensures.shape),
      λ honest. fault-sound e _ before.disk after.disk (c.self.invariant.2 (c.make_call.ensures.honest honest)) fault,
      λ honest. fault-clean e _ before.disk after.disk fault,
      c.self.invariant.4,
      c.self.invariant.5,
    )

pub returns-then-is_err : goal.returns-then-is_err
returns-then-is_err g c =
    let before = g.D.Device.state c.self.inside.device in
    let after = g.D.Device.state c.make_call.new.device in
    let e = engine_of before.shape c.self.inside.ledger in
    let made = call-there c.due-due.result c.bytes.result.now c.in_default.not-Nothing in
    let due : call_due e ≡ Some made.0 =
    sym (c.due-due.ensures.due before.shape (sym c.self.invariant.1)) ∙ ap (call_of c.due-due.result) (sym c.bytes.ensures) ∙ made.1 in
    let failed = sym c.is_err.ensures.value ∙ c.if-is_err.true in
    let fault : CommitFaults e before.disk (record e { shape = after.shape; aborted = true }) after.disk =
    faults-here e after.shape made.0 before.disk after.disk c.make_call.ensures.shape c.if-self.false due
    (at-err c.make_call.result failed (c.make_call.ensures.err made.0 made.1)) in
    rw (← c.self.view_is) (record {
      ok = tt;
      err = StepRefused.DeviceFailed fault (count-err _ _ c.make_call.result failed c.make_call.ensures.faults);
      fewer = tt;
      no_fault = tt;
      device = record {
        shape = c.make_call.ensures.shape;
        moments = λ honest. each-fault e _ before after c.make_call.ensures.moment (c.self.invariant.2 honest) fault;
        one = c.make_call.ensures.moment;
        calls = c.make_call.ensures.calls;
        honest = c.make_call.ensures.honest;
      };
    })

-- a successful call takes the engine one step on
pub invariant_of-self-2 : goal.invariant_of-self-2
invariant_of-self-2 g c =
    let before = g.D.Device.state c.self.inside.device in
    let after = g.D.Device.state c.make_call.new.device in
    let e = engine_of before.shape c.self.inside.ledger in
    let made = call-there c.due-due.result c.bytes.result.now c.in_default.not-Nothing in
    let due : call_due e ≡ Some made.0 =
    sym (c.due-due.ensures.due before.shape (sym c.self.invariant.1)) ∙ ap (call_of c.due-due.result) (sym c.bytes.ensures) ∙ made.1 in
    let worked = sym c.is_err.ensures.value ∙ c.if-is_err.false in
    let size = ap (λ (s : Shape). s.block_size) c.make_call.ensures.shape ∙ sym (superblock-of e c.self.invariant.0.plain).size in
    let here = ap (λ (s : Shape). engine_of s c.self.inside.ledger) c.make_call.ensures.shape in
    let new = engine_of after.shape c.advance.new.self in
    let advanced : new ≡ stepped e = c.advance.ensures.stepped after.shape size ∙ ap stepped here in
    let step : CommitSteps e before.disk new after.disk =
    steps-here e new made.0 before.disk after.disk c.if-self.false due advanced (at-ok c.make_call.result worked (c.make_call.ensures.ok made.0 made.1)) in (
      c.advance.ensures.runs after.shape (subst (λ (s : Shape). Runs s c.self.inside.ledger) (sym c.make_call.ensures.shape) c.self.invariant.0),
      c.due-due.ensures.size ∙ c.self.invariant.1 ∙ sym (ap (λ (s : Shape). s.block_size) c.make_call.ensures.shape),
      λ honest. step-sound e new before.disk after.disk (c.self.invariant.2 (c.make_call.ensures.honest honest)) step,
      λ honest. step-clean e new before.disk after.disk c.self.invariant.0.plain step,
      step-planned e new before.disk after.disk c.self.inside.plan c.self.invariant.0.plain step c.self.invariant.4,
      step-noted e new before.disk after.disk c.self.inside.effects step c.self.invariant.5,
    )

pub returns : goal.returns
returns g c =
    let before = g.D.Device.state c.self.inside.device in
    let after = g.D.Device.state c.make_call.new.device in
    let e = engine_of before.shape c.self.inside.ledger in
    let made = call-there c.due-due.result c.bytes.result.now c.in_default.not-Nothing in
    let due : call_due e ≡ Some made.0 =
    sym (c.due-due.ensures.due before.shape (sym c.self.invariant.1)) ∙ ap (call_of c.due-due.result) (sym c.bytes.ensures) ∙ made.1 in
    let worked = sym c.is_err.ensures.value ∙ c.if-is_err.false in
    let size = ap (λ (s : Shape). s.block_size) c.make_call.ensures.shape ∙ sym (superblock-of e c.self.invariant.0.plain).size in
    let here = ap (λ (s : Shape). engine_of s c.self.inside.ledger) c.make_call.ensures.shape in
    let new = engine_of after.shape c.advance.new.self in
    let advanced : new ≡ stepped e = c.advance.ensures.stepped after.shape size ∙ ap stepped here in
    let step : CommitSteps e before.disk new after.disk =
    steps-here e new made.0 before.disk after.disk c.if-self.false due advanced (at-ok c.make_call.result worked (c.make_call.ensures.ok made.0 made.1)) in
    let progress =
    subst (λ (s : Shape). IsProgress c.advance.result (engine_of s c.self.inside.ledger) new) c.make_call.ensures.shape
    (c.advance.ensures.progress (busy e made.0 due) after.shape) in
    rw (← c.self.view_is) (record {
      ok = step-did c.advance.result e new before.disk after.disk progress step;
      err = tt;
      fewer = step-fewer c.advance.result e new before.disk after.disk c.self.invariant.0.plain (step-did c.advance.result e new before.disk after.disk progress step);
      no_fault = count-ok _ _ c.make_call.result worked c.make_call.ensures.faults;
      device = record {
        shape = c.make_call.ensures.shape;
        moments = λ honest. each-step e new before after c.make_call.ensures.moment (c.self.invariant.2 honest) step;
        one = c.make_call.ensures.moment;
        calls = c.make_call.ensures.calls;
        honest = c.make_call.ensures.honest;
      };
    })
