use Rattle.std.proofs.Common.{refl, sym, ap, subst, ◌∙◌, ◌≡◌, Some, true}
use Rattle.journal_model.specs.Disk.{Shape}
use Rattle.journal_world.specs.Checkpoint.{RoundFaults, RoundSteps}
use Rattle.journal_world.proofs.RoundFaults.{round-fault-sound}
use Rattle.journal_world.proofs.RoundSteps.{round-sound}
use Rattle.log_ledger.specs.declared.progress.Progress.{Progress}
use Rattle.log_ledger.specs.Due.{call_of}
use Rattle.log_ledger.specs.Ledger.{Runs, engine_of}
use Rattle.log_ledger.specs.Steps.{IsRoundProgress}
use Rattle.log_ledger.proofs.Outcomes.{at-err, at-ok, count-err, count-ok}
use Rattle.log_engine.specs.Engine.{RoundRefused}
use Rattle.block_device.proofs.OneCall.{no-call}
use Rattle.log_engine.proofs.Effects.{round-fault-noted, round-noted}
use Rattle.log_engine.proofs.FewerCalls.{round-fewer}
use Rattle.log_engine.proofs.KeptClean.{round-clean, round-fault-clean}
use Rattle.log_engine.proofs.Plans.{round-fault-planned, round-planned}
use Rattle.log_engine.proofs.Rounding.{aborted-runs, during-round, each-round, each-round-fault, round-did, round-faults, round-steps}
use Rattle.log_engine.proofs.engine.Engine.checkpoint_step.Goals as goal

pub returns-then-self-clause-err : goal.returns-then-self-clause-err
returns-then-self-clause-err g c =
    rw (← c.self.view_is) (RoundRefused.RoundAborted c.if-self.true refl (record { shape = refl; disk = refl; past = refl }) refl)

-- what holds now holds at the one moment
pub returns-then-self-clause-device : goal.returns-then-self-clause-device
returns-then-self-clause-device g c = rw (← c.self.view_is) (no-call (λ honest. during-round _ _ (c.self.invariant.2 honest)))

pub returns-then-not-begin_round-clause-device : goal.returns-then-not-begin_round-clause-device
returns-then-not-begin_round-clause-device g c = rw (← c.self.view_is) (no-call (λ honest. during-round _ _ (c.self.invariant.2 honest)))

-- a failed call aborts the engine, which can still be asked
pub invariant_of-self-then-is_err : goal.invariant_of-self-then-is_err
invariant_of-self-then-is_err g c =
    let before = g.D.Device.state c.self.inside.device in
    let after = g.D.Device.state c.make_call.new.device in
    let l = c.self.inside.ledger in
    let m = c.begin_round.new.self in
    let e = engine_of before.shape l in
    let begun = c.begin_round.ensures.begun c.if-not-begin_round.false before.shape c.self.invariant.0 in
    let due = c.round_due-due.ensures.due before.shape begun.2 in
    let is : call_of c.round_due-due.result c.bytes.result.now ≡ Some due.call = ap (call_of c.round_due-due.result) c.bytes.ensures ∙ due.is in
    let failed = sym c.is_err.ensures.value ∙ c.if-is_err.true in
    let fault : RoundFaults e before.disk (engine_of after.shape (record m { aborted = true })) after.disk =
    round-faults before.shape after.shape l m _ _ before.disk after.disk c.make_call.ensures.shape c.if-self.false begun.0 begun.1 due
    (at-err c.make_call.result failed (c.make_call.ensures.err due.call is)) in (
      aborted-runs before.shape after.shape m c.make_call.ensures.shape begun.2,
      c.round_due-due.ensures.size ∙ c.self.invariant.1 ∙ sym (ap (λ (s : Shape). s.block_size) c.make_call.ensures.shape),
      λ honest. round-fault-sound e _ before.disk after.disk (c.self.invariant.2 (c.make_call.ensures.honest honest)) fault,
      λ honest. round-fault-clean e _ before.disk after.disk c.self.invariant.0.plain fault,
      round-fault-planned e _ before.disk after.disk c.self.inside.plan fault c.self.invariant.4,
      round-fault-noted e _ before.disk after.disk c.self.inside.effects fault c.self.invariant.5,
    )

pub returns-then-is_err : goal.returns-then-is_err
returns-then-is_err g c =
    let before = g.D.Device.state c.self.inside.device in
    let after = g.D.Device.state c.make_call.new.device in
    let l = c.self.inside.ledger in
    let m = c.begin_round.new.self in
    let e = engine_of before.shape l in
    let begun = c.begin_round.ensures.begun c.if-not-begin_round.false before.shape c.self.invariant.0 in
    let due = c.round_due-due.ensures.due before.shape begun.2 in
    let is : call_of c.round_due-due.result c.bytes.result.now ≡ Some due.call = ap (call_of c.round_due-due.result) c.bytes.ensures ∙ due.is in
    let failed = sym c.is_err.ensures.value ∙ c.if-is_err.true in
    let fault : RoundFaults e before.disk (engine_of after.shape (record m { aborted = true })) after.disk =
    round-faults before.shape after.shape l m _ _ before.disk after.disk c.make_call.ensures.shape c.if-self.false begun.0 begun.1 due
    (at-err c.make_call.result failed (c.make_call.ensures.err due.call is)) in
    rw (← c.self.view_is) (record {
      ok = tt;
      err = RoundRefused.RoundFailed fault (count-err _ _ c.make_call.result failed c.make_call.ensures.faults);
      fewer = tt;
      idle = tt;
      no_fault = tt;
      device = record {
        shape = c.make_call.ensures.shape;
        moments = λ honest. each-round-fault e _ before after c.make_call.ensures.moment (c.self.invariant.2 honest) fault;
        one = c.make_call.ensures.moment;
        calls = c.make_call.ensures.calls;
        honest = c.make_call.ensures.honest;
      };
    })

-- a successful call takes the round one step on
pub invariant_of-self-2 : goal.invariant_of-self-2
invariant_of-self-2 g c =
    let before = g.D.Device.state c.self.inside.device in
    let after = g.D.Device.state c.make_call.new.device in
    let l = c.self.inside.ledger in
    let m = c.begin_round.new.self in
    let n = c.advance_round.new.self in
    let e = engine_of before.shape l in
    let begun = c.begin_round.ensures.begun c.if-not-begin_round.false before.shape c.self.invariant.0 in
    let due = c.round_due-due.ensures.due before.shape begun.2 in
    let is : call_of c.round_due-due.result c.bytes.result.now ≡ Some due.call = ap (call_of c.round_due-due.result) c.bytes.ensures ∙ due.is in
    let worked = sym c.is_err.ensures.value ∙ c.if-is_err.false in
    let gone = c.advance_round.ensures.gone after.shape (subst (λ (s : Shape). Runs s m) (sym c.make_call.ensures.shape) begun.2) in
    let steps : RoundSteps e before.disk (engine_of after.shape n) after.disk =
    round-steps before.shape after.shape l m _ _ before.disk after.disk c.make_call.ensures.shape c.if-self.false begun.0 begun.1 due n begun.2 gone
    (at-ok c.make_call.result worked (c.make_call.ensures.ok due.call is)) in (
      gone.runs,
      c.round_due-due.ensures.size ∙ c.self.invariant.1 ∙ sym (ap (λ (s : Shape). s.block_size) c.make_call.ensures.shape),
      λ honest. round-sound e _ before.disk after.disk (c.self.invariant.2 (c.make_call.ensures.honest honest)) steps,
      λ honest. round-clean e _ before.disk after.disk c.self.invariant.0.plain steps,
      round-planned e _ before.disk after.disk c.self.inside.plan steps c.self.invariant.4,
      round-noted e _ before.disk after.disk c.self.inside.effects steps c.self.invariant.5,
    )

pub returns : goal.returns
returns g c =
    let before = g.D.Device.state c.self.inside.device in
    let after = g.D.Device.state c.make_call.new.device in
    let l = c.self.inside.ledger in
    let m = c.begin_round.new.self in
    let n = c.advance_round.new.self in
    let e = engine_of before.shape l in
    let begun = c.begin_round.ensures.begun c.if-not-begin_round.false before.shape c.self.invariant.0 in
    let due = c.round_due-due.ensures.due before.shape begun.2 in
    let is : call_of c.round_due-due.result c.bytes.result.now ≡ Some due.call = ap (call_of c.round_due-due.result) c.bytes.ensures ∙ due.is in
    let worked = sym c.is_err.ensures.value ∙ c.if-is_err.false in
    let gone = c.advance_round.ensures.gone after.shape (subst (λ (s : Shape). Runs s m) (sym c.make_call.ensures.shape) begun.2) in
    let steps : RoundSteps e before.disk (engine_of after.shape n) after.disk =
    round-steps before.shape after.shape l m _ _ before.disk after.disk c.make_call.ensures.shape c.if-self.false begun.0 begun.1 due n begun.2 gone
    (at-ok c.make_call.result worked (c.make_call.ensures.ok due.call is)) in
    rw (← c.self.view_is) (record {
      ok = round-did c.advance_round.result e _ before.disk after.disk (c.advance_round.ensures.progress after.shape) steps;
      err = tt;
      fewer = round-fewer c.advance_round.result e _ before.disk after.disk c.self.invariant.0.plain (round-did c.advance_round.result e _ before.disk after.disk (c.advance_round.ensures.progress after.shape) steps);
      idle = λ is. absurd (subst (λ (p : Progress). IsRoundProgress p (engine_of after.shape n)) is (c.advance_round.ensures.progress after.shape));
      no_fault = count-ok _ _ c.make_call.result worked c.make_call.ensures.faults;
      device = record {
        shape = c.make_call.ensures.shape;
        moments = λ honest. each-round e _ before after c.make_call.ensures.moment (c.self.invariant.2 honest) steps;
        one = c.make_call.ensures.moment;
        calls = c.make_call.ensures.calls;
        honest = c.make_call.ensures.honest;
      };
    })
