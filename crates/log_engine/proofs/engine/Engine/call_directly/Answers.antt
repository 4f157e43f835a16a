use Rattle.std.proofs.Common.{sym, ap, subst, ◌∙◌, ◌≡◌, true, false}
use Rattle.std.proofs.lemmas.Option.{same_Some}
use Rattle.journal_model.specs.Disk.{Shape}
use Rattle.journal_world.specs.Call.{Call}
use Rattle.journal_world.specs.Direct.{DirectCall, DirectFaults, DirectSteps}
use Rattle.journal_world.proofs.DirectCalls.{direct-fault-sound, direct-sound}
use Rattle.log_ledger.specs.Ledger.{Runs, engine_of}
use Rattle.log_ledger.proofs.Outcomes.{at-err, at-ok}
use Rattle.log_engine.specs.Engine.{EngineValue}
use Rattle.log_engine.proofs.Directs.{direct-faults-here, directs-here}
use Rattle.log_engine.proofs.KeptClean.{direct-clean, direct-fault-clean}
use Rattle.log_engine.proofs.Rounding.{aborted-runs}
use Rattle.log_engine.proofs.engine.Engine.call_directly.Goals as goal

-- a failed call aborts the engine, which can still be asked
pub invariant_of-self : goal.invariant_of-self
invariant_of-self g c =
    let before = g.D.Device.state c.self.inside.device in
    let after = g.D.Device.state c.make_call.new.device in
    let l = c.self.inside.ledger in
    let e = engine_of before.shape l in
    let call = c.requires.direct.0 in
    let running = subst (λ (v : EngineValue g.row.D.Denot). v.engine.aborted ≡ false) (sym c.self.view_is) c.requires.running in
    let due = subst (λ (v : EngineValue g.row.D.Denot). DirectCall v.engine call) (sym c.self.view_is) c.requires.direct.2 in
    let failed = sym c.is_err.ensures.value ∙ c.if-is_err.true in
    let fault : DirectFaults e before.disk call (engine_of after.shape (record l { aborted = true })) after.disk =
    direct-faults-here e after.shape call before.disk after.disk c.make_call.ensures.shape running due
    (at-err c.make_call.result failed (c.make_call.ensures.err call c.requires.direct.1)) in (
      aborted-runs before.shape after.shape l c.make_call.ensures.shape c.self.invariant.0,
      c.self.invariant.1 ∙ sym (ap (λ (s : Shape). s.block_size) c.make_call.ensures.shape),
      λ honest. direct-fault-sound e _ before.disk after.disk call (c.self.invariant.2 (c.make_call.ensures.honest honest)) fault,
      λ honest. direct-fault-clean e _ before.disk after.disk call fault (c.self.invariant.3 (c.make_call.ensures.honest honest)),
      c.self.invariant.4,
      c.self.invariant.5,
    )

pub returns-then-is_err-clause-err : goal.returns-then-is_err-clause-err
returns-then-is_err-clause-err g c = λ other named.
    let before = g.D.Device.state c.self.inside.device in
    let after = g.D.Device.state c.make_call.new.device in
    let l = c.self.inside.ledger in
    let e = engine_of before.shape l in
    let call = c.requires.direct.0 in
    let running = subst (λ (v : EngineValue g.row.D.Denot). v.engine.aborted ≡ false) (sym c.self.view_is) c.requires.running in
    let due = subst (λ (v : EngineValue g.row.D.Denot). DirectCall v.engine call) (sym c.self.view_is) c.requires.direct.2 in
    let failed = sym c.is_err.ensures.value ∙ c.if-is_err.true in
    let fault : DirectFaults e before.disk call (engine_of after.shape (record l { aborted = true })) after.disk =
    direct-faults-here e after.shape call before.disk after.disk c.make_call.ensures.shape running due
    (at-err c.make_call.result failed (c.make_call.ensures.err call c.requires.direct.1)) in
    rw (← c.self.view_is)
    (subst (λ (x : Call). DirectFaults e before.disk x (engine_of after.shape (record l { aborted = true })) after.disk)
    (same_Some call other (sym c.requires.direct.1 ∙ named)) fault)

pub returns-then-is_err-clause-one : goal.returns-then-is_err-clause-one
returns-then-is_err-clause-one g c = rw (← c.self.view_is) c.make_call.ensures.moment

-- a successful call leaves the engine
pub invariant_of-self-else-is_err : goal.invariant_of-self-else-is_err
invariant_of-self-else-is_err g c =
    let before = g.D.Device.state c.self.inside.device in
    let after = g.D.Device.state c.make_call.new.device in
    let l = c.self.inside.ledger in
    let e = engine_of before.shape l in
    let call = c.requires.direct.0 in
    let running = subst (λ (v : EngineValue g.row.D.Denot). v.engine.aborted ≡ false) (sym c.self.view_is) c.requires.running in
    let due = subst (λ (v : EngineValue g.row.D.Denot). DirectCall v.engine call) (sym c.self.view_is) c.requires.direct.2 in
    let worked = sym c.is_err.ensures.value ∙ c.if-is_err.false in
    let step : DirectSteps e before.disk call (engine_of after.shape l) after.disk =
    directs-here e after.shape call before.disk after.disk c.make_call.ensures.shape running due
    (at-ok c.make_call.result worked (c.make_call.ensures.ok call c.requires.direct.1)) in (
      subst (λ (s : Shape). Runs s l) (sym c.make_call.ensures.shape) c.self.invariant.0,
      c.self.invariant.1 ∙ sym (ap (λ (s : Shape). s.block_size) c.make_call.ensures.shape),
      λ honest. direct-sound e _ before.disk after.disk call (c.self.invariant.2 (c.make_call.ensures.honest honest)) step,
      λ honest. direct-clean e _ before.disk after.disk call step (c.self.invariant.3 (c.make_call.ensures.honest honest)),
      c.self.invariant.4,
      c.self.invariant.5,
    )

pub returns-clause-ok : goal.returns-clause-ok
returns-clause-ok g c = λ other named.
    let before = g.D.Device.state c.self.inside.device in
    let after = g.D.Device.state c.make_call.new.device in
    let l = c.self.inside.ledger in
    let e = engine_of before.shape l in
    let call = c.requires.direct.0 in
    let running = subst (λ (v : EngineValue g.row.D.Denot). v.engine.aborted ≡ false) (sym c.self.view_is) c.requires.running in
    let due = subst (λ (v : EngineValue g.row.D.Denot). DirectCall v.engine call) (sym c.self.view_is) c.requires.direct.2 in
    let worked = sym c.is_err.ensures.value ∙ c.if-is_err.false in
    let step : DirectSteps e before.disk call (engine_of after.shape l) after.disk =
    directs-here e after.shape call before.disk after.disk c.make_call.ensures.shape running due
    (at-ok c.make_call.result worked (c.make_call.ensures.ok call c.requires.direct.1)) in
    rw (← c.self.view_is)
    (subst (λ (x : Call). DirectSteps e before.disk x (engine_of after.shape l) after.disk) (same_Some call other (sym c.requires.direct.1 ∙ named)) step)

pub returns-clause-one : goal.returns-clause-one
returns-clause-one g c = rw (← c.self.view_is) c.make_call.ensures.moment
