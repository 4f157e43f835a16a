use Rattle.std.proofs.Common.{ap, subst, sym, ◌∙◌}
use Rattle.std.specs.Prelude.{Option}
use Rattle.journal_model.specs.declared.refusal.JournalError.{JournalError}
use Rattle.journal_steps.specs.declared.turn.Turn.{Turn}
use Rattle.journal_steps.specs.Journal.{SealDid, TurnRefused}
use Rattle.log_engine.specs.Engine.{EngineValue}
use Rattle.journal_steps.specs.Values.{JournalValue, together}
use Rattle.locked_journal.proofs.Landing.{mid-legal, if-err, if-ok, lands, mid-is}
use Rattle.locked_journal.proofs.Legal.{seal-legal}
use Rattle.locked_journal.proofs.both.seal.Goals as goal

-- Front and engine are reconciled again.
pub invariant_of-front : goal.invariant_of-front
invariant_of-front g c =
    lands g.D.Device.honest c.seal_due-turn.new.front c.seal_due-turn.new.engine c.see.new.self c.see.ensures.seen c.seal_due-turn.ensures.agrees
    (seal-legal g.D.Device.state g.D.Device.honest (together c.front.inside.front c.engine.inside.engine) (together c.seal_due-turn.new.front c.seal_due-turn.new.engine)
    (λ honest. subst g.D.Device.honest c.seal_due-turn.ensures.device honest)
    (mid-legal c.front.inside.front c.front.inside.engine c.engine.inside.engine c.args.engine.now c.reconcile.new.front
    c.front.view_is c.reconcile.ensures.reconciled.engine_is (c.engine.view_is ∙ c.reconcile.ensures.engine) g.D.Device.honest c.front.invariant.1)
    c.seal_due-turn.result c.seal_due-turn.ensures.ok c.seal_due-turn.ensures.err)

pub returns-clause-ok : goal.returns-clause-ok
returns-clause-ok g c =
    let state = g.D.Device.state in
    let mid = mid-is c.front.inside.front c.front.inside.engine c.engine.inside.engine c.args.engine.now c.reconcile.new.front
    c.front.view_is c.reconcile.ensures.reconciled.engine_is (c.engine.view_is ∙ c.reconcile.ensures.engine) in
    let last = ap (λ (v : EngineValue g.row.D.Denot). together c.seal_due-turn.new.front v) (sym c.see.ensures.seen) in
    if-ok state c.args.front.now c.args.engine.now _ c.reconcile.new.front _ _ mid last c.reconcile.ensures.reconciled
    (λ (turn : Option Turn) (old new : JournalValue g.row.D.Denot). SealDid state turn old new) c.seal_due-turn.result c.seal_due-turn.ensures.ok

pub returns-clause-err : goal.returns-clause-err
returns-clause-err g c =
    let state = g.D.Device.state in
    let mid = mid-is c.front.inside.front c.front.inside.engine c.engine.inside.engine c.args.engine.now c.reconcile.new.front
    c.front.view_is c.reconcile.ensures.reconciled.engine_is (c.engine.view_is ∙ c.reconcile.ensures.engine) in
    let last = ap (λ (v : EngineValue g.row.D.Denot). together c.seal_due-turn.new.front v) (sym c.see.ensures.seen) in
    if-err state c.args.front.now c.args.engine.now _ c.reconcile.new.front _ _ mid last c.reconcile.ensures.reconciled
    (λ (e : JournalError) (old new : JournalValue g.row.D.Denot). TurnRefused state old new e) c.seal_due-turn.result c.seal_due-turn.ensures.err

-- Reads so far are those before the reconciliation.
pub returns-clause-before : goal.returns-clause-before
returns-clause-before g c = c.reconcile.ensures.before
