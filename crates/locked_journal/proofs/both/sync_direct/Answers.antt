use Rattle.std.proofs.Common.{ap, sym, ◌∙◌}
use Rattle.log_engine.specs.Engine.{EngineValue}
use Rattle.journal_steps.specs.Values.{JournalValue, together}
use Rattle.journal_steps.specs.Verbs.{SyncsDirectly}
use Rattle.journal_steps.proofs.LegalSteps.{direct_sync-legal}
use Rattle.locked_journal.proofs.Landing.{lands, made, mid-is, mid-legal}
use Rattle.locked_journal.proofs.both.sync_direct.Goals as goal

-- Front and engine are reconciled again.
pub invariant_of-front : goal.invariant_of-front
invariant_of-front g c =
    lands g.D.Device.honest c.sync_direct-answer.new.front c.sync_direct-answer.new.engine c.see.new.self c.see.ensures.seen c.sync_direct-answer.ensures.agrees
    (direct_sync-legal g.D.Device.state g.D.Device.honest (together c.front.inside.front c.engine.inside.engine) (together c.sync_direct-answer.new.front c.sync_direct-answer.new.engine)
    c.sync_direct-answer.ensures.syncs.device.honest
    (mid-legal c.front.inside.front c.front.inside.engine c.engine.inside.engine c.args.engine.now c.reconcile.new.front
    c.front.view_is c.reconcile.ensures.reconciled.engine_is (c.engine.view_is ∙ c.reconcile.ensures.engine) g.D.Device.honest c.front.invariant.1)
    c.sync_direct-answer.result c.sync_direct-answer.ensures.syncs.ok c.sync_direct-answer.ensures.syncs.err)

pub returns-clause-syncs : goal.returns-clause-syncs
returns-clause-syncs g c =
    let state = g.D.Device.state in
    let honest = g.D.Device.honest in
    let mid = mid-is c.front.inside.front c.front.inside.engine c.engine.inside.engine c.args.engine.now c.reconcile.new.front
    c.front.view_is c.reconcile.ensures.reconciled.engine_is (c.engine.view_is ∙ c.reconcile.ensures.engine) in
    let last = ap (λ (v : EngineValue g.row.D.Denot). together c.sync_direct-answer.new.front v) (sym c.see.ensures.seen) in
    made state c.args.front.now c.args.engine.now _ c.reconcile.new.front _ _ mid last c.reconcile.ensures.reconciled
    (λ (old new : JournalValue g.row.D.Denot). SyncsDirectly state honest old new c.sync_direct-answer.result) c.sync_direct-answer.ensures.syncs

-- Reads so far are those before the reconciliation.
pub returns-clause-before : goal.returns-clause-before
returns-clause-before g c = c.reconcile.ensures.before
