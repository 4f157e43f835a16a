use Rattle.std.proofs.Common.{ap, sym, ◌∙◌}
use Rattle.log_engine.specs.Engine.{EngineValue}
use Rattle.journal_steps.specs.Values.{JournalValue, together}
use Rattle.journal_steps.specs.Verbs.{WritesDirectly}
use Rattle.journal_steps.proofs.LegalSteps.{direct_write-legal}
use Rattle.locked_journal.proofs.Landing.{block-size, lands, made, mid-is, mid-legal}
use Rattle.locked_journal.proofs.both.write_direct.Goals as goal

-- Front and engine are reconciled again.
pub invariant_of-front : goal.invariant_of-front
invariant_of-front g c =
    lands g.D.Device.honest c.write_direct-answer.new.front c.write_direct-answer.new.engine c.see.new.self c.see.ensures.seen c.write_direct-answer.ensures.agrees
    (direct_write-legal g.D.Device.state g.D.Device.honest (together c.front.inside.front c.engine.inside.engine) (together c.write_direct-answer.new.front c.write_direct-answer.new.engine)
    c.write_direct-answer.ensures.writes.device.honest
    (mid-legal c.front.inside.front c.front.inside.engine c.engine.inside.engine c.args.engine.now c.reconcile.new.front
    c.front.view_is c.reconcile.ensures.reconciled.engine_is (c.engine.view_is ∙ c.reconcile.ensures.engine) g.D.Device.honest c.front.invariant.1)
    c.write_direct-answer.result c.args.block c.args.bytes.now c.write_direct-answer.ensures.writes.ok c.write_direct-answer.ensures.writes.err)

pub returns-clause-writes : goal.returns-clause-writes
returns-clause-writes g c =
    let state = g.D.Device.state in
    let honest = g.D.Device.honest in
    let mid = mid-is c.front.inside.front c.front.inside.engine c.engine.inside.engine c.args.engine.now c.reconcile.new.front
    c.front.view_is c.reconcile.ensures.reconciled.engine_is (c.engine.view_is ∙ c.reconcile.ensures.engine) in
    let last = ap (λ (v : EngineValue g.row.D.Denot). together c.write_direct-answer.new.front v) (sym c.see.ensures.seen) in
    made state c.args.front.now c.args.engine.now _ c.reconcile.new.front _ _ mid last c.reconcile.ensures.reconciled
    (λ (old new : JournalValue g.row.D.Denot). WritesDirectly state honest old c.args.block c.args.bytes.now new c.write_direct-answer.result) c.write_direct-answer.ensures.writes

-- The front knows the block size.
pub write_direct-answer-requires-clause-length : goal.write_direct-answer-requires-clause-length
write_direct-answer-requires-clause-length g c =
    c.requires ∙ block-size g.D.Device.state c.args.front.now c.engine.inside.engine c.args.engine.now c.reconcile.new.front c.reconcile.ensures.reconciled
    (c.engine.view_is ∙ c.reconcile.ensures.engine)

-- Reads so far are those before the reconciliation.
pub returns-clause-before : goal.returns-clause-before
returns-clause-before g c = c.reconcile.ensures.before
