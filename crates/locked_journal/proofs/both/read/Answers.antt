use Rattle.std.proofs.Common.{ap, sym, ◌∙◌}
use Rattle.log_engine.specs.Engine.{EngineValue}
use Rattle.journal_steps.specs.Values.{JournalValue, together}
use Rattle.journal_steps.specs.Verbs.{LeftByRead, Reads}
use Rattle.locked_journal.proofs.Landing.{block-size, lands, made, mid-is, mid-legal}
use Rattle.locked_journal.proofs.both.read.Goals as goal

-- Front and engine are reconciled again.
pub invariant_of-front : goal.invariant_of-front
invariant_of-front g c =
    lands g.D.Device.honest c.read-answer.new.front c.read-answer.new.engine c.see.new.self c.see.ensures.seen c.read-answer.ensures.agrees
    (c.read-answer.ensures.left.legal
    (mid-legal c.front.inside.front c.front.inside.engine c.engine.inside.engine c.args.engine.now c.reconcile.new.front
    c.front.view_is c.reconcile.ensures.reconciled.engine_is (c.engine.view_is ∙ c.reconcile.ensures.engine) g.D.Device.honest c.front.invariant.1))

pub returns-clause-reads : goal.returns-clause-reads
returns-clause-reads g c =
    let state = g.D.Device.state in
    let honest = g.D.Device.honest in
    let mid = mid-is c.front.inside.front c.front.inside.engine c.engine.inside.engine c.args.engine.now c.reconcile.new.front
    c.front.view_is c.reconcile.ensures.reconciled.engine_is (c.engine.view_is ∙ c.reconcile.ensures.engine) in
    let last = ap (λ (v : EngineValue g.row.D.Denot). together c.read-answer.new.front v) (sym c.see.ensures.seen) in
    made state c.args.front.now c.args.engine.now _ c.reconcile.new.front _ _ mid last c.reconcile.ensures.reconciled
    (λ (old new : JournalValue g.row.D.Denot). Reads state honest old c.args.handle.now c.args.block c.args.into.now c.read-answer.new.into new c.read-answer.result
    × LeftByRead state honest old new c.read-answer.result) (c.read-answer.ensures.reads, c.read-answer.ensures.left)

-- The front knows the block size.
pub read-answer-requires-clause-length : goal.read-answer-requires-clause-length
read-answer-requires-clause-length g c =
    c.requires ∙ block-size g.D.Device.state c.args.front.now c.engine.inside.engine c.args.engine.now c.reconcile.new.front c.reconcile.ensures.reconciled
    (c.engine.view_is ∙ c.reconcile.ensures.engine)

-- Reads so far are those before the reconciliation.
pub returns-clause-before : goal.returns-clause-before
returns-clause-before g c = c.reconcile.ensures.before
