use Rattle.std.proofs.Common.{subst, sym, ◌∙◌}
use Rattle.journal_steps.specs.Legal.{KeepsLegal}
use Rattle.journal_steps.specs.Values.{JournalValue}
use Rattle.locked_journal.proofs.Landing.{mid-legal}
use Rattle.locked_journal.proofs.both.into_single.Goals as goal

-- The record is legal if device reads were correct.
pub of-requires-clause-legal : goal.of-requires-clause-legal
of-requires-clause-legal g c =
    let sides = c.into_sides-front.ensures.sides in
    mid-legal c.into_sides-front.result.0 c.into_sides-front.result.1 c.engine.inside.engine c.args.engine c.reconcile.new.front sides
    c.reconcile.ensures.reconciled.engine_is (c.engine.view_is ∙ c.reconcile.ensures.engine) g.D.Device.honest
    (subst (λ (v : JournalValue g.row.D.Denot). KeepsLegal g.D.Device.honest v) (sym sides) c.into_sides-front.ensures.legal)

-- Reads so far are those before the reconciliation.
pub returns-clause-before : goal.returns-clause-before
returns-clause-before g c = rw (← c.front.view_is) c.reconcile.ensures.before
