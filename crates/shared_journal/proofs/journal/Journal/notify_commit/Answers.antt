use Rattle.std.proofs.Common.{arith}
use Rattle.shared_journal.proofs.TurnMoments.{acknowledged_then}
use Rattle.shared_journal.proofs.journal.Journal.notify_commit.Goals as goal

-- The last reconciliation acknowledged it.
pub returns-then-tid-mark : goal.returns-then-tid-mark
returns-then-tid-mark g c =
    acknowledged_then c.reconcile-mark.result.0 c.reconcile-mark.result.1 c.reconcile-mark.ensures c.args.tid (omega (arith, c.tid.view_is, c.mark.view_is, c.if-tid-mark.true))
