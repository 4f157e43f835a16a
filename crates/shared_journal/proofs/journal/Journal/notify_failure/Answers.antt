use Rattle.shared_journal.proofs.TurnMoments.{known_then}
use Rattle.shared_journal.proofs.journal.Journal.notify_failure.Goals as goal

-- The front knew it after the last reconciliation.
pub returns-then-failed : goal.returns-then-failed
returns-then-failed g c = known_then _ _ c.reconcile-failed.ensures c.if-failed.true
