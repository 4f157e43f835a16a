use Rattle.shared_journal.proofs.LeadRefusals.{lock_ends}
use Rattle.shared_journal.proofs.turns.Turns.lock_group.Goals as goal

-- The lock was refused.
pub returns-in-Err : goal.returns-in-Err
returns-in-Err g c = record { err = lock_ends c.in-Err.e c.in-Err.ensures.err c.in-Err.ensures.why }
