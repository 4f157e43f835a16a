use Rattle.shared_journal.proofs.LeadRefusals.{failed}
use Rattle.shared_journal.proofs.turns.Turns.commit_joined.Goals as goal

-- It led in vain, and not for want of memory.
pub returns-in_default : goal.returns-in_default
returns-in_default g c = record { ok = tt; err = failed c.in-Err.e c.in-Err.ensures.err c.in_default.not-Memory }
