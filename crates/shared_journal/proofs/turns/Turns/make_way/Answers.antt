use Rattle.std.proofs.Common.{refl}
use Rattle.shared_journal.proofs.LeadRefusals.{lacked}
use Rattle.shared_journal.proofs.turns.Turns.make_way.Goals as goal

-- The seal lacked memory.
pub returns-in-Err-Memory : goal.returns-in-Err-Memory
returns-in-Err-Memory g c = record { err = (lacked c.in-Err-Memory.field-0 c.in-Err-Memory.ensures.err c.in-Err-Memory.field-0-is, refl) }
