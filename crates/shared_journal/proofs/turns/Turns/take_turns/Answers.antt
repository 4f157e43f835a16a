use Rattle.shared_journal.proofs.LeadRefusals.{turn_ends}
use Rattle.shared_journal.proofs.turns.Turns.take_turns.Goals as goal

-- A turn was refused, and not for want of room.
pub returns-in_default : goal.returns-in_default
returns-in_default g c = record { ok = tt; err = turn_ends g.D.Device.state c.in-Err.e c.in-Err.ensures.why c.in-Err.ensures.known c.in_default.not-NeedSpace }
