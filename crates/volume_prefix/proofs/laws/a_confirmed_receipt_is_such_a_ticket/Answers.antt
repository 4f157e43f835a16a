use Rattle.volume_prefix.proofs.Receipts.{confirmed-known}
use Rattle.volume_prefix.proofs.laws.a_confirmed_receipt_is_such_a_ticket.Goals as goal

pub returns : goal.returns
returns c = confirmed-known
