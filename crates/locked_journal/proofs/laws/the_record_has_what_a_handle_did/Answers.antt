use Rattle.locked_journal.proofs.Running.{from-join}
use Rattle.locked_journal.proofs.laws.the_record_has_what_a_handle_did.Goals as goal

pub returns : goal.returns
returns c = from-join
