use Rattle.locked_journal.proofs.Confirming.{confirms}
use Rattle.locked_journal.proofs.laws.the_record_confirms_a_receipt.Goals as goal

pub returns : goal.returns
returns c = confirms
