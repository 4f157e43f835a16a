use Rattle.locked_journal.proofs.Becoming.{joins}
use Rattle.locked_journal.proofs.laws.a_handle_that_joins_has_no_steps.Goals as goal

pub returns : goal.returns
returns c = joins
