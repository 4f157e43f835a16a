use Rattle.locked_journal.proofs.Keeping.{others-know}
use Rattle.locked_journal.proofs.laws.a_step_leaves_the_others_what_they_know.Goals as goal

pub returns : goal.returns
returns c = others-know
