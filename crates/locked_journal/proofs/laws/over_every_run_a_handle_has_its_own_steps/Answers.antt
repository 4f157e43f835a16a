use Rattle.locked_journal.proofs.Running.{made-all}
use Rattle.locked_journal.proofs.laws.over_every_run_a_handle_has_its_own_steps.Goals as goal

pub returns : goal.returns
returns c = made-all
