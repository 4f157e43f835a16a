use Rattle.locked_journal.specs.Own.{open_own}
use Rattle.locked_journal.proofs.Becoming.{is_open}
use Rattle.locked_journal.proofs.Standing.{running-now}
use Rattle.locked_journal.proofs.laws.a_handle_that_has_not_stopped_is_open.Goals as goal

pub returns-clause-open_handle : goal.returns-clause-open_handle
returns-clause-open_handle c = is_open

pub returns-clause-steps : goal.returns-clause-steps
returns-clause-steps c = λ f h steps is. (running-now f (open_own h steps) is.stage is.stands).steps
