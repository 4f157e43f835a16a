use Rattle.journal_model.proofs.Effects.{entries-push_read, entries-push_known, entries-push_new}
use Rattle.journal_model.proofs.transaction_laws.a_step_keeps_the_order_of_entries.Goals as goal

pub returns-clause-read : goal.returns-clause-read
returns-clause-read c = entries-push_read

pub returns-clause-changed : goal.returns-clause-changed
returns-clause-changed c = entries-push_known

pub returns-clause-added : goal.returns-clause-added
returns-clause-added c = entries-push_new
