use Rattle.log_epochs.proofs.Journals.{journal-promise}
use Rattle.log_epochs.proofs.Lives.{life-promise}
use Rattle.log_epochs.proofs.laws.every_journal_keeps_the_promise.Goals as goal

pub returns : goal.returns
returns c = journal-promise life-promise
