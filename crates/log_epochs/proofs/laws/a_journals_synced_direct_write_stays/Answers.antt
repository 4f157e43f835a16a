use Rattle.log_epochs.proofs.JournalSynced.{journal-stays}
use Rattle.log_epochs.proofs.laws.a_journals_synced_direct_write_stays.Goals as goal

pub returns : goal.returns
returns c = journal-stays
