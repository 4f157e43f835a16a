use Rattle.log_epochs.proofs.Synced.{synced-stays}
use Rattle.log_epochs.proofs.laws.a_synced_direct_write_stays.Goals as goal

pub returns : goal.returns
returns c = synced-stays
