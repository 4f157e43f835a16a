use Rattle.log_epochs.proofs.Whole.{reached-opening}
use Rattle.log_epochs.proofs.laws.a_done_opening_is_whole.Goals as goal

pub returns : goal.returns
returns c = reached-opening
