use Rattle.log_epochs.proofs.Moments.{can-open}
use Rattle.log_epochs.proofs.laws.what_opens_is_found_good.Goals as goal

pub returns : goal.returns
returns c = can-open
