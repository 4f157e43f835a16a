use Rattle.log_epochs.proofs.Moments.{moment-keeps}
use Rattle.log_epochs.proofs.laws.every_moment_of_an_opening_keeps_n.Goals as goal

pub returns : goal.returns
returns c = moment-keeps
