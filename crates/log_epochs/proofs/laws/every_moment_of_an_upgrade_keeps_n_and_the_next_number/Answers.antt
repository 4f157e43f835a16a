use Rattle.log_epochs.proofs.UpgradeMoments.{upgrade-moment-keeps}
use Rattle.log_epochs.proofs.laws.every_moment_of_an_upgrade_keeps_n_and_the_next_number.Goals as goal

pub returns : goal.returns
returns c = upgrade-moment-keeps
