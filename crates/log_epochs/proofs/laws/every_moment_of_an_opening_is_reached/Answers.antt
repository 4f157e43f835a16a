use Rattle.log_epochs.proofs.OpeningMoments.{moment-comes}
use Rattle.log_epochs.proofs.laws.every_moment_of_an_opening_is_reached.Goals as goal

pub returns : goal.returns
returns c = λ w disk shut moment. moment-comes w shut disk moment
