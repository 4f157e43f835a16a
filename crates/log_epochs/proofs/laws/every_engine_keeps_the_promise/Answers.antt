use Rattle.log_epochs.proofs.Lives.{life-promise}
use Rattle.log_epochs.proofs.laws.every_engine_keeps_the_promise.Goals as goal

pub returns : goal.returns
returns c = life-promise
