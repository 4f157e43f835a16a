use Rattle.log_model.proofs.Newest.{replayed-same}
use Rattle.log_model.proofs.replay_laws.replay_is_determined.Goals as goal

pub returns : goal.returns
returns c = replayed-same
