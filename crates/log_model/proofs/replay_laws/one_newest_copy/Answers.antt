use Rattle.log_model.proofs.Newest.{newest-same}
use Rattle.log_model.proofs.replay_laws.one_newest_copy.Goals as goal

pub returns : goal.returns
returns c = newest-same
