use Rattle.volume_prefix.proofs.Cuts.{kept-whole}
use Rattle.volume_prefix.proofs.laws.changes_of_one_handle_are_kept_whole.Goals as goal

pub returns : goal.returns
returns c = kept-whole
