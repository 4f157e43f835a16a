use Rattle.volume_prefix.proofs.Recording.{run-told}
use Rattle.volume_prefix.proofs.laws.the_record_has_the_steps_of_the_run.Goals as goal

pub returns : goal.returns
returns c = run-told
