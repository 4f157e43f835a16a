use Rattle.log_format.proofs.Written.{copies_described}
use Rattle.log_format.proofs.laws.a_written_descriptor_is_one.Goals as goal

pub returns : goal.returns
returns c = copies_described
