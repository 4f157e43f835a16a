use Rattle.log_format.proofs.Formatted.{formatted_accepted}
use Rattle.log_format.proofs.laws.a_formatted_superblock_is_accepted.Goals as goal

pub returns : goal.returns
returns c = formatted_accepted
