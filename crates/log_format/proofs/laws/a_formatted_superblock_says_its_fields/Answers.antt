use Rattle.log_format.proofs.Formatted.{formatted_says}
use Rattle.log_format.proofs.laws.a_formatted_superblock_says_its_fields.Goals as goal

pub returns : goal.returns
returns c = formatted_says
