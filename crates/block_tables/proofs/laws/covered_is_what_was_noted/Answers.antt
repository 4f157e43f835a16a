use Rattle.block_tables.proofs.Noting.{noted-cover}
use Rattle.block_tables.proofs.laws.covered_is_what_was_noted.Goals as goal

pub returns : goal.returns
returns c = noted-cover
