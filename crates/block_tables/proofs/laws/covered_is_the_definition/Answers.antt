use Rattle.block_tables.proofs.Noting.{revokes-cover}
use Rattle.block_tables.proofs.laws.covered_is_the_definition.Goals as goal

pub returns : goal.returns
returns c = revokes-cover
