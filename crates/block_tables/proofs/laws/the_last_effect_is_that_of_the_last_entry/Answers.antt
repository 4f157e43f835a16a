use Rattle.block_tables.proofs.Lasts.{none-entered, some-last}
use Rattle.block_tables.proofs.laws.the_last_effect_is_that_of_the_last_entry.Goals as goal

pub returns-clause-none : goal.returns-clause-none
returns-clause-none c = none-entered

pub returns-clause-some : goal.returns-clause-some
returns-clause-some c = some-last
