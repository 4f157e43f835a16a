use Rattle.block_tables.proofs.Placing.{home-newest, home-none}
use Rattle.block_tables.proofs.laws.what_goes_home_is_the_newest_live_copy.Goals as goal

pub returns-clause-newest : goal.returns-clause-newest
returns-clause-newest c = home-newest

pub returns-clause-none : goal.returns-clause-none
returns-clause-none c = home-none
