use Rattle.recovery.proofs.Choosing.{home-chosen}
use Rattle.recovery.proofs.laws.the_tables_choose_what_goes_home.Goals as goal

pub returns : goal.returns
returns c = home-chosen
