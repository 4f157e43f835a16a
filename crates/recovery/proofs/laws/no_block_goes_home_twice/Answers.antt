use Rattle.recovery.proofs.NewestHome.{home-once}
use Rattle.recovery.proofs.laws.no_block_goes_home_twice.Goals as goal

pub returns : goal.returns
returns c = home-once
