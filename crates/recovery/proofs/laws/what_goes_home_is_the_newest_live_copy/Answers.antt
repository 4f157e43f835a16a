use Rattle.recovery.proofs.NewestHome.{home-copies-newest, newest-home}
use Rattle.recovery.proofs.laws.what_goes_home_is_the_newest_live_copy.Goals as goal

pub returns : goal.returns
returns c = λ texts b bytes. (home-copies-newest texts b bytes, newest-home texts b bytes)
