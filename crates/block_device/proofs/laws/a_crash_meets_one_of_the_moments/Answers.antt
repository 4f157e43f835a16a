use Rattle.block_device.proofs.Moments.{crash_meets}
use Rattle.block_device.proofs.laws.a_crash_meets_one_of_the_moments.Goals as goal

pub returns : goal.returns
returns c = crash_meets
