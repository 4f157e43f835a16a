use Rattle.journal_world.proofs.DirectRights.{left-or_right}
use Rattle.journal_world.proofs.laws.left_to_home_is_the_right_to_write.Goals as goal

pub returns : goal.returns
returns c = left-or_right
