use Rattle.volume_prefix.proofs.Crashes.{crash-prefix}
use Rattle.volume_prefix.proofs.laws.a_crash_leaves_a_prefix_of_the_changes.Goals as goal

pub returns : goal.returns
returns c = λ start end moves epoch image changes run now work leaves.
    crash-prefix start end moves run.leads epoch image changes run.begins run.single now work leaves
