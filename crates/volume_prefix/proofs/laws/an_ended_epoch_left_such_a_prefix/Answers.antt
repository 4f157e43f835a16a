use Rattle.volume_prefix.proofs.Ended.{ended-prefix}
use Rattle.volume_prefix.proofs.laws.an_ended_epoch_left_such_a_prefix.Goals as goal

pub returns : goal.returns
returns c = λ start end moves place x told image changes run one other work leaves.
    ended-prefix start end moves run.leads place x told image changes run.begins run.single one other work leaves
