use Rattle.script_sweep.specs.Steps.Steps.{NoStep, OneMore}
use Rattle.script_sweep.proofs.judging.Ran.judge_failure.Goals as goal

pub loop-bits-init : goal.loop-bits-init
loop-bits-init g c = NoStep c.args.not_right.now

-- one more choice was judged
pub loop-bits-preserved : goal.loop-bits-preserved
loop-bits-preserved g c = OneMore c.loop-bits.bits c.args.not_right.now c.loop-bits.not_right c.judge_choice.new.not_right c.loop-bits.invariant c.in_ok-judge_choice.ensures
