use Rattle.script_sweep.specs.Steps.Steps.{NoStep, OneMore}
use Rattle.script_sweep.proofs.judging.Ran.sweep_stop.Goals as goal

pub loop-bits-init : goal.loop-bits-init
loop-bits-init g c = NoStep c.args.counts.now

-- one more choice was swept
pub loop-bits-preserved : goal.loop-bits-preserved
loop-bits-preserved g c = OneMore c.loop-bits.bits c.args.counts.now c.loop-bits.counts c.sweep_choice.new.counts c.loop-bits.invariant c.in_ok-sweep_choice.ensures
