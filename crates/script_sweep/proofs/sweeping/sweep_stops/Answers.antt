use Rattle.std.proofs.Common.{arith, ℕ, ◌≡◌, ◌+◌, subst}
use Rattle.script_sweep.specs.Steps.{Steps}
use Rattle.script_sweep.specs.Steps.Steps.{NoStep, OneMore}
use Rattle.script_sweep.specs.Sweeping.{SweepsStop}
use Rattle.script_sweep.proofs.sweeping.sweep_stops.Goals as goal

pub loop-before-init : goal.loop-before-init
loop-before-init g c = NoStep c.args.counts.now

-- one more stop was swept
pub loop-before-preserved : goal.loop-before-preserved
loop-before-preserved g c =
    OneMore c.loop-before.before c.args.counts.now c.loop-before.counts c.sweep_stop.new.counts c.loop-before.invariant
    (record { stopped = c.in_ok-stopped.stopped; run = c.in_ok-stopped.ensures; choices = c.in_ok-sweep_stop.ensures })

pub returns : goal.returns
returns g c =
    let end : c.loop-before.before ≡ c.args.counts.now.writes = omega (arith, c.loop-before-test.false, c.loop-before.auto.before-end) in
    subst (λ (n : ℕ). Steps (λ i. SweepsStop g.J.Swept.keeps c.args.script.now c.args.named.now (i + 1)) n c.args.counts.now c.loop-before.counts) end c.loop-before.invariant
