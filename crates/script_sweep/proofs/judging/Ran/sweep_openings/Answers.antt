use Rattle.std.proofs.Common.{arith, ℕ, ◌≡◌, ◌+◌, subst}
use Rattle.script_sweep.specs.Steps.{Steps}
use Rattle.script_sweep.specs.Steps.Steps.{NoStep, OneMore}
use Rattle.script_sweep.specs.Sweeping.{SweepsOpening}
use Rattle.script_sweep.proofs.judging.Ran.sweep_openings.Goals as goal

pub loop-before-init : goal.loop-before-init
loop-before-init g c = NoStep c.args.counts.now

-- one more stop of the opening was swept
pub loop-before-preserved : goal.loop-before-preserved
loop-before-preserved g c = OneMore c.loop-before.before c.args.counts.now c.loop-before.counts c.sweep_opening.new.counts c.loop-before.invariant c.in_ok-sweep_opening.ensures

pub returns : goal.returns
returns g c =
    let end : c.loop-before.before ≡ c.args.found.writes = omega (arith, c.loop-before-test.false, c.loop-before.auto.before-end) in
    subst
    (λ (n : ℕ). Steps (λ i. SweepsOpening g.J.Swept.keeps c.args.self.now.stopped.now c.args.self.now.named.now c.args.image.now c.args.found.report (i + 1)) n c.args.counts.now c.loop-before.counts)
    end c.loop-before.invariant
