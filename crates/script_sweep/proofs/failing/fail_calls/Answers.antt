use Rattle.std.proofs.Common.{arith, ℕ, ◌≡◌, ◌+◌, refl, subst}
use Rattle.script_sweep.specs.Steps.{Steps}
use Rattle.script_sweep.specs.Steps.Steps.{NoStep, OneMore}
use Rattle.script_sweep.specs.Sweeping.{FailsCall}
use Rattle.script_sweep.proofs.failing.fail_calls.Goals as goal

pub loop-before-init : goal.loop-before-init
loop-before-init g c = record { swept = NoStep c.args.counts.now.not_right; calls = refl }

-- one more call was swept
pub loop-before-preserved : goal.loop-before-preserved
loop-before-preserved g c = record {
  swept =
      OneMore c.loop-before.before c.args.counts.now.not_right c.loop-before.counts.not_right c.judge_failure.new.not_right c.loop-before.invariant.swept
      (record { stopped = c.in_ok-stopped.stopped; run = c.in_ok-stopped.ensures; choices = c.in_ok-judge_failure.ensures });
  calls = c.loop-before.invariant.calls;
}

pub returns-clause-swept : goal.returns-clause-swept
returns-clause-swept g c =
    let end : c.loop-before.before ≡ c.args.counts.now.calls = omega (arith, c.loop-before-test.false, c.loop-before.auto.before-end) in
    subst (λ (n : ℕ). Steps (λ i. FailsCall g.J.Swept.keeps c.args.script.now c.args.named.now (i + 1)) n c.args.counts.now.not_right c.loop-before.counts.not_right) end c.loop-before.invariant.swept
