use Rattle.std.proofs.Common.{ℕ, ◌+◌, ◌∙◌, ap, subst, sym}
use Rattle.script_sweep.specs.declared.counts.FailureCounts.{FailureCounts}
use Rattle.script_sweep.specs.declared.counts.NotRight.{NotRight}
use Rattle.script_sweep.specs.Steps.{Steps}
use Rattle.script_sweep.specs.Sweeping.{FailsCall, none_wrong}
use Rattle.script_sweep.specs.Swept.{MakesCalls}
use Rattle.script_sweep.proofs.Sweeps.{failures-right}
use Rattle.script_sweep.proofs.failing.sweep_failures.Goals as goal

-- each of the calls was swept
pub returns-clause-swept : goal.returns-clause-swept
returns-clause-swept g c =
    let old = c.of_calls-counts.result in
    let new = c.fail_calls-swept.new.counts in
    record {
      named = c.in_ok-named.named;
      names = c.in_ok-named.ensures;
      whole =
          subst (λ (n : ℕ). g.J.Swept.keeps → MakesCalls c.args.script.now n)
          (sym (c.fail_calls-swept.ensures.calls ∙ ap (λ (f : FailureCounts). f.calls) c.of_calls-counts.ensures)) c.in_ok-calls.ensures;
      calls =
          subst (λ (n : ℕ). Steps (λ i. FailsCall g.J.Swept.keeps c.args.script.now c.in_ok-named.named (i + 1)) n none_wrong new.not_right) (sym c.fail_calls-swept.ensures.calls)
          (subst (λ (s : NotRight). Steps (λ i. FailsCall g.J.Swept.keeps c.args.script.now c.in_ok-named.named (i + 1)) old.calls s new.not_right)
          (ap (λ (f : FailureCounts). f.not_right) c.of_calls-counts.ensures) c.in_ok-swept.ensures.swept);
    }

pub returns-clause-right : goal.returns-clause-right
returns-clause-right g c = failures-right g.J.Swept.keeps c.args.script.now c.fail_calls-swept.new.counts (returns-clause-swept g c)
