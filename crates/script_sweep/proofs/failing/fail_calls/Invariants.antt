use Rattle.std.proofs.Common.{◌≡◌, ◌+◌}
use Rattle.script_sweep.specs.Steps.{Steps}
use Rattle.script_sweep.specs.Sweeping.{FailsCall}
use Rattle.script_sweep.proofs.failing.fail_calls.Given as goal

-- the calls so far were swept
abbrev pub invariant-loop-before : goal.invariant-loop-before
invariant-loop-before g l = record {
  swept : Steps (λ i. FailsCall g.J.Swept.keeps l.script l.named (i + 1)) l.before l.fn.counts.not_right l.counts.not_right;
  calls : l.counts.calls ≡ l.fn.counts.calls;
}
