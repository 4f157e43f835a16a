use Rattle.std.proofs.Common.{◌+◌}
use Rattle.script_sweep.specs.Steps.{Steps}
use Rattle.script_sweep.specs.Sweeping.{SweepsOpening}
use Rattle.script_sweep.proofs.judging.Ran.sweep_openings.Given as goal

-- the stops of the opening so far were swept
abbrev pub invariant-loop-before : goal.invariant-loop-before
invariant-loop-before g l = Steps (λ i. SweepsOpening g.J.Swept.keeps l.self.stopped.now l.self.named.now l.image l.fn.found.report (i + 1)) l.before l.fn.counts l.counts
