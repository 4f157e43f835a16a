use Rattle.std.proofs.Common.{◌+◌}
use Rattle.script_sweep.specs.Steps.{Steps}
use Rattle.script_sweep.specs.Sweeping.{SweepsStop}
use Rattle.script_sweep.proofs.sweeping.sweep_stops.Given as goal

-- the stops so far were swept
abbrev pub invariant-loop-before : goal.invariant-loop-before
invariant-loop-before g l = Steps (λ i. SweepsStop g.J.Swept.keeps l.script l.named (i + 1)) l.before l.fn.counts l.counts
