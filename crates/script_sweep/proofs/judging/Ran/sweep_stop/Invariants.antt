use Rattle.script_sweep.specs.Steps.{Steps}
use Rattle.script_sweep.specs.Sweeping.{SweepsChoice}
use Rattle.script_sweep.proofs.judging.Ran.sweep_stop.Given as goal

-- the choices so far were swept
abbrev pub invariant-loop-bits : goal.invariant-loop-bits
invariant-loop-bits g l = Steps (SweepsChoice g.J.Swept.keeps l.self.stopped.now l.self.named.now l.k) l.bits l.fn.counts l.counts
