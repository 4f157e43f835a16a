use Rattle.script_sweep.specs.Steps.{Steps}
use Rattle.script_sweep.specs.Sweeping.{SweepsAgain}
use Rattle.script_sweep.proofs.judging.Ran.sweep_stopped_opening.Given as goal

-- the choices so far were swept
abbrev pub invariant-loop-bits : goal.invariant-loop-bits
invariant-loop-bits g l = Steps (SweepsAgain g.J.Swept.keeps l.self.stopped.now l.self.named.now l.first.report l.j l.device) l.bits l.fn.counts l.counts
