use Rattle.script_sweep.specs.Steps.{Steps}
use Rattle.script_sweep.specs.Sweeping.{FailsChoice}
use Rattle.script_sweep.proofs.judging.Ran.judge_failure.Given as goal

-- the choices so far were judged
abbrev pub invariant-loop-bits : goal.invariant-loop-bits
invariant-loop-bits g l = Steps (FailsChoice g.J.Swept.keeps l.self.stopped.now l.self.named.now) l.bits l.fn.not_right l.not_right
