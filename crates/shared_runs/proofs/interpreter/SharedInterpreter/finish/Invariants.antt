use Rattle.std.proofs.Common.{vec_len}
use Rattle.shared_runs.proofs.interpreter.SharedInterpreter.finish.Given as goal

-- the slots that remain
abbrev pub decreases-loop-slot : goal.decreases-loop-slot
decreases-loop-slot g l = vec_len l.slots
