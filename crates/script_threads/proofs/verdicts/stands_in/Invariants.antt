use Rattle.std.specs.Prelude.{take}
use Rattle.script_threads.specs.Verdicts.{StandsIn}
use Rattle.script_threads.proofs.verdicts.stands_in.Given as goal

-- It stands in none so far.
abbrev pub invariant-loop-transaction : goal.invariant-loop-transaction
invariant-loop-transaction l = StandsIn (take l.transaction-index l.committed) l.receipt → ⊥
