use Rattle.std.proofs.Common.{◌≡◌}
use Rattle.script_sweep.specs.Places.{kept_from}
use Rattle.script_sweep.proofs.place.choice.Given as goal

-- the writes so far whose bit is 1 are kept
abbrev pub invariant-loop-bit : goal.invariant-loop-bit
invariant-loop-bit l = l.kept.items ≡ kept_from l.first l.bits l.bit
