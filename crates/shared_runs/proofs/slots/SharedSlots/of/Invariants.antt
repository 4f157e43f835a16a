use Rattle.std.proofs.Common.{◌≡◌, vec_capacity, vec_len}
use Rattle.shared_runs.proofs.slots.SharedSlots.of.Given as goal

-- there is room for the others
abbrev pub invariant-loop : goal.invariant-loop
invariant-loop g l = record {
  length : vec_len l.slots ≡ l.counter;
  capacity : vec_capacity l.slots ≡ l.fn.names;
}
