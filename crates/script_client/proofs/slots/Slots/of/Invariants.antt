use Rattle.std.proofs.Common.{◌≡◌, replicate, vec_capacity}
use Rattle.script_client.specs.declared.slots.Slot.TheVariants.{Empty}
use Rattle.script_client.proofs.slots.Slots.of.Given as goal

-- as many names as the counter says stand for nothing, and there is room for the others
abbrev pub invariant-loop : goal.invariant-loop
invariant-loop l = record {
  items : l.slots.items ≡ replicate l.counter Empty;
  capacity : vec_capacity l.slots ≡ 10000;
}
