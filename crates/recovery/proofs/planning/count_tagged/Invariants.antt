use Rattle.std.proofs.Common.{◌≡◌, ◌≤◌, take}
use Rattle.recovery.specs.Gather.{count_chosen}
use Rattle.recovery.proofs.planning.count_tagged.Given as goal

abbrev pub invariant-loop-k : goal.invariant-loop-k
invariant-loop-k l = record {
  few : l.count ≤ l.k;
  count : l.count ≡ count_chosen l.tables l.tid l.place (take l.k l.tags);
}
