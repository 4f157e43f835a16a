use Rattle.std.specs.Prelude.{map, take}
use Rattle.std.specs.List.{AllZip}
use Rattle.serde_json.specs.View.{view}
use Rattle.journal_script.specs.Clients.{AreServable, IsClientOperation, so_far}
use Rattle.journal_script.proofs.clients.read_client.Given as goal

-- the values up to here are the operations so far
abbrev pub invariant-loop-place : goal.invariant-loop-place
invariant-loop-place l = record {
  servable : AreServable l.limits.capacity l.limits.home_blocks l.reading;
  are : AllZip IsClientOperation (so_far l.reading) (map view (take l.place l.operations));
}
