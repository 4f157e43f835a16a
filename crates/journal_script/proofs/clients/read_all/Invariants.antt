use Rattle.std.specs.Prelude.{◌≡◌, All, map, take, vec_len}
use Rattle.std.specs.List.{AllZip}
use Rattle.serde_json.specs.View.{view}
use Rattle.journal_script.specs.Clients.{IsClient, IsServable}
use Rattle.journal_script.proofs.clients.read_all.Given as goal

-- the values up to here are the clients so far, each of which can be served
abbrev pub invariant-loop-list : goal.invariant-loop-list
invariant-loop-list l = record {
  count : vec_len l.clients ≡ l.list-index;
  are : AllZip IsClient (map (λ c. c.items) l.clients.items) (map view (take l.list-index l.lists));
  servable : All (All (IsServable l.limits.capacity l.limits.home_blocks)) (map (λ c. c.items) l.clients.items);
}
