use Rattle.std.proofs.Common.{◌≡◌, ◌-◌, ◌^◌, length, map, min, take}
use Rattle.std.specs.List.{sum_by}
use Rattle.journal_script.proofs.clients.ClientScript.handles.Given as goal

-- the handles of the clients so far are counted
abbrev pub invariant-loop-client : goal.invariant-loop-client
invariant-loop-client l = l.count ≡ min (sum_by length (map (λ c. c.items) (take l.client-index l.client-items))) (2 ^ 64 - 1)
