use Rattle.std.proofs.Common.{◌≡◌, ◌-◌, ◌^◌, map, min, take}
use Rattle.std.specs.List.{sum_by}
use Rattle.journal_script.specs.Clients.{waits_of}
use Rattle.journal_script.proofs.clients.ClientScript.waits.Given as goal

-- the waits of the clients so far are counted
abbrev pub invariant-loop-client : goal.invariant-loop-client
invariant-loop-client l = l.count ≡ min (sum_by waits_of (map (λ c. c.items) (take l.client-index l.client-items))) (2 ^ 64 - 1)
