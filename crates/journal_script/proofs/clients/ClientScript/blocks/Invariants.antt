use Rattle.std.specs.Prelude.{All, map, take}
use Rattle.std.specs.BTreeSet.{keys}
use Rattle.journal_script.specs.Clients.{HasTouchedAll}
use Rattle.journal_script.proofs.clients.ClientScript.blocks.Given as goal

-- the blocks of the clients so far are noted
abbrev pub invariant-loop-client : goal.invariant-loop-client
invariant-loop-client l = All (λ handles. HasTouchedAll handles (keys l.blocks)) (map (λ c. c.items) (take l.client-index l.client-items))
