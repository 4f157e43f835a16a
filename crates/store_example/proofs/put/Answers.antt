use Rattle.std.proofs.Common.{◌≡◌, arith}
use Rattle.std.specs.Prelude.{slice_index}
use Rattle.std.proofs.lemmas.Grind.{common_steps}
use Rattle.store_example.proofs.Held.{held-committed}
use Rattle.store_example.proofs.put.Goals as goal

-- the slot stands at the key, so what was written together is held
pub returns-clause-stored : goal.returns-clause-stored
returns-clause-stored g c =
    let placed : slice_index c.deref-2.result.now c.args.key ≡ c.in-Some.slot = grind (arith, common_steps) in
    held-committed g.D.Device.state c.read_newest.new.self c.change.new.journal c.commit.new.self c.in_ok-ticket.ticket c.in_ok-ticket.ticket.tid
    c.args.key c.in-Some.slot c.args.value.now c.deref-2.result.now c.in-Some.ensures placed c.in_ok-ticket.ensures.together c.in-Ok.ensures.turns
