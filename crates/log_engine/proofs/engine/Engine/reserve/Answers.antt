use Rattle.std.proofs.Common.{ap}
use Rattle.journal_world.specs.Engine.{Engine}
use Rattle.log_engine.proofs.Rooms.{roomy-engine}
use Rattle.log_engine.proofs.engine.Engine.reserve.Goals as goal

-- if memory for the list of batches runs out, the invariant still holds
pub invariant_of-self-in_err-reserve-3 : goal.invariant_of-self-in_err-reserve-3
invariant_of-self-in_err-reserve-3 g c =
    let more = c.reserve-3.ensures in
    roomy-engine _ _ (g.D.Device.state c.self.inside.device).shape _ c.self.inside.ledger _ c.self.inside.plan _ c.self.inside.effects c.reserve-2.new.self more.engine more.ring
    more.pending more.kept c.reserve.ensures.copies c.reserve.ensures.revokes c.reserve-2.ensures.same c.self.invariant

pub returns-in_err-reserve-3-clause-same : goal.returns-in_err-reserve-3-clause-same
returns-in_err-reserve-3-clause-same g c =
    rw (← c.self.view_is)
    (ap (λ (e : Engine). record { device = c.self.inside.device; engine = e }) (c.reserve-3.ensures.engine (g.D.Device.state c.self.inside.device).shape))

pub invariant_of-self-2 : goal.invariant_of-self-2
invariant_of-self-2 g c =
    let more = c.reserve-3.ensures in
    roomy-engine _ _ (g.D.Device.state c.self.inside.device).shape _ c.self.inside.ledger _ c.self.inside.plan _ c.self.inside.effects c.reserve-2.new.self more.engine more.ring
    more.pending more.kept c.reserve.ensures.copies c.reserve.ensures.revokes c.reserve-2.ensures.same c.self.invariant

pub returns-clause-same : goal.returns-clause-same
returns-clause-same g c =
    rw (← c.self.view_is)
    (ap (λ (e : Engine). record { device = c.self.inside.device; engine = e }) (c.reserve-3.ensures.engine (g.D.Device.state c.self.inside.device).shape))
