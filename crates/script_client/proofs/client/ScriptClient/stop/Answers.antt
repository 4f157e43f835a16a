use Rattle.std.proofs.Common.{subst}
use Rattle.script_client.proofs.Telling.{stop-comes}
use Rattle.script_client.proofs.client.ScriptClient.stop.Goals as goal

-- the handle stopped, or nothing changed
pub invariant_of-self : goal.invariant_of-self
invariant_of-self g c = λ honest.
    stop-comes g.H.HomeFact.holds c.self.inside.operations.now g.D.Device.state c.self.inside.journal c.stop.new.self c.self.inside.acknowledged c.args.handle
    c.stop.ensures.stops c.stop.ensures.other c.stop.ensures.device (c.self.invariant (subst g.D.Device.honest c.stop.ensures.device honest))

-- the handle stopped where it was open
pub returns-clause-ends : goal.returns-clause-ends
returns-clause-ends g c = rw (← c.self.view_is) (record { stops = c.stop.ensures.stops; other = c.stop.ensures.other; device = c.stop.ensures.device })
