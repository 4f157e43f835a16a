use Rattle.std.specs.Prelude.{◌≡◌}
use Rattle.std.proofs.lemmas.Result.{IfErr-weaker}
use Rattle.journal_world.specs.Front.FrontEvent.{WriteBlock}
use Rattle.std.proofs.Common.{subst}
use Rattle.script_client.proofs.Telling.{front-comes}
use Rattle.script_client.proofs.client.ScriptClient.write.Goals as goal

-- the block was written, or nothing changed
pub invariant_of-self : goal.invariant_of-self
invariant_of-self g c = λ honest.
    let new = c.write.new.self in
    let old = c.self.inside.journal in
    front-comes g.H.HomeFact.holds c.self.inside.operations.now g.D.Device.state old new c.self.inside.acknowledged (WriteBlock c.args.handle.now.number c.args.block c.args.bytes.now) c.write.result
    c.write.ensures.ok
    (IfErr-weaker c.write.result _ (λ e. new ≡ old) (λ e is. is.1) c.write.ensures.err) c.write.ensures.device (c.self.invariant (subst g.D.Device.honest c.write.ensures.device honest))
