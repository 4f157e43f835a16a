use Rattle.std.proofs.Common.{subst}
use Rattle.std.specs.Prelude.{◌≡◌}
use Rattle.std.proofs.lemmas.Result.{IfErr-weaker}
use Rattle.journal_world.specs.Front.FrontEvent.{RevokeBlock}
use Rattle.script_client.proofs.Telling.{front-comes}
use Rattle.script_client.proofs.client.ScriptClient.revoke.Goals as goal

-- the block was revoked, or nothing changed
pub invariant_of-self : goal.invariant_of-self
invariant_of-self g c = λ honest.
    let new = c.revoke.new.self in
    let old = c.self.inside.journal in
    front-comes g.H.HomeFact.holds c.self.inside.operations.now g.D.Device.state old new c.self.inside.acknowledged (RevokeBlock c.args.handle.now.number c.args.block) c.revoke.result
    c.revoke.ensures.ok
    (IfErr-weaker c.revoke.result _ (λ e. new ≡ old) (λ e is. is.1) c.revoke.ensures.err) c.revoke.ensures.device (c.self.invariant (subst g.D.Device.honest c.revoke.ensures.device honest))
