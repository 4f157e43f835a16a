use Rattle.std.specs.Prelude.{◌≡◌}
use Rattle.std.proofs.Common.{subst}
use Rattle.std.proofs.lemmas.Result.{IfErr-weaker}
use Rattle.script_client.proofs.Telling.{extend-comes}
use Rattle.script_client.proofs.client.ScriptClient.extend.Goals as goal

-- the handle got them, or nothing changed
pub invariant_of-self : goal.invariant_of-self
invariant_of-self g c = λ honest.
    let new = c.extend.new.self in
    let old = c.self.inside.journal in
    extend-comes g.H.HomeFact.holds c.self.inside.operations.now g.D.Device.state old new c.self.inside.acknowledged c.args.handle.now.number c.args.credits c.extend.result
    c.extend.ensures.ok (IfErr-weaker c.extend.result _ (λ e. new ≡ old) (λ e is. is.1) c.extend.ensures.err) c.extend.ensures.device (c.self.invariant (subst g.D.Device.honest c.extend.ensures.device honest))
