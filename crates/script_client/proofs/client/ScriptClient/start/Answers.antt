use Rattle.std.specs.Prelude.{◌≡◌}
use Rattle.std.proofs.lemmas.Result.{IfErr-weaker, IfOk-weaker}
use Rattle.group_commit.specs.Extension.{Starts}
use Rattle.std.proofs.Common.{subst}
use Rattle.script_client.proofs.Telling.{start-comes}
use Rattle.script_client.proofs.client.ScriptClient.start.Goals as goal

-- credits were granted and a handle joined with them, or nothing changed
pub invariant_of-self : goal.invariant_of-self
invariant_of-self g c = λ honest.
    let new = c.try_start.new.self in
    let old = c.self.inside.journal in
    start-comes g.H.HomeFact.holds c.self.inside.operations.now g.D.Device.state old new c.self.inside.acknowledged c.args.credits c.try_start.result
    (IfOk-weaker c.try_start.result _ (λ handle. Starts g.D.Device.state c.args.credits old new) (λ handle is. is.0) c.try_start.ensures.ok)
    (IfErr-weaker c.try_start.result _ (λ e. new ≡ old) (λ e is. is.1) c.try_start.ensures.err) c.try_start.ensures.device (c.self.invariant (subst g.D.Device.honest c.try_start.ensures.device honest))
