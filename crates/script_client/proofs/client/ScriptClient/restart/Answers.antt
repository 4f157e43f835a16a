use Rattle.std.proofs.Common.{subst}
use Rattle.std.proofs.lemmas.Result.{IfErr-weaker, IfOk-weaker}
use Rattle.group_commit.specs.Extension.{RestartRefused, Restarts}
use Rattle.script_client.proofs.Telling.{restart-comes}
use Rattle.script_client.proofs.client.ScriptClient.restart.Goals as goal

-- the handle stopped, and perhaps another joined
pub invariant_of-self : goal.invariant_of-self
invariant_of-self g c = λ honest.
    let new = c.restart.new.self in
    let old = c.self.inside.journal in
    restart-comes g.H.HomeFact.holds c.self.inside.operations.now g.D.Device.state old new c.self.inside.acknowledged c.args.handle c.args.credits c.restart.result
    (IfOk-weaker c.restart.result _ (λ other. Restarts g.D.Device.state c.args.handle c.args.credits old new) (λ other is. is.0) c.restart.ensures.ok)
    (IfErr-weaker c.restart.result _ (λ e. RestartRefused g.D.Device.state c.args.handle c.args.credits old new e.1) (λ e is. is.1) c.restart.ensures.err)
    c.restart.ensures.device (c.self.invariant (subst g.D.Device.honest c.restart.ensures.device honest))
