use Rattle.std.specs.Prelude.{◌≡◌}
use Rattle.std.proofs.lemmas.Result.{IfErr-weaker}
use Rattle.std.proofs.Common.{subst}
use Rattle.script_client.proofs.Telling.{request-comes}
use Rattle.script_client.proofs.client.ScriptClient.request.Goals as goal

-- the running transaction is locked, or nothing changed
pub invariant_of-self : goal.invariant_of-self
invariant_of-self g c = λ honest.
    let new = c.request.new.self in
    let old = c.self.inside.journal in
    request-comes g.H.HomeFact.holds c.self.inside.operations.now g.D.Device.state old new c.self.inside.acknowledged c.args.ticket.now.tid c.request.result
    c.request.ensures.ok (IfErr-weaker c.request.result _ (λ e. new ≡ old) (λ e is. is.2) c.request.ensures.err) c.request.ensures.device (c.self.invariant (subst g.D.Device.honest c.request.ensures.device honest))
