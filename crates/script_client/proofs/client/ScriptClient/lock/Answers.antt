use Rattle.std.specs.Prelude.{◌≡◌}
use Rattle.std.proofs.lemmas.Result.{IfErr-weaker}
use Rattle.std.proofs.Common.{subst}
use Rattle.script_client.proofs.Telling.{request-comes}
use Rattle.script_client.proofs.client.ScriptClient.lock.Goals as goal

-- the running transaction is locked, or nothing changed
pub invariant_of-self : goal.invariant_of-self
invariant_of-self g c = λ honest.
    let new = c.lock.new.self in
    let old = c.self.inside.journal in
    request-comes g.H.HomeFact.holds c.self.inside.operations.now g.D.Device.state old new c.self.inside.acknowledged old.journal.front.running.tid c.lock.result
    c.lock.ensures.locks (IfErr-weaker c.lock.result _ (λ e. new ≡ old) (λ e is. is.2) c.lock.ensures.err) c.lock.ensures.device (c.self.invariant (subst g.D.Device.honest c.lock.ensures.device honest))
