use Rattle.script_client.proofs.Telling.{commit_turn-comes}
use Rattle.script_client.proofs.client.ScriptClient.commit_turn.Goals as goal

-- steps were made, or none
pub invariant_of-self : goal.invariant_of-self
invariant_of-self g c = λ honest.
    commit_turn-comes g.H.HomeFact.holds c.self.inside.operations.now g.D.Device.state c.self.inside.journal c.commit_turn.new.self c.self.inside.acknowledged c.commit_turn.result
    c.commit_turn.ensures.ok c.commit_turn.ensures.err c.commit_turn.ensures.device.shape (c.self.invariant (c.commit_turn.ensures.device.honest honest))
