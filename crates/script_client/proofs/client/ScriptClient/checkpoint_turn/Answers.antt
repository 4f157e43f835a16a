use Rattle.script_client.proofs.Telling.{checkpoint_turn-comes}
use Rattle.script_client.proofs.client.ScriptClient.checkpoint_turn.Goals as goal

-- one step was made, or none
pub invariant_of-self : goal.invariant_of-self
invariant_of-self g c = λ honest.
    checkpoint_turn-comes g.H.HomeFact.holds c.self.inside.operations.now g.D.Device.state c.self.inside.journal c.checkpoint_turn.new.self c.self.inside.acknowledged c.checkpoint_turn.result
    c.checkpoint_turn.ensures.ok c.checkpoint_turn.ensures.err c.checkpoint_turn.ensures.device.shape (c.self.invariant (c.checkpoint_turn.ensures.device.honest honest))
