use Rattle.script_client.proofs.Telling.{sync_direct-comes}
use Rattle.script_client.proofs.client.ScriptClient.sync_direct.Goals as goal

-- home was flushed, or the device failed, or nothing changed
pub invariant_of-self : goal.invariant_of-self
invariant_of-self g c = λ honest.
    sync_direct-comes g.H.HomeFact.holds c.self.inside.operations.now g.D.Device.state c.self.inside.journal c.sync_direct.new.self c.self.inside.acknowledged c.sync_direct.result
    c.sync_direct.ensures.ok c.sync_direct.ensures.err c.sync_direct.ensures.device.shape (c.self.invariant (c.sync_direct.ensures.device.honest honest))
