use Rattle.script_client.proofs.Telling.{write_direct-comes}
use Rattle.script_client.proofs.client.ScriptClient.write_direct.Goals as goal

-- the block was written directly, or the device failed, or nothing changed
pub invariant_of-self : goal.invariant_of-self
invariant_of-self g c = λ honest.
    write_direct-comes g.H.HomeFact.holds c.self.inside.operations.now g.D.Device.state c.self.inside.journal c.write_direct.new.self c.self.inside.acknowledged c.args.block c.args.bytes.now
    c.write_direct.result (rw (← c.self.view_is) at c.requires.named) c.write_direct.ensures.ok c.write_direct.ensures.err c.write_direct.ensures.device.shape (c.self.invariant (c.write_direct.ensures.device.honest honest))
