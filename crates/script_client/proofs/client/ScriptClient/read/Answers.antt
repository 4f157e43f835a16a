use Rattle.script_client.proofs.Telling.{read-comes}
use Rattle.script_client.proofs.client.ScriptClient.read.Goals as goal

-- the read was a step, or changed nothing, or failed
pub invariant_of-self : goal.invariant_of-self
invariant_of-self g c = λ honest.
    read-comes g.H.HomeFact.holds c.self.inside.operations.now g.D.Device.state c.self.inside.journal c.read.new.self c.self.inside.acknowledged _ c.args.handle.now c.args.block
    c.read.new.into c.read.result honest c.read.ensures.reads.ok c.read.ensures.reads.err c.read.ensures.left.device.stays (c.self.invariant (c.read.ensures.left.device.honest honest))
