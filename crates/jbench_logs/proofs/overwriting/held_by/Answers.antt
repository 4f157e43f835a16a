use Rattle.std.specs.Prelude.{IfOk}
use Rattle.jbench_logs.proofs.Holding.{refused-for}
use Rattle.jbench_logs.proofs.overwriting.held_by.Goals as goal

-- the superblock is refused
pub returns-in-Err-clause-held : goal.returns-in-Err-clause-held
returns-in-Err-clause-held g c =
    refused-for (g.D.Device.state c.args.device.now) (g.D.Device.state c.read_super.new.device) c.in-Err.e c.in-Err.ensures.faults c.held_for.result c.held_for.ensures
