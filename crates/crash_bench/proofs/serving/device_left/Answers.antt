use Rattle.crash_bench.proofs.Closed.{closed_left}
use Rattle.crash_bench.proofs.serving.device_left.Goals as goal

-- the journal was closed
pub returns-in-Ok : goal.returns-in-Ok
returns-in-Ok g c =
    closed_left g.D.Device.state g.D.Device.honest c.requires.ended.0 _ _ _ _ _ c.in-Ok.is c.requires.ended.1
