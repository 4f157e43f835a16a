use Rattle.std.proofs.Common.{◌≡◌, ◌+◌, ◌≤◌}
use Rattle.block_device.specs.State.{EachMoment}
use Rattle.recovery.specs.Making.{IsZeroingMoment}
use Rattle.recovery.specs.Opening.{HasZeros}
use Rattle.recovery.proofs.empty_log.write_zeros.Given as goal

abbrev pub invariant-loop-n : goal.invariant-loop-n
invariant-loop-n g l =
    HasZeros l.zeros l.n (g.D.Device.state l.fn.device).disk (g.D.Device.state l.device).disk
    × ((g.D.Device.state l.device).shape ≡ (g.D.Device.state l.fn.device).shape)
    × ((g.D.Device.state l.device).faults ≡ (g.D.Device.state l.fn.device).faults)
    × (g.D.Device.honest l.device → g.D.Device.honest l.fn.device)
    × EachMoment (IsZeroingMoment l.zeros l.fn.maxlen (g.D.Device.state l.fn.device).disk) (g.D.Device.state l.fn.device) (g.D.Device.state l.device)
    × ((g.D.Device.state l.device).calls + 1 ≤ (g.D.Device.state l.fn.device).calls + l.n)
