use Rattle.std.proofs.Common.{◌≡◌}
use Rattle.block_device.specs.Memory.{state_of}
use Rattle.script_run.specs.Copying.{HasCopied, IsOnlyRead}
use Rattle.script_run.proofs.copying.copy_area.Given as goal

-- the blocks so far are copied
abbrev pub invariant-loop-n : goal.invariant-loop-n
invariant-loop-n g l =
    HasCopied l.fn.area l.n (state_of l.fn.image).disk (g.D.Device.state l.fn.to).disk (g.D.Device.state l.to).disk
    × IsOnlyRead l.fn.image l.image
    × ((g.D.Device.state l.to).shape ≡ (g.D.Device.state l.fn.to).shape)
    × ((g.D.Device.state l.to).faults ≡ (g.D.Device.state l.fn.to).faults)
    × (g.D.Device.honest l.to → g.D.Device.honest l.fn.to)
