use Rattle.std.proofs.Common.{◌≡◌, ◌≤◌}
use Rattle.log_model.specs.Opening.{ring_of}
use Rattle.block_device.specs.Call.{OnlyReads}
use Rattle.log_views.proofs.ring.blocks_of.Given as goal

abbrev pub invariant-loop : goal.invariant-loop
invariant-loop g l =
    (l.cursor.position ≤ (ring_of l.log).blocks)
    × (l.cursor.transactions ≤ l.cursor.position)
    × (l.finder.layout ≡ l.fn.finder.layout)
    × OnlyReads g.D.Device.state g.D.Device.honest l.fn.device l.device
