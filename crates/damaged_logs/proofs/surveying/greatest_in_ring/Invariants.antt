use Rattle.std.proofs.Common.{◌≡◌, ◌≤◌}
use Rattle.journal_model.specs.Disk.{reading}
use Rattle.block_device.specs.Call.{OnlyReads}
use Rattle.damaged_logs.proofs.Surveys.{IsGreatestUpTo}
use Rattle.damaged_logs.proofs.surveying.greatest_in_ring.Given as goal

-- the greatest number of the blocks before the place
abbrev pub invariant-loop-place : goal.invariant-loop-place
invariant-loop-place g l = record {
  layout : l.finder.layout ≡ l.fn.finder.layout;
  device : OnlyReads g.D.Device.state g.D.Device.honest l.fn.device l.device;
  faults : (g.D.Device.state l.device).faults ≡ (g.D.Device.state l.fn.device).faults;
  least : l.limit ≤ l.greatest;
  greatest : g.D.Device.honest l.device → IsGreatestUpTo l.log (reading (g.D.Device.state l.fn.device).disk) l.limit l.place l.greatest;
}
