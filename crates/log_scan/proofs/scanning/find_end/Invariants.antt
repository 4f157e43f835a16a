use Rattle.std.proofs.Common.{◌≡◌, ◌≤◌, ◌-◌}
use Rattle.journal_model.specs.Disk.{reading}
use Rattle.log_model.specs.Opening.{ring_of}
use Rattle.block_device.specs.Call.{OnlyReads}
use Rattle.log_scan.specs.Finding.{limit_of}
use Rattle.log_scan.proofs.ScanSteps.{HasPassed}
use Rattle.log_scan.proofs.scanning.find_end.Given as goal

-- what stands before the cursor
abbrev pub invariant-loop : goal.invariant-loop
invariant-loop g l = record {
  within : l.cursor.position ≤ (ring_of l.log).blocks;
  few : l.cursor.transactions ≤ l.cursor.position;
  layout : l.finder.layout ≡ l.fn.finder.layout;
  device : OnlyReads g.D.Device.state g.D.Device.honest l.fn.device l.device;
  faults : (g.D.Device.state l.device).faults ≡ (g.D.Device.state l.fn.device).faults;
  passed : g.D.Device.honest l.device → HasPassed l.log (limit_of l.log l.home_blocks) (reading (g.D.Device.state l.fn.device).disk) l.cursor;
}

-- the blocks that are left
abbrev pub decreases-loop : goal.decreases-loop
decreases-loop g l = (ring_of l.log).blocks - l.cursor.position
