use Rattle.std.proofs.Common.{◌≡◌, ◌≤◌, ◌-◌}
use Rattle.journal_model.specs.Disk.{reading}
use Rattle.log_model.specs.Opening.{ring_of}
use Rattle.block_device.specs.Call.{OnlyReads}
use Rattle.log_scan.specs.Finding.{every_block}
use Rattle.log_scan.proofs.ScanSteps.{HasPassed}
use Rattle.log_views.proofs.copies.find_copy.Given as goal

-- what was passed before the cursor
abbrev pub invariant-loop-cursor : goal.invariant-loop-cursor
invariant-loop-cursor g l = record {
  within : l.cursor.position ≤ (ring_of l.log).blocks;
  few : l.cursor.transactions ≤ l.cursor.position;
  layout : l.finder.layout ≡ l.fn.finder.layout;
  device : OnlyReads g.D.Device.state g.D.Device.honest l.fn.device l.device;
  passed : g.D.Device.honest l.device → HasPassed l.log (every_block l.log) (reading (g.D.Device.state l.fn.device).disk) l.cursor;
}

abbrev pub decreases-loop-cursor : goal.decreases-loop-cursor
decreases-loop-cursor g l = (ring_of l.log).blocks - l.cursor.position
