use Rattle.std.proofs.Common.{◌≡◌, ◌≤◌, ◌-◌}
use Rattle.journal_model.specs.Disk.{reading}
use Rattle.log_model.specs.Opening.{ring_of}
use Rattle.block_device.specs.Call.{OnlyReads}
use Rattle.log_scan.specs.Finding.{limit_of}
use Rattle.recovery.proofs.CountRuns.{Counts}
use Rattle.recovery.proofs.planning.count_copies.Given as goal

abbrev pub invariant-loop-cursor : goal.invariant-loop-cursor
invariant-loop-cursor g l = record {
  within : l.cursor.position ≤ (ring_of l.log).blocks;
  few : l.cursor.transactions ≤ l.cursor.position;
  held : l.place ≤ l.cursor.position;
  counted : l.count ≤ l.place;
  below : l.cursor.transactions ≤ l.transactions;
  layout : l.finder.layout ≡ l.fn.finder.layout;
  device : OnlyReads g.D.Device.state g.D.Device.honest l.fn.device l.device;
  faults : (g.D.Device.state l.device).faults ≡ (g.D.Device.state l.fn.device).faults;
  none : l.transactions ≡ 0 → l.count ≡ 0;
  counts : g.D.Device.honest l.device →
      Counts l.log (limit_of l.log l.home_blocks) (reading (g.D.Device.state l.fn.device).disk) l.cursor l.transactions l.place l.count l.tables;
}

abbrev pub decreases-loop-cursor : goal.decreases-loop-cursor
decreases-loop-cursor g l = (ring_of l.log).blocks - l.cursor.position
