use Rattle.std.proofs.Common.{◌≡◌, ◌≤◌, ◌-◌}
use Rattle.journal_model.specs.declared.number.Area.TheVariants.{Log}
use Rattle.journal_model.specs.Disk.{reading}
use Rattle.log_model.specs.Opening.{ring_of}
use Rattle.block_device.specs.State.{Stays}
use Rattle.log_scan.specs.Finding.{MakesCalls, limit_of}
use Rattle.recovery.proofs.ReplayRuns.{Replays}
use Rattle.recovery.proofs.replaying.replay.Given as goal

-- what goes home of the texts before the cursor is written
abbrev pub invariant-loop-cursor : goal.invariant-loop-cursor
invariant-loop-cursor g l = record {
  within : l.cursor.position ≤ (ring_of l.log).blocks;
  few : l.cursor.transactions ≤ l.cursor.position;
  held : l.place ≤ l.cursor.position;
  below : l.cursor.transactions ≤ l.transactions;
  layout : l.finder.layout ≡ l.fn.finder.layout;
  shape : (g.D.Device.state l.device).shape ≡ (g.D.Device.state l.fn.device).shape;
  faults : (g.D.Device.state l.device).faults ≡ (g.D.Device.state l.fn.device).faults;
  log : (g.D.Device.state l.device).disk Log ≡ (g.D.Device.state l.fn.device).disk Log;
  none : l.transactions ≡ 0 → Stays (g.D.Device.state l.fn.device) (g.D.Device.state l.device);
  calls : MakesCalls l.cursor.transactions (g.D.Device.state l.fn.device) (g.D.Device.state l.device);
  honest : g.D.Device.honest l.device → g.D.Device.honest l.fn.device;
  replays : g.D.Device.honest l.device →
      Replays l.log (limit_of l.log l.home_blocks) (reading (g.D.Device.state l.fn.device).disk) l.cursor l.transactions l.place l.tables (g.D.Device.state l.fn.device)
      (g.D.Device.state l.device);
}

abbrev pub decreases-loop-cursor : goal.decreases-loop-cursor
decreases-loop-cursor g l = (ring_of l.log).blocks - l.cursor.position
