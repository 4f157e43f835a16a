use Rattle.std.proofs.Common.{◌≡◌, List, ℕ, take}
use Rattle.journal_model.specs.declared.number.Area.TheVariants.{Log}
use Rattle.journal_model.specs.Disk.{reading}
use Rattle.log_scan.specs.Finding.{MakesCalls}
use Rattle.log_scan.specs.Passing.{StandAt}
use Rattle.recovery.specs.Calls.{HasMade, writes_home}
use Rattle.recovery.proofs.CopyRuns.{chosen_first}
use Rattle.recovery.proofs.replaying.write_copies.Given as goal

abbrev pub invariant-loop-k : goal.invariant-loop-k
invariant-loop-k g l = record {
  layout : l.finder.layout ≡ l.fn.finder.layout;
  tags : l.finder.tags ≡ l.fn.finder.tags;
  shape : (g.D.Device.state l.device).shape ≡ (g.D.Device.state l.fn.device).shape;
  faults : (g.D.Device.state l.device).faults ≡ (g.D.Device.state l.fn.device).faults;
  log : (g.D.Device.state l.device).disk Log ≡ (g.D.Device.state l.fn.device).disk Log;
  calls : MakesCalls 0 (g.D.Device.state l.fn.device) (g.D.Device.state l.device);
  honest : g.D.Device.honest l.device → g.D.Device.honest l.fn.device;
  made : g.D.Device.honest l.device → (blocks : List (List ℕ)) →
      StandAt l.log (reading (g.D.Device.state l.fn.device).disk) l.copies.position l.copies.count blocks →
      HasMade (writes_home (chosen_first l.tables l.copies.tid l.copies.place (take l.copies.count l.fn.finder.tags) blocks l.k)) (g.D.Device.state l.fn.device) (g.D.Device.state l.device);
}
