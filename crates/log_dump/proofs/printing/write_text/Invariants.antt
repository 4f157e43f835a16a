use Rattle.std.proofs.Common.{◌≡◌, ◌≤◌, ◌-◌}
use Rattle.journal_model.specs.Disk.{reading}
use Rattle.log_model.specs.Opening.{ring_of}
use Rattle.block_device.specs.Call.{OnlyReads}
use Rattle.log_dump.proofs.PrintingSteps.{PrintedPieces}
use Rattle.log_dump.proofs.printing.write_text.Given as goal

-- the pieces before the position are printed
abbrev pub invariant-loop-numbers : goal.invariant-loop-numbers
invariant-loop-numbers g l = record {
  low : l.start ≤ l.position;
  within : l.position ≤ (ring_of l.log).blocks;
  layout : l.finder.layout ≡ l.fn.finder.layout;
  device : OnlyReads g.D.Device.state g.D.Device.honest l.fn.device l.device;
  faults : (g.D.Device.state l.device).faults ≡ (g.D.Device.state l.fn.device).faults;
  printed : g.D.Device.honest l.device → PrintedPieces l.log (reading (g.D.Device.state l.fn.device).disk) l.sequence (g.W.Write.contents l.fn.out) (g.W.Write.contents l.out) l.start l.position;
}

abbrev pub decreases-loop-numbers : goal.decreases-loop-numbers
decreases-loop-numbers g l = (ring_of l.log).blocks - l.position
