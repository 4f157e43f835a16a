use Rattle.std.proofs.Common.{◌≡◌, ◌≤◌}
use Rattle.journal_model.specs.Disk.{reading}
use Rattle.log_model.specs.Opening.{ring_of}
use Rattle.block_device.specs.Call.{OnlyReads}
use Rattle.log_dump.proofs.PrintingSteps.{PrintedTexts}
use Rattle.log_dump.proofs.printing.write_transactions.Given as goal

-- the texts before the position are printed
abbrev pub invariant-loop-k : goal.invariant-loop-k
invariant-loop-k g l = record {
  within : l.position ≤ (ring_of l.log).blocks;
  layout : l.finder.layout ≡ l.fn.finder.layout;
  device : OnlyReads g.D.Device.state g.D.Device.honest l.fn.device l.device;
  faults : (g.D.Device.state l.device).faults ≡ (g.D.Device.state l.fn.device).faults;
  printed : g.D.Device.honest l.device → PrintedTexts l.log (reading (g.D.Device.state l.fn.device).disk) (g.W.Write.contents l.fn.out) (g.W.Write.contents l.out) l.k l.position;
}
