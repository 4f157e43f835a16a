use Rattle.std.proofs.Common.{◌≡◌, ℕ, ◌<◌}
use Rattle.log_model.specs.Chain.{IsAhead}
use Rattle.journal_model.specs.Disk.{reading}
use Rattle.log_model.specs.Opening.{ring_of}
use Rattle.block_device.specs.Call.{OnlyReads}
use Rattle.recovery.proofs.examine.lowest_ahead.Given as goal

abbrev pub invariant-loop-place : goal.invariant-loop-place
invariant-loop-place g l = record {
  layout : l.finder.layout ≡ l.fn.finder.layout;
  device : OnlyReads g.D.Device.state g.D.Device.honest l.fn.device l.device;
  faults : (g.D.Device.state l.device).faults ≡ (g.D.Device.state l.fn.device).faults;
  none : g.D.Device.honest l.device → (other : ℕ) → other < l.place → IsAhead (ring_of l.log) (reading (g.D.Device.state l.fn.device).disk) l.limit other → ⊥;
}
