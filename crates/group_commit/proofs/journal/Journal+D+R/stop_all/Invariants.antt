use Rattle.std.specs.Prelude.{◌≡◌, length}
use Rattle.group_commit.specs.Stops.{StopsHandles}
use Rattle.group_commit.proofs.journal.Journal+D+R.stop_all.Given as goal

-- some handles have stopped
abbrev pub invariant-loop : goal.invariant-loop
invariant-loop g l = record {
  stops : StopsHandles g.D.Device.state l.fn.self l.self;
  device : l.self.device ≡ l.fn.self.device;
}

-- those that are left
abbrev pub decreases-loop : goal.decreases-loop
decreases-loop g l = length l.self.journal.front.open_handles
