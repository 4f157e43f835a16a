use Rattle.std.proofs.Common.{◌≡◌}
use Rattle.log_engine.specs.Left.{round_calls}
use Rattle.group_commit.specs.Calls.{CallsForTurns}
use Rattle.group_commit.specs.Close.{Went}
use Rattle.group_commit.specs.During.{HoldsDuringRounds}
use Rattle.group_commit.proofs.all_turns.Journal+D+R.release_all.Given as goal

-- checkpoint steps were made and none failed; they leave the commit and the front
abbrev pub invariant-loop-self : goal.invariant-loop-self
invariant-loop-self g l = record {
  went : Went g.D.Device.state l.fn.self l.self;
  stage : l.self.journal.engine.stage ≡ l.fn.self.journal.engine.stage;
  committed : l.self.journal.engine.committed ≡ l.fn.self.journal.engine.committed;
  front : l.self.journal.front ≡ l.fn.self.journal.front;
  calls : CallsForTurns g.D.Device.state l.fn.self l.self;
  each : g.D.Device.honest l.self.device → HoldsDuringRounds g.D.Device.state l.fn.self l.self;
  honest : g.D.Device.honest l.self.device → g.D.Device.honest l.fn.self.device;
}

abbrev pub decreases-loop-self : goal.decreases-loop-self
decreases-loop-self g l = round_calls l.self.journal.engine
