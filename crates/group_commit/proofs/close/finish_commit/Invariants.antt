use Rattle.log_engine.specs.Left.{commit_calls}
use Rattle.group_commit.specs.Calls.{CallsForTurns}
use Rattle.group_commit.specs.Close.{Went}
use Rattle.group_commit.specs.During.{HoldsDuringTurns}
use Rattle.group_commit.specs.Rounds.{MakesNoRound}
use Rattle.group_commit.proofs.close.finish_commit.Given as goal

-- commit steps were made, no checkpoint step, and none failed
abbrev pub invariant-loop-journal : goal.invariant-loop-journal
invariant-loop-journal g l = record {
  went : Went g.D.Device.state l.fn.journal l.journal;
  rounds : MakesNoRound l.fn.journal.journal.engine l.journal.journal.engine;
  calls : CallsForTurns g.D.Device.state l.fn.journal l.journal;
  each : g.D.Device.honest l.journal.device → HoldsDuringTurns g.D.Device.state l.fn.journal l.journal;
  honest : g.D.Device.honest l.journal.device → g.D.Device.honest l.fn.journal.device;
}

abbrev pub decreases-loop-journal : goal.decreases-loop-journal
decreases-loop-journal g l = commit_calls l.journal.journal.engine
