use Rattle.std.specs.Prelude.{◌≡◌, true}
use Rattle.shared_journal.specs.Turns.{CommittedThen}
use Rattle.shared_journal.proofs.turns.Turns.commit_joined.Given as goal

-- What it counts as committed was committed.
abbrev pub invariant-leading : goal.invariant-leading
invariant-leading g l = l.committed ≡ true → CommittedThen g.D.Device.state
