use Rattle.std.specs.Prelude.{◌≤◌}
use Rattle.shared_journal.proofs.journal.Journal.wait_for.Given as goal

-- The seat has seen no less than at first.
abbrev pub invariant-looking : goal.invariant-looking
invariant-looking g l = l.initial.seat.seen ≤ l.seat.seen
