use Rattle.std.specs.Prelude.{◌≡◌}
use Rattle.shared_journal.specs.Waiting.{Tries}
use Rattle.shared_journal.proofs.journal.Journal.start_after.Given as goal

-- All tries so far are repeated ones, and the ticket is as it was.
abbrev pub invariant-trying : goal.invariant-trying
invariant-trying g l = Tries g.D.Device.state g.J.JournalName.name.capacity l.n l.initial.seat l.seat × (l.last ≡ l.initial.last)
