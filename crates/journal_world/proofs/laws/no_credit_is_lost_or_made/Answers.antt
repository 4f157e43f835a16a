use Rattle.journal_world.proofs.Credits.{event-held, event-refused, journal-held}
use Rattle.journal_world.proofs.laws.no_credit_is_lost_or_made.Goals as goal

pub returns-clause-held : goal.returns-clause-held
returns-clause-held c = event-held

pub returns-clause-journal : goal.returns-clause-journal
returns-clause-journal c = journal-held

pub returns-clause-refused : goal.returns-clause-refused
returns-clause-refused c = event-refused
