use Rattle.journal_world.proofs.Credits.{event-beside, journal-beside}
use Rattle.journal_world.proofs.laws.what_callers_hold_changes_no_step_of_the_front.Goals as goal

pub returns-clause-journal : goal.returns-clause-journal
returns-clause-journal c = journal-beside

pub returns-clause-front : goal.returns-clause-front
returns-clause-front c = event-beside
