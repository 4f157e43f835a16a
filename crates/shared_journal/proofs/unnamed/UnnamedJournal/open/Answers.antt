use Rattle.shared_journal.specs.Unnamed.NotCreatedOn.{Unopened, WithoutMemory}
use Rattle.shared_journal.proofs.unnamed.UnnamedJournal.open.Goals as goal

-- The log was opened, and memory ran out.
pub returns-in-Ok-clause-err : goal.returns-in-Ok-clause-err
returns-in-Ok-clause-err g c = WithoutMemory c.in-Ok.opened.device c.in-Ok.ensures.calls c.in-Err-create.ensures.err.1

pub returns-clause-err : goal.returns-clause-err
returns-clause-err g c = Unopened c.in-Err.field-0-0 c.in-Err.ensures.refused
