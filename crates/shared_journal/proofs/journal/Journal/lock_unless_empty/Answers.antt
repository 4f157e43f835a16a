use Rattle.shared_journal.proofs.journal.Journal.lock_unless_empty.Goals as goal

pub returns-in-Ok-clause-locks : goal.returns-in-Ok-clause-locks
returns-in-Ok-clause-locks g c = record { old = c.deref_mut.result.now; new = c.lock_unless_empty.new.self; did = c.in-Ok.ensures.locks }

-- Only a device failure refuses it.
pub returns-clause-why : goal.returns-clause-why
returns-clause-why g c = record {
  old = c.deref_mut.result.now;
  new = c.lock_unless_empty.new.self;
  did = (c.in-Err.ensures.err.1, c.in-Err.ensures.err.2);
}
