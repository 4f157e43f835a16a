use Rattle.shared_journal.proofs.journal.Journal.lock_half_full.Goals as goal

-- Only a device failure refuses it.
pub returns-clause-why : goal.returns-clause-why
returns-clause-why g c = record { old = c.deref_mut.result.now; new = c.lock.new.self; did = (c.in-Err.ensures.err.1, c.in-Err.ensures.err.2) }
