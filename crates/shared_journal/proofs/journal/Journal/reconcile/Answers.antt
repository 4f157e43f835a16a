use Rattle.shared_journal.proofs.journal.Journal.reconcile.Goals as goal

pub returns : goal.returns
returns g c = record { old = c.deref_mut.result.now; new = c.reconcile-reconciled.new.self; did = (c.reconcile-reconciled.ensures.mark, c.reconcile-reconciled.ensures.failed) }
