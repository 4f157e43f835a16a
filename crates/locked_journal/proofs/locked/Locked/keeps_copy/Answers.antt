use Rattle.locked_journal.proofs.locked.Locked.keeps_copy.Goals as goal

pub returns-clause-comes : goal.returns-clause-comes
returns-clause-comes g c = rw (← c.self.view_is) c.self.invariant.2
