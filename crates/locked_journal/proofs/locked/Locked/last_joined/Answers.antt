use Rattle.locked_journal.proofs.locked.Locked.last_joined.Goals as goal

pub returns-then-has_joined-clause-comes : goal.returns-then-has_joined-clause-comes
returns-then-has_joined-clause-comes g c = rw (← c.self.view_is) c.self.invariant.2

pub returns-else-has_joined-clause-comes : goal.returns-else-has_joined-clause-comes
returns-else-has_joined-clause-comes g c = rw (← c.self.view_is) c.self.invariant.2
