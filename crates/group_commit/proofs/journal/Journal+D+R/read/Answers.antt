use Rattle.group_commit.proofs.journal.Journal+D+R.read.Goals as goal

pub invariant_of-self : goal.invariant_of-self
invariant_of-self g c = (c.read.ensures.agrees, c.read.ensures.left.legal c.self.invariant.1)

pub returns-clause-reads : goal.returns-clause-reads
returns-clause-reads g c = rw (← c.self.view_is) c.read.ensures.reads

pub returns-clause-left : goal.returns-clause-left
returns-clause-left g c = rw (← c.self.view_is) c.read.ensures.left

pub returns-clause-legal : goal.returns-clause-legal
returns-clause-legal g c = c.read.ensures.left.legal c.self.invariant.1
