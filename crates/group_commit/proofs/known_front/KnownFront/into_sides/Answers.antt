use Rattle.group_commit.proofs.known_front.KnownFront.into_sides.Goals as goal

pub returns-clause-agrees : goal.returns-clause-agrees
returns-clause-agrees g c = rw (← c.self.view_is) c.self.invariant.0

pub returns-clause-legal : goal.returns-clause-legal
returns-clause-legal g c = rw (← c.self.view_is) c.self.invariant.1
