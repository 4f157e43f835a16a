use Rattle.group_commit.proofs.known_front.KnownFront.mark.Goals as goal

pub returns : goal.returns
returns g c = rw (← c.self.view_is) cc
