use Rattle.recovery.proofs.opening.Opened.block_size.Goals as goal

pub returns : goal.returns
returns g c = rw (← c.self.view_is) c.block_size.ensures.size
