use Rattle.std.proofs.Common.{sym, ◌∙◌}
use Rattle.checkpoint.proofs.Kept.{kept-pending, newest-map}
use Rattle.checkpoint.proofs.pending.Pending.lookup.Goals as goal

pub returns-clause-newest : goal.returns-clause-newest
returns-clause-newest c = rw (← c.self.view_is) (c.newest.ensures ∙ sym (newest-map c.self.inside.copies.copies c.args.block))

pub returns-clause-kept : goal.returns-clause-kept
returns-clause-kept c = rw (← c.self.view_is) (kept-pending c.self.inside c.self.invariant)
