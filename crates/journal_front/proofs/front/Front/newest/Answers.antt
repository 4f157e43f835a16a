use Rattle.std.proofs.Common.{sym, ◌∙◌}
use Rattle.journal_front.specs.FrontView.{front_of}
use Rattle.journal_front.proofs.Unfinished.{unfinished-effect}
use Rattle.journal_front.proofs.front.Front.newest.Goals as goal

-- the newer entry of a block is the last effect of the unfinished transactions
pub returns : goal.returns
returns g c =
    let f = front_of g.R.Record.transactions c.self.inside in
    rw (← c.self.view_is) (c.newest.ensures ∙ sym (unfinished-effect f c.self.inside.running.committing c.args.block c.self.invariant.committing_are))
