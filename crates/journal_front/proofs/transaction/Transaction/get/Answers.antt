use Rattle.std.proofs.Common.{◌∙◌, ap, nat_eq}
use Rattle.std.specs.Map.{lookup}
use Rattle.journal_front.proofs.EntriesOfSteps.{lookup-effect}
use Rattle.journal_front.proofs.transaction.Transaction.get.Goals as goal

pub returns : goal.returns
returns g c =
    rw (← c.self.view_is)
    (c.get.ensures.value ∙ ap (lookup (nat_eq c.args.block)) (c.running.ensures ∙ c.self.invariant.entries_are) ∙ lookup-effect c.self.inside.known.steps c.args.block)
