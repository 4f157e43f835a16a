use Rattle.std.proofs.Common.{None, Option, Some, ap, nat_eq, refl, ◌≡◌, ◌∙◌}
use Rattle.std.specs.Map.{lookup}
use Rattle.std.specs.Option.{option_or}
use Rattle.journal_model.specs.declared.entry.Entry.{Entry}
use Rattle.journal_model.specs.Transaction.{later}
use Rattle.journal_front.proofs.EntriesOfSteps.{lookup-effect}
use Rattle.journal_front.proofs.transaction.Transaction.newest.Goals as goal

-- the newer of two entries is the later one, if there is one
newer-later : (new old : Option Entry) → option_or new old ≡ later old new
newer-later None old = refl
newer-later (Some e) old = refl

pub returns : goal.returns
returns g c =
    let v = c.self.inside.versions in
    let own = ap (lookup (nat_eq c.args.block)) c.self.invariant.entries_are ∙ lookup-effect c.self.inside.known.steps c.args.block in
    rw (← c.self.view_is)
    (c.get.ensures ∙ newer-later (lookup (nat_eq c.args.block) v.running) (lookup (nat_eq c.args.block) v.committing)
    ∙ ap (later (lookup (nat_eq c.args.block) v.committing)) own)
