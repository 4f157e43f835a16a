use Rattle.std.proofs.Common.{inl, inr, refl}
use Rattle.std.proofs.lemmas.Bool.{cases_Bool}
use Rattle.journal_steps.proofs.Kept.{kept-stop}
use Rattle.journal_steps.proofs.LegalSteps.{kept_legal-stop}
use Rattle.group_commit.proofs.journal.Journal+D+R.stop_first.Goals as goal

pub returns-clause-some : goal.returns-clause-some
returns-clause-some g c =
    rw (← c.self.view_is) (λ is.
    let one = c.stop_first.ensures.some is in
    record { handle = one.handle; stops = record { front = one.stops; engine = refl; disk_is = refl }; fewer = one.fewer; device = refl })

pub invariant_of-self : goal.invariant_of-self
invariant_of-self g c =
    let old = c.self.inside.front in
    let new = c.stop_first.new.self in
    let e = c.self.inside.engine.engine in
    elim (cases_Bool c.stop_first.result) [
      | inl was ↦
          let one = c.stop_first.ensures.some was in (
            kept-stop old new e c.self.invariant.0 one.handle (inl one.stops),
            λ honest. kept_legal-stop old new (c.self.invariant.1 honest) one.handle (inl one.stops),
          )
      | inr none ↦
          let same = (c.stop_first.ensures.none none).1 in (
            kept-stop old new e c.self.invariant.0 0 (inr same),
            λ honest. kept_legal-stop old new (c.self.invariant.1 honest) 0 (inr same),
          )
    ]
