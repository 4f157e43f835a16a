use Rattle.std.proofs.Common.{refl}
use Rattle.journal_steps.proofs.Kept.{kept-give_back}
use Rattle.journal_steps.proofs.LegalSteps.{kept_legal-give_back}
use Rattle.group_commit.proofs.known_front.KnownFront.give_back.Goals as goal

pub returns-clause-gives : goal.returns-clause-gives
returns-clause-gives g c =
    rw (← c.self.view_is) (λ granted. record { front = c.take_back.ensures.granted granted; engine = refl; disk_is = refl })

pub invariant_of-self : goal.invariant_of-self
invariant_of-self g c = (
  kept-give_back c.self.inside.front c.take_back.new.self (g.K.KnowsEngine.engine c.self.inside.engine).engine c.self.invariant.0 _ c.take_back.ensures.granted
      c.take_back.ensures.other,
  λ honest. kept_legal-give_back c.self.inside.front c.take_back.new.self (c.self.invariant.1 honest) _ c.take_back.ensures.granted c.take_back.ensures.other,
)
