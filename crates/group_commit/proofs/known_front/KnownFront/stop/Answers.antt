use Rattle.std.proofs.Common.{refl}
use Rattle.journal_steps.proofs.Kept.{kept-stop}
use Rattle.journal_steps.proofs.LegalSteps.{kept_legal-stop}
use Rattle.group_commit.proofs.known_front.KnownFront.stop.Goals as goal

pub returns-clause-stops : goal.returns-clause-stops
returns-clause-stops g c = rw (← c.self.view_is) (λ is. record { front = c.stop_handle.ensures.stops is; engine = refl; disk_is = refl })

pub invariant_of-self : goal.invariant_of-self
invariant_of-self g c = (
  kept-stop c.self.inside.front c.stop_handle.new.self (g.K.KnowsEngine.engine c.self.inside.engine).engine c.self.invariant.0 c.args.handle.number c.stop_handle.ensures.either,
  λ honest. kept_legal-stop c.self.inside.front c.stop_handle.new.self (c.self.invariant.1 honest) c.args.handle.number c.stop_handle.ensures.either,
)
