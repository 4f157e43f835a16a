use Rattle.std.proofs.Common.{◌≡◌, ℕ}
use Rattle.journal_model.specs.declared.refusal.JournalError.{JournalError}
use Rattle.journal_front.specs.Front.{ReserveRefused}
use Rattle.journal_steps.proofs.Kept.{kept-reserve}
use Rattle.journal_steps.proofs.LegalSteps.{kept_legal-reserve}
use Rattle.group_commit.proofs.known_front.KnownFront.reserve.Goals as goal

pub invariant_of-self : goal.invariant_of-self
invariant_of-self g c =
    let f = c.self.inside.front in (
      kept-reserve f c.reserve.new.self (g.K.KnowsEngine.engine c.self.inside.engine).engine c.self.invariant.0 (λ (credits : ℕ). credits ≡ c.args.n)
          (λ (e : JournalError). ReserveRefused f c.args.n e) c.reserve.result c.args.n c.reserve.ensures.ok c.reserve.ensures.err,
      λ honest. kept_legal-reserve f c.reserve.new.self (c.self.invariant.1 honest) (λ (credits : ℕ). credits ≡ c.args.n) (λ (e : JournalError). ReserveRefused f c.args.n e) c.reserve.result c.args.n c.reserve.ensures.ok c.reserve.ensures.err,
    )
