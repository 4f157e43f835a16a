use Rattle.std.proofs.Common.{◌≡◌, ℕ}
use Rattle.journal_model.specs.declared.refusal.JournalError.{JournalError}
use Rattle.journal_world.specs.Front.FrontEvent.{ExtendHandle}
use Rattle.journal_front.specs.Front.{ExtendRefused}
use Rattle.journal_steps.proofs.Kept.{kept-give}
use Rattle.journal_steps.proofs.LegalSteps.{kept_legal-give}
use Rattle.group_commit.proofs.known_front.KnownFront.give.Goals as goal

pub invariant_of-self : goal.invariant_of-self
invariant_of-self g c =
    let f = c.self.inside.front in
    let handle = c.args.handle.now in
    let n = c.args.credits in (
      kept-give f c.give.new.self (g.K.KnowsEngine.engine c.self.inside.engine).engine c.self.invariant.0 (λ (e : ℕ × JournalError). e.0 ≡ n)
          (λ (e : ℕ × JournalError). ExtendRefused f handle n e.1) (λ (e : ℕ × JournalError). c.give.new.handle ≡ handle) c.give.result handle.number n
          c.give.ensures.ok c.give.ensures.err,
      λ honest. kept_legal-give f c.give.new.self (c.self.invariant.1 honest) (λ (e : ℕ × JournalError). e.0 ≡ n)
          (λ (e : ℕ × JournalError). ExtendRefused f handle n e.1) (λ (e : ℕ × JournalError). c.give.new.handle ≡ handle) c.give.result
          (ExtendHandle handle.number n) c.give.ensures.ok c.give.ensures.err,
    )
