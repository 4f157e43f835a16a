use Rattle.std.proofs.Common.{◌≡◌, ℕ}
use Rattle.journal_model.specs.declared.refusal.JournalError.{JournalError}
use Rattle.journal_world.specs.Front.{next_handle}
use Rattle.journal_front.specs.Front.{JoinRefused}
use Rattle.journal_front.specs.Values.{HandleValue}
use Rattle.journal_steps.proofs.Kept.{kept-join_with}
use Rattle.journal_steps.proofs.LegalSteps.{kept_legal-join_with}
use Rattle.group_commit.proofs.known_front.KnownFront.try_join.Goals as goal

pub invariant_of-self : goal.invariant_of-self
invariant_of-self g c =
    let f = c.self.inside.front in
    let n = c.args.credits in (
      kept-join_with f c.join_with.new.self (g.K.KnowsEngine.engine c.self.inside.engine).engine c.self.invariant.0
          (λ (handle : HandleValue). handle ≡ record { number = next_handle f; tid = f.running.tid; left = n }) (λ (e : ℕ × JournalError). e.0 ≡ n)
          (λ (e : ℕ × JournalError). JoinRefused f n e.1) c.join_with.result n c.join_with.ensures.ok c.join_with.ensures.err,
      λ honest. kept_legal-join_with f c.join_with.new.self (c.self.invariant.1 honest) (λ (handle : HandleValue). handle ≡ record { number = next_handle f; tid = f.running.tid; left = n }) (λ (e : ℕ × JournalError). e.0 ≡ n)
          (λ (e : ℕ × JournalError). JoinRefused f n e.1) c.join_with.result n c.join_with.ensures.ok c.join_with.ensures.err,
    )
