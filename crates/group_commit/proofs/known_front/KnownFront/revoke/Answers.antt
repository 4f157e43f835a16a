use Rattle.std.proofs.Common.{◌≡◌}
use Rattle.journal_model.specs.declared.refusal.JournalError.{JournalError}
use Rattle.journal_front.specs.Front.{TouchRefused}
use Rattle.journal_steps.proofs.Kept.{kept-revoke}
use Rattle.journal_steps.proofs.LegalSteps.{kept_legal-touch}
use Rattle.journal_world.specs.Front.FrontEvent.{RevokeBlock}
use Rattle.group_commit.proofs.known_front.KnownFront.revoke.Goals as goal

pub invariant_of-self : goal.invariant_of-self
invariant_of-self g c =
    let f = c.self.inside.front in
    let handle = c.args.handle.now in (
      kept-revoke f c.revoke.new.self (g.K.KnowsEngine.engine c.self.inside.engine).engine c.self.invariant.0 (λ (e : JournalError). TouchRefused f handle c.args.block e)
          (λ (e : JournalError). c.revoke.new.handle ≡ handle) c.revoke.result handle.number c.args.block c.revoke.ensures.ok c.revoke.ensures.err,
      λ honest. kept_legal-touch f c.revoke.new.self (c.self.invariant.1 honest) (λ (e : JournalError). TouchRefused f handle c.args.block e) (λ (e : JournalError). c.revoke.new.handle ≡ handle) c.revoke.result (RevokeBlock handle.number c.args.block) c.revoke.ensures.ok c.revoke.ensures.err,
    )
