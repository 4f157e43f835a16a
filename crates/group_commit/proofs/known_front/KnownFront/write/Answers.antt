use Rattle.std.proofs.Common.{◌≡◌}
use Rattle.journal_model.specs.declared.refusal.JournalError.{JournalError}
use Rattle.journal_front.specs.Front.{TouchRefused}
use Rattle.journal_steps.proofs.Kept.{kept-write}
use Rattle.journal_steps.proofs.LegalSteps.{kept_legal-touch}
use Rattle.journal_world.specs.Front.FrontEvent.{WriteBlock}
use Rattle.group_commit.proofs.known_front.KnownFront.write.Goals as goal

pub invariant_of-self : goal.invariant_of-self
invariant_of-self g c =
    let f = c.self.inside.front in
    let handle = c.args.handle.now in (
      kept-write f c.write.new.self (g.K.KnowsEngine.engine c.self.inside.engine).engine c.self.invariant.0 (λ (e : JournalError). TouchRefused f handle c.args.block e)
          (λ (e : JournalError). c.write.new.handle ≡ handle) c.write.result handle.number c.args.block c.args.bytes.now
          c.recall_invariant.ensures.plain.layout.1 c.write.ensures.ok c.write.ensures.err,
      λ honest. kept_legal-touch f c.write.new.self (c.self.invariant.1 honest) (λ (e : JournalError). TouchRefused f handle c.args.block e) (λ (e : JournalError). c.write.new.handle ≡ handle) c.write.result (WriteBlock handle.number c.args.block c.args.bytes.now) c.write.ensures.ok c.write.ensures.err,
    )
