use Rattle.std.proofs.Common.{◌≡◌, true}
use Rattle.journal_model.specs.declared.refusal.JournalError.{JournalError}
use Rattle.journal_model.specs.declared.refusal.JournalError.TheVariants.{Aborted}
use Rattle.journal_steps.proofs.Kept.{kept-request, requested}
use Rattle.journal_steps.proofs.LegalSteps.{kept_legal-request}
use Rattle.group_commit.proofs.known_front.KnownFront.request_commit.Goals as goal

pub returns-clause-ok : goal.returns-clause-ok
returns-clause-ok g c =
    rw (← c.self.view_is) (requested g.D.Device.state c.request_commit.result c.args.tid c.self.inside.front c.request_commit.new.self (g.K.KnowsEngine.engine c.self.inside.engine) c.request_commit.ensures.ok)

pub invariant_of-self : goal.invariant_of-self
invariant_of-self g c =
    let f = c.self.inside.front in
    let why = λ (e : JournalError). e ≡ Aborted in
    let rest = λ (e : JournalError). f.aborted ≡ true in (
      kept-request f c.request_commit.new.self (g.K.KnowsEngine.engine c.self.inside.engine).engine c.self.invariant.0 why rest c.request_commit.result c.args.tid
          c.request_commit.ensures.ok c.request_commit.ensures.err,
      λ honest. kept_legal-request f c.request_commit.new.self (c.self.invariant.1 honest) why rest c.request_commit.result c.args.tid
          c.request_commit.ensures.ok c.request_commit.ensures.err,
    )
