use Rattle.std.proofs.Common.{refl}
use Rattle.std.proofs.lemmas.Result.{IfErr-weaker, IfOk-weaker}
use Rattle.shared_journal.proofs.Moments.{err-here, ok-here}
use Rattle.shared_journal.proofs.journal.Journal.keeps_copy.Goals as goal

-- The moment is that of the reconciled journal.
pub returns-clause-ok : goal.returns-clause-ok
returns-clause-ok g c =
    ok-here g.D.Device.state g.D.Device.honest g.J.JournalName.name c.deref.result.now c.deref.result.now c.keeps_copy.ensures.comes c.keeps_copy.result _
    (IfOk-weaker c.keeps_copy.result _ _ (λ kept told. (told, refl)) c.keeps_copy.ensures.ok)

pub returns-clause-why : goal.returns-clause-why
returns-clause-why g c =
    err-here g.D.Device.state g.D.Device.honest g.J.JournalName.name c.deref.result.now c.deref.result.now c.keeps_copy.ensures.comes c.keeps_copy.result _
    (IfErr-weaker c.keeps_copy.result _ _ (λ e why. (why, refl)) c.keeps_copy.ensures.err)
