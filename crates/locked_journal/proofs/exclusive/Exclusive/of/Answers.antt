use Rattle.std.proofs.Common.{◌∙◌, ap, max, ℕ}
use Rattle.locked_journal.proofs.Knowing.{may-go_on}
use Rattle.locked_journal.proofs.AfterReconciling.{learns-know, reconciler-held, reconciled-learns}
use Rattle.locked_journal.proofs.Reaching.{from-reconciled}
use Rattle.locked_journal.proofs.exclusive.Exclusive.of.Goals as goal

-- Every holder's facts are preserved.
pub go_on-requires : goal.go_on-requires
go_on-requires g c =
    let old = c.locked.inside.journal in
    may-go_on c.locked.inside.recorded old.journal.front c.front.result.now c.into_single-journal.result.journal.front c.locked.invariant.1 c.front.ensures
    (learns-know old.journal.front c.into_single-journal.result.journal.front (reconciled-learns g.D.Device.state old c.args.engine c.into_single-journal.result c.into_single-journal.ensures.reconciled))

-- Nothing counted changes.
pub invariant_of-result : goal.invariant_of-result
invariant_of-result g c = (
  reconciler-held g.D.Device.state c.locked.inside.journal c.args.engine g.J.JournalName.name.capacity g.J.JournalName.name.shape c.locked.inside.credits c.locked.inside.raiser
      c.locked.invariant.0 c.into_single-journal.result c.raise.new.raiser (c.raise.ensures ∙ ap (λ (n : ℕ). max c.locked.inside.raiser n) c.mark-notified.ensures) c.into_single-journal.ensures.reconciled,
  c.go_on.ensures ∙ c.front.ensures,
  from-reconciled g.D.Device.state g.D.Device.honest g.J.JournalName.name c.locked.inside.journal c.args.engine c.locked.invariant.2 c.into_single-journal.ensures.before
      c.into_single-journal.result c.into_single-journal.ensures.reconciled,
)
