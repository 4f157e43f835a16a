use Rattle.std.proofs.Common.{◌∙◌, ap, max, ℕ}
use Rattle.locked_journal.proofs.Knowing.{may-go_on}
use Rattle.locked_journal.proofs.AfterReconciling.{learns-know, reconciler-held, reconciled-learns}
use Rattle.locked_journal.proofs.Reaching.{from-reconciled}
use Rattle.locked_journal.proofs.locked.Locked.reconcile.Goals as goal

-- Every holder's facts are preserved.
pub go_on-requires : goal.go_on-requires
go_on-requires g c =
    let old = c.self.inside.journal in
    may-go_on c.self.inside.recorded old.journal.front c.front.result.now c.reconcile.new.front.journal.front c.self.invariant.1 c.front.ensures
    (learns-know old.journal.front c.reconcile.new.front.journal.front (reconciled-learns g.D.Device.state old c.args.engine.now c.reconcile.new.front c.reconcile.ensures.reconciled))

-- Nothing counted changes.
pub invariant_of-self : goal.invariant_of-self
invariant_of-self g c = (
  reconciler-held g.D.Device.state c.self.inside.journal c.args.engine.now g.J.JournalName.name.capacity g.J.JournalName.name.shape c.self.inside.credits c.self.inside.raiser
      c.self.invariant.0 c.reconcile.new.front c.raise.new.raiser (c.raise.ensures ∙ ap (λ (n : ℕ). max c.self.inside.raiser n) c.mark-notified.ensures) c.reconcile.ensures.reconciled,
  c.go_on.ensures ∙ c.front.ensures,
  from-reconciled g.D.Device.state g.D.Device.honest g.J.JournalName.name c.self.inside.journal c.args.engine.now c.self.invariant.2 c.reconcile.ensures.before c.reconcile.new.front
      c.reconcile.ensures.reconciled,
)
