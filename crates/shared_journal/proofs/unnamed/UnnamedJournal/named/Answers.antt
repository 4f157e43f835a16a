use Rattle.std.proofs.Common.{◌∙◌, ap, subst, sym}
use Rattle.handle.specs.Name.{JournalId}
use Rattle.journal_steps.specs.Values.{JournalValue}
use Rattle.locked_journal.specs.Begun.{ComesFrom}
use Rattle.shared_journal.specs.Unnamed.{UnnamedValue}
use Rattle.shared_journal.proofs.Beginning.{comes-unnamed}
use Rattle.shared_journal.proofs.unnamed.UnnamedJournal.named.Goals as goal

-- The journal is its own beginning.
pub of-locked-requires-clause-comes : goal.of-locked-requires-clause-comes
of-locked-requires-clause-comes g c =
    let state = g.D.Device.state in
    let honest = g.D.Device.honest in
    let named = ap (λ (u : UnnamedValue g.row.D.Denot). u.name) c.self.view_is ∙ c.requires.name in
    subst (λ (v : JournalValue g.row.D.Denot). ComesFrom state honest g.J.JournalName.name v) (sym c.named-reconciler.ensures.front)
    (subst (λ (n : JournalId). ComesFrom state honest n c.self.inside.sides.journal) named
    (comes-unnamed state honest c.self.inside.board c.self.inside.knowing c.self.inside.direct c.self.inside.sides c.self.invariant.1))
