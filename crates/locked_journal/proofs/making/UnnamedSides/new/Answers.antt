use Rattle.std.proofs.Common.{◌≡◌, sym, subst}
use Rattle.journal_world.specs.Journal.{IsFresh}
use Rattle.log_epochs.specs.JournalWorld.{Begins}
use Rattle.journal_steps.specs.Journal.{Agrees}
use Rattle.journal_steps.specs.Legal.{KeepsLegal}
use Rattle.journal_steps.specs.Values.{JournalValue}
use Rattle.group_commit.specs.Begun.{world_of_new}
use Rattle.locked_journal.proofs.making.UnnamedSides.new.Goals as goal

-- Front and engine agree, as they did in one journal.
pub invariant_of-result : goal.invariant_of-result
invariant_of-result g c =
    subst (λ (v : JournalValue g.row.D.Denot). Agrees v.journal × KeepsLegal g.D.Device.honest v) (sym c.into_sides-front.ensures.sides)
    (c.into_sides-front.ensures.agrees, c.into_sides-front.ensures.legal)

pub returns-clause-fresh : goal.returns-clause-fresh
returns-clause-fresh g c =
    subst (λ (v : JournalValue g.row.D.Denot). IsFresh (g.D.Device.state c.args.opened.device).shape c.args.opened.superblock c.args.opened.next v.journal)
    (sym c.into_sides-front.ensures.sides) c.in_ok-journal.ensures.fresh

pub returns-clause-device : goal.returns-clause-device
returns-clause-device g c =
    subst (λ (v : JournalValue g.row.D.Denot). v.device ≡ c.args.opened.device) (sym c.into_sides-front.ensures.sides) c.in_ok-journal.ensures.device

-- If reads were correct, a run begins there.
pub returns-clause-begins : goal.returns-clause-begins
returns-clause-begins g c =
    subst (λ (v : JournalValue g.row.D.Denot). g.D.Device.honest c.args.opened.device → Begins (world_of_new g.D.Device.state c.args.opened.device v))
    (sym c.into_sides-front.ensures.sides) c.in_ok-journal.ensures.begins
