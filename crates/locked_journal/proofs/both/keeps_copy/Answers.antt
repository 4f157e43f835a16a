use Rattle.std.proofs.Common.{◌∙◌, subst, sym}
use Rattle.std.specs.Prelude.{IfErr, IfOk}
use Rattle.journal_steps.specs.Journal.{Agrees}
use Rattle.journal_steps.specs.Unreleased.{KeptUntold, TellsKept}
use Rattle.journal_steps.specs.Values.{JournalValue}
use Rattle.locked_journal.proofs.Landing.{mid-is}
use Rattle.locked_journal.proofs.both.keeps_copy.Goals as goal

-- Both sides are the front's journal, in which they agree.
pub keeps_copy-requires : goal.keeps_copy-requires
keeps_copy-requires g c =
    let same = mid-is c.front.inside.front c.front.inside.engine c.engine.inside.engine c.args.engine.now c.args.front.now c.front.view_is (sym c.requires) c.engine.view_is in
    subst (λ (v : JournalValue g.row.D.Denot). Agrees v.journal) (c.front.view_is ∙ sym same) c.front.invariant.0

pub returns-clause-ok : goal.returns-clause-ok
returns-clause-ok g c =
    let same = mid-is c.front.inside.front c.front.inside.engine c.engine.inside.engine c.args.engine.now c.args.front.now c.front.view_is (sym c.requires) c.engine.view_is in
    subst (λ (v : JournalValue g.row.D.Denot). IfOk c.keeps_copy.result (TellsKept v.journal c.args.block)) same c.keeps_copy.ensures.ok

pub returns-clause-err : goal.returns-clause-err
returns-clause-err g c =
    let same = mid-is c.front.inside.front c.front.inside.engine c.engine.inside.engine c.args.engine.now c.args.front.now c.front.view_is (sym c.requires) c.engine.view_is in
    subst (λ (v : JournalValue g.row.D.Denot). IfErr c.keeps_copy.result (KeptUntold v.journal c.args.block)) same c.keeps_copy.ensures.err
