use Rattle.std.proofs.Common.{rules}
use Rattle.std.specs.BTreeSet.{keys}
use Rattle.std.proofs.lemmas.List.Elements.{All-cons, All-rest}
use Rattle.journal_model.specs.declared.number.Area.TheVariants.{Home}
use Rattle.journal_model.specs.Disk.{reading}
use Rattle.script_run.specs.LastEntries.{entry_in}
use Rattle.script_run.specs.Verdict.{IsLeft}
use Rattle.script_run.proofs.Judging.{IsLeft-stays}
use Rattle.script_run.proofs.verdict.are_left.Goals as goal

-- one more block is as it was left
pub loop-block-preserved : goal.loop-block-preserved
loop-block-preserved g c =
    let old = g.D.Device.state c.args.device.now in
    let mid = g.D.Device.state c.loop-block.device in
    let new = g.D.Device.state c.is_left.new.device in
    let block = c.in-Some.block.now in
    let before = c.loop-block.invariant in
    let step = c.in_ok-is_left.ensures in
    let last = entry_in c.args.last.now in
    let directs = keys c.args.named.now.directs in
    let P = IsLeft last directs old.shape.block_size (reading old.disk Home) in
    let list = c.in-Some.ensures.steps in (
      tt,
      tt,
      search rules,
      λ honest. before.3 (step.device.honest honest),
      λ honest rest.
          let right = IsLeft-stays last directs block old mid before.2 ((step.right honest).0 (search rules)) in
          before.4 (step.device.honest honest) (rw list (All-cons P block c.next.new.self right rest)),
      λ all. All-rest P block c.next.new.self _ list (before.5 all),
    )
