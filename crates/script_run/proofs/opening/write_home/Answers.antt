use Rattle.std.proofs.Common.{rules, ◌<◌, subst, ℕ}
use Rattle.std.proofs.lemmas.List.Elements.{All-cons}
use Rattle.journal_model.specs.Disk.{Shape}
use Rattle.script_run.proofs.opening.write_home.Goals as goal

-- one more block is there
pub loop-block-preserved : goal.loop-block-preserved
loop-block-preserved g c =
    let old = g.D.Device.state c.args.device.now in
    let block = c.in-Some.block.now in
    let before = c.loop-block.invariant in
    let P : ℕ → Type 0 = λ b. b < old.shape.home_blocks in
    let here = subst (λ (s : Shape). block < s.home_blocks) before.2.shape c.in_ok-write_block.ensures.there in
    let list = c.in-Some.ensures.steps in (
      tt,
      tt,
      search rules,
      λ rest. before.3 (rw list (All-cons P block c.next.new.self here rest)),
    )
