use Rattle.std.specs.Prelude.{◌↔◌, ◌<◌, All, IsTrue}
use Rattle.std.specs.BTreeSet.{keys}
use Rattle.std.proofs.lemmas.Result.{IfOk-weaker}
use Rattle.journal_model.specs.declared.number.Area.TheVariants.{Home}
use Rattle.journal_model.specs.Disk.{reading}
use Rattle.log_model.specs.Opening.{numbered_below}
use Rattle.block_device.specs.Memory.{state_of}
use Rattle.script_run.specs.Reopening.{FollowsOn, IsSecondVerdict}
use Rattle.script_run.specs.Verdict.{IsRight}
use Rattle.script_run.proofs.Openings.{second-verdict}
use Rattle.script_run.proofs.reopening.judge_second.Goals as goal

pub returns : goal.returns
returns g c =
    let recorded = c.args.recorded.now in
    let first = c.args.first in
    let opened = c.in_ok-opened.opened in
    let named = c.args.named.now in
    IfOk-weaker c.judge_reopened.result
    (λ right. All (λ b. b < opened.device.shape.home_blocks) (keys named.blocks) × (IsTrue right ↔ FollowsOn first.clean first.ends_at opened.report.clean opened.report.ends_at
    × IsRight recorded.sealed.items recorded.acknowledged named (numbered_below first.ends_at recorded.sealed.items) opened.device.shape.block_size (reading (state_of opened.device).disk Home)))
    (IsSecondVerdict c.args.left.shape (reading (state_of c.args.left).disk) first.clean first.ends_at recorded.sealed.items recorded.acknowledged named)
    (λ right is. second-verdict recorded.sealed.items recorded.acknowledged named right c.args.left opened first c.in_ok-opened.ensures.opened is.0 is.1)
    c.judge_reopened.ensures
