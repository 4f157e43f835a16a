use Rattle.std.specs.Prelude.{◌↔◌, ◌<◌, All, IsTrue}
use Rattle.std.specs.BTreeSet.{keys}
use Rattle.std.proofs.lemmas.Result.{IfOk-weaker}
use Rattle.journal_model.specs.declared.number.Area.TheVariants.{Home}
use Rattle.journal_model.specs.Disk.{reading}
use Rattle.log_model.specs.Opening.{numbered_below}
use Rattle.block_device.specs.Memory.{state_of}
use Rattle.script_run.specs.Verdict.{IsImageVerdict, IsRight}
use Rattle.script_run.proofs.Openings.{image-verdict}
use Rattle.script_run.proofs.opening.judge_image.Goals as goal

pub returns : goal.returns
returns g c =
    let recorded = c.args.recorded.now in
    let opened = c.in_ok-opened.opened in
    let named = c.args.named.now in
    IfOk-weaker c.judge_opened.result
    (λ right. All (λ b. b < opened.device.shape.home_blocks) (keys named.blocks)
    × (IsTrue right ↔ IsRight recorded.sealed.items recorded.acknowledged named (numbered_below opened.report.ends_at recorded.sealed.items) opened.device.shape.block_size (reading (state_of opened.device).disk Home)))
    (IsImageVerdict c.args.image.shape (reading (state_of c.args.image).disk) recorded.sealed.items recorded.acknowledged named)
    (λ right is. image-verdict recorded.sealed.items recorded.acknowledged named right c.args.image opened c.in_ok-opened.ensures.opened is.0 is.1)
    c.judge_opened.ensures
