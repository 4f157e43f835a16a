use Rattle.std.specs.Prelude.{◌↔◌, ◌<◌, All, IsTrue}
use Rattle.std.specs.BTreeSet.{keys}
use Rattle.std.proofs.lemmas.Result.{IfOk-weaker}
use Rattle.journal_model.specs.declared.number.Area.TheVariants.{Home}
use Rattle.journal_model.specs.Disk.{reading}
use Rattle.log_model.specs.Opening.{numbered_below}
use Rattle.block_device.specs.Memory.{state_of}
use Rattle.script_run.specs.Reopening.{IsOpeningVerdict, IsSecondVerdict}
use Rattle.script_run.specs.Verdict.{IsRight}
use Rattle.script_run.proofs.Openings.{verdict-once, verdict-twice}
use Rattle.script_run.proofs.reopening.judge_stopped_opening.Goals as goal

-- the opening was not stopped
pub returns-in-Whole : goal.returns-in-Whole
returns-in-Whole g c =
    let recorded = c.args.recorded.now in
    let opened = c.in-Whole.opened in
    let named = c.args.named.now in
    IfOk-weaker c.judge_opened.result
    (λ right. All (λ b. b < opened.device.shape.home_blocks) (keys named.blocks)
    × (IsTrue right ↔ IsRight recorded.sealed.items recorded.acknowledged named (numbered_below opened.report.ends_at recorded.sealed.items) opened.device.shape.block_size (reading (state_of opened.device).disk Home)))
    (IsOpeningVerdict (state_of c.args.image) c.args.k c.args.keep.now recorded.sealed.items recorded.acknowledged named)
    (λ right is.
    verdict-once recorded.sealed.items recorded.acknowledged named c.args.k c.args.keep.now right c.args.image c.report_of.new.device opened
    c.in_ok-first.ensures.device.stays (rw c.in-Whole.is at c.in_ok-opened.ensures.attempt) is.0 is.1)
    c.judge_opened.ensures

-- the opening was stopped
pub returns-in_ok-writeln-in-Stopped : goal.returns-in_ok-writeln-in-Stopped
returns-in_ok-writeln-in-Stopped g c =
    let recorded = c.args.recorded.now in
    let left = c.crash.result in
    let named = c.args.named.now in
    let first = c.in_ok-first.first in
    IfOk-weaker c.judge_second.result
    (IsSecondVerdict left.shape (reading (state_of left).disk) first.clean first.ends_at recorded.sealed.items recorded.acknowledged named)
    (IsOpeningVerdict (state_of c.args.image) c.args.k c.args.keep.now recorded.sealed.items recorded.acknowledged named)
    (λ right is.
    verdict-twice recorded.sealed.items recorded.acknowledged named c.args.k c.args.keep.now right first.clean first.ends_at first.transactions c.args.image c.report_of.new.device c.in-Stopped.device left
    c.in_ok-first.ensures.device.stays (c.in_ok-first.ensures.tells tt) (rw c.in-Stopped.is at c.in_ok-opened.ensures.attempt) c.crash.ensures.image c.crash.ensures.shape is)
    c.judge_second.ensures
