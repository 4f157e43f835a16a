use Rattle.std.proofs.Common.{ℕ, subst, sym}
use Rattle.std.specs.Prelude.{Some}
use Rattle.block_device.specs.Memory.{MemState, state_of}
use Rattle.journal_model.specs.Disk.{reading}
use Rattle.script_run.specs.OpenedImages.{IsOpenedImage, IsUnopened}
use Rattle.script_sweep.specs.Sweeping.{IsJudged}
use Rattle.script_sweep.specs.Sweeping.IsJudged.{IsOpened, IsRefused}
use Rattle.script_sweep.proofs.judging.Ran.judge_image.Goals as goal

-- a copy of the image was opened, and the verdict on it is counted
pub returns-in_ok-judge_first-in-Ok : goal.returns-in_ok-judge_first-in-Ok
returns-in_ok-judge_first-in-Ok g c =
    let new = c.judge_first.new.not_right in
    let of : ℕ → _ = λ writes. record { report = c.in-Ok.opened.report; writes = writes } in
    subst (λ (writes : ℕ). IsJudged g.J.Swept.keeps c.args.self.now.stopped.now c.args.self.now.named.now c.args.image.now c.args.not_right.now (Some (of writes)) new) (sym c.writes.ensures)
    (IsOpened c.in-Ok.opened new
    (λ keeps. subst (λ (m : MemState). IsOpenedImage m.shape (state_of m).disk c.in-Ok.opened) c.in_ok-copy_of.ensures (c.in-Ok.ensures.opened keeps))
    c.in_ok-judge_first-in-Ok.ensures)

-- or it is refused, and that is counted
pub returns-in_ok-note_refusal-in-Err : goal.returns-in_ok-note_refusal-in-Err
returns-in_ok-note_refusal-in-Err g c =
    IsRefused c.in-Err.e c.note_refusal.new.not_right
    (λ keeps. subst (λ (m : MemState). IsUnopened m.shape (reading (state_of m).disk) c.in-Err.e) c.in_ok-copy_of.ensures (c.in-Err.ensures.err keeps))
    c.in_ok-note_refusal-in-Err.ensures
