use Rattle.std.proofs.Common.{refl, subst}
use Rattle.std.proofs.lemmas.Result.{IfOk-weaker}
use Rattle.journal_model.specs.Disk.{reading}
use Rattle.block_device.specs.Memory.{state_of}
use Rattle.script_run.specs.declared.verdict.RunRecord.{RunRecord}
use Rattle.script_run.specs.Verdict.{IsImageVerdict, IsVerdict}
use Rattle.script_run.proofs.Judging.{IsVerdict-from}
use Rattle.script_run.proofs.running.judge.Goals as goal

pub returns : goal.returns
returns g c =
    let left = c.crash.result in
    let stopped = c.args.stopped in
    let named = c.args.named.now in
    IfOk-weaker c.judge_left.result
    (IsImageVerdict left.image.shape (reading (state_of left.image).disk) left.recorded.sealed.items left.recorded.acknowledged named)
    (IsVerdict stopped.device c.args.keep.now stopped.recorded.sealed.items stopped.recorded.acknowledged named)
    (λ right verdict.
    subst (λ (r : RunRecord). IsVerdict stopped.device c.args.keep.now r.sealed.items r.acknowledged named right) c.crash.ensures.recorded
    (IsVerdict-from stopped.device c.args.keep.now left.recorded.sealed.items left.recorded.acknowledged named right
    left.image left.image c.crash.ensures.image c.crash.ensures.shape (record { shape = refl; disk = refl; past = refl }) verdict))
    c.judge_left.ensures
