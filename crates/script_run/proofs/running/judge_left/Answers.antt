use Rattle.std.proofs.Common.{ℕ, sym, subst}
use Rattle.std.specs.Prelude.{Option, Some}
use Rattle.std.proofs.lemmas.Result.{IfOk-weaker}
use Rattle.block_device.specs.Memory.{state_of}
use Rattle.script_run.specs.Left.{IsLeftVerdict, IsVerdictBy}
use Rattle.script_run.specs.Reopening.{IsOpeningVerdict}
use Rattle.script_run.proofs.Openings.{left-verdict}
use Rattle.script_run.proofs.running.judge_left.Goals as goal

-- the dump only read the image, so the verdict is on what was left
pub returns-in-Some : goal.returns-in-Some
returns-in-Some g c =
    let left = c.args.left in
    let mid = c.dump.new.device in
    let keep = c.args.opening.keep.now in
    let sealed = left.recorded.sealed.items in
    let shown = left.recorded.acknowledged in
    let named = c.args.named.now in
    IfOk-weaker c.judge_stopped_opening.result (IsOpeningVerdict (state_of mid) c.in-Some.k keep sealed shown named) (IsLeftVerdict left.image c.args.opening sealed shown named)
    (λ right is. subst (λ (at : Option ℕ). IsVerdictBy at keep left.image sealed shown named right) (sym c.in-Some.is)
    (left-verdict (Some c.in-Some.k) keep left.image mid sealed shown named right c.dump.ensures.device.stays is)) c.judge_stopped_opening.ensures
