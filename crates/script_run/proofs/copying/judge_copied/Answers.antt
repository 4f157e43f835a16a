use Rattle.std.proofs.lemmas.Result.{IfOk-weaker}
use Rattle.script_run.specs.Left.{IsLeftVerdict}
use Rattle.script_run.proofs.Openings.{left-verdict, only-read-stays}
use Rattle.script_run.proofs.copying.judge_copied.Goals as goal

-- the copy only read the image, so the verdict is on what was left
pub returns-clause-verdict : goal.returns-clause-verdict
returns-clause-verdict g c =
    let left = c.args.left in
    let mid = c.copy_image.new.image in
    let opening = c.args.opening in
    let sealed = left.recorded.sealed.items in
    let shown = left.recorded.acknowledged in
    let named = c.args.named.now in
    IfOk-weaker c.judge_left.result (IsLeftVerdict mid opening sealed shown named) (IsLeftVerdict left.image opening sealed shown named)
    (λ right is. left-verdict opening.at_write opening.keep.now left.image mid sealed shown named right (only-read-stays left.image mid c.copy_image.ensures.same) is) c.judge_left.ensures
