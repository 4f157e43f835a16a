use Rattle.std.proofs.Common.{List, ℕ, subst}
use Rattle.std.proofs.lemmas.Result.{IfOk-weaker}
use Rattle.jbench_commands.specs.Sweeps.{HasSwept}
use Rattle.jbench_commands.proofs.obeying.sweep_file.Goals as goal

-- with the text that came
pub returns-in-Ok-clause-done : goal.returns-in-Ok-clause-done
returns-in-Ok-clause-done g c =
    IfOk-weaker c.sweep.result _ _
    (λ status swept fine. (c.in-Ok.ensures.path, subst (λ (script : List ℕ). HasSwept script c.args.words.now.fails 0) c.bytes.ensures (swept.fine fine))) c.sweep.ensures

pub returns-in-Ok-clause-other : goal.returns-in-Ok-clause-other
returns-in-Ok-clause-other g c = IfOk-weaker c.sweep.result _ _ (λ status swept not. swept.other not) c.sweep.ensures
