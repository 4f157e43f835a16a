use Rattle.std.proofs.Common.{subst}
use Rattle.std.proofs.lemmas.Result.{IfOk-weaker}
use Rattle.jbench_commands.specs.Runs.{HasTakenEither}
use Rattle.jbench_commands.proofs.obeying.check_file.Goals as goal

-- with the text that came
pub returns-in-Ok-clause-done : goal.returns-in-Ok-clause-done
returns-in-Ok-clause-done g c = IfOk-weaker c.check.result _ _ (λ status good fine. (c.in-Ok.ensures.path, subst HasTakenEither c.bytes.ensures (good fine))) c.check.ensures.good
