use Rattle.std.proofs.Common.{subst}
use Rattle.std.proofs.lemmas.Result.{IfOk-weaker}
use Rattle.script_threads.specs.Runs.{HasFoundFalse, HasServed}
use Rattle.crash_bench.proofs.obeying.threads_file.Goals as goal

-- the text that came was run
pub returns-in-Ok-clause-done : goal.returns-in-Ok-clause-done
returns-in-Ok-clause-done g c = IfOk-weaker c.threads.result _ _ (λ status served fine. (c.in-Ok.ensures.path, subst HasServed c.bytes.ensures (served fine))) c.threads.ensures.done

pub returns-in-Ok-clause-wrong : goal.returns-in-Ok-clause-wrong
returns-in-Ok-clause-wrong g c = IfOk-weaker c.threads.result _ _ (λ status found wrong. (c.in-Ok.ensures.path, subst HasFoundFalse c.bytes.ensures (found wrong))) c.threads.ensures.wrong
