use Rattle.std.proofs.lemmas.Result.{IfOk-weaker}
use Rattle.jbench_commands.proofs.Ending.{is-taken}
use Rattle.jbench_commands.proofs.check.check.Goals as goal

-- the script is good
pub returns-clause-good : goal.returns-clause-good
returns-clause-good g c =
    IfOk-weaker c.print.result _ _ (λ status good fine. is-taken c.args.text.now c.read_either-read.result c.read_either-read.ensures (good fine)) c.print.ensures.good
