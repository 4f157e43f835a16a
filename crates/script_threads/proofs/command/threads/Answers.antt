use Rattle.std.proofs.lemmas.Result.{IfOk-weaker}
use Rattle.script_threads.proofs.command.threads.Goals as goal

-- The script is that of the text.
pub returns-in-Ok-clause-done : goal.returns-in-Ok-clause-done
returns-in-Ok-clause-done g c =
    IfOk-weaker c.serve_script.result _ _ (λ status right fine. record { script = c.in-Ok.script; of_text = c.in-Ok.ensures.text; run = right fine }) c.serve_script.ensures.done

pub returns-in-Ok-clause-wrong : goal.returns-in-Ok-clause-wrong
returns-in-Ok-clause-wrong g c =
    IfOk-weaker c.serve_script.result _ _ (λ status found wrong. record { script = c.in-Ok.script; of_text = c.in-Ok.ensures.text; run = found wrong }) c.serve_script.ensures.wrong
