use Rattle.std.proofs.lemmas.Result.{IfOk-weaker}
use Rattle.script_threads.proofs.command.serve_script.Goals as goal

-- The script was run, with these verdicts.
pub returns-in-Ok-Judged-clause-done : goal.returns-in-Ok-Judged-clause-done
returns-in-Ok-Judged-clause-done g c =
    let ran = rw c.in-Ok-Judged.field-0-is at c.in-Ok-Judged.ensures in
    IfOk-weaker c.print_verdicts.result _ _ (λ status right fine. record { v = c.in-Ok-Judged.verdicts; run = ran; right = right fine }) c.print_verdicts.ensures.fine

pub returns-in-Ok-Judged-clause-wrong : goal.returns-in-Ok-Judged-clause-wrong
returns-in-Ok-Judged-clause-wrong g c =
    let ran = rw c.in-Ok-Judged.field-0-is at c.in-Ok-Judged.ensures in
    IfOk-weaker c.print_verdicts.result _ _ (λ status wrong false_one. record { v = c.in-Ok-Judged.verdicts; run = ran; wrong = wrong false_one }) c.print_verdicts.ensures.wrong
