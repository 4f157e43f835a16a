use Rattle.std.proofs.lemmas.Result.{IfOk-weaker}
use Rattle.script_run.proofs.running.run_operations.Goals as goal

-- the run is on the empty log
pub returns-clause-outcomes : goal.returns-clause-outcomes
returns-clause-outcomes g c =
    IfOk-weaker c.run_operations_over.result _ _
    (λ stopped writes. record {
      lines = writes.lines;
      said = writes.said;
      are = record { opened = c.in_ok-opened.opened; anew = c.in_ok-opened.ensures.anew; zero = c.in_ok-opened.ensures.home; run = rw (← c.after_failing-after.ensures, ← c.deref.ensures.value) writes.are };
    })
    c.run_operations_over.ensures.outcomes
