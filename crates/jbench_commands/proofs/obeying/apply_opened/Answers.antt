use Rattle.jbench_commands.proofs.Ending.{ok-both}
use Rattle.jbench_commands.proofs.Obeyed.{over-two}
use Rattle.jbench_commands.proofs.obeying.apply_opened.Goals as goal

-- what a full success leaves
pub returns-in_ok-say_failure-in-Ok-clause-done : goal.returns-in_ok-say_failure-in-Ok-clause-done
returns-in_ok-say_failure-in-Ok-clause-done g c = λ fine.
    let found = ok-both _ _ c.in_ok-done-in-Ok.done (c.status_of_all.ensures.fine.0 fine) c.in_ok-done-in-Ok.ensures.done c.in_ok-done-in-Ok.ensures.closed in
    record {
      old = c.in-Ok.device;
      over = over-two c.args.files c.in-Ok.device c.in-Ok.ensures;
      left = found.0.device;
      sealed = found.0.sealed.items;
      shown = found.0.acknowledged;
      done = found.1;
      closed = found.2;
    }
