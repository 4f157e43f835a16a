use Rattle.std.proofs.Common.{sym, subst}
use Rattle.script_run.specs.declared.verdict.RunRecord.{RunRecord}
use Rattle.script_run.specs.Left.{HasRun}
use Rattle.script_run.proofs.running.run_operations_over.Goals as goal

-- the operations left the disk inside the device
pub returns-then-is_stopped_by-clause-outcomes : goal.returns-then-is_stopped_by-clause-outcomes
returns-then-is_stopped_by-clause-outcomes g c =
    let writes = c.in_ok-performed.ensures.outcomes in
    record {
      lines = writes.lines;
      said = writes.said;
      are =
          subst (λ (r : RunRecord). HasRun c.args.opened c.args.operations.now c.args.after c.stopped_of-stopped.result.device r.sealed.items r.acknowledged writes.lines)
          (sym c.stopped_of-stopped.ensures.recorded) (record { over = c.in_ok-performed.performed.device; performs = writes.are; behind = c.stopped_of-stopped.ensures.behind });
    }
