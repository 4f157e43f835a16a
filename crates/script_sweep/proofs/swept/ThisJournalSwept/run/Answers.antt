use Rattle.std.specs.Prelude.{List, ℕ}
use Rattle.std.proofs.lemmas.Result.{IfOk-weaker}
use Rattle.block_device.specs.Memory.{state_of}
use Rattle.script_client.specs.Told.{IsLedTo, IsZeroHome}
use Rattle.script_run.specs.Left.{HasRunAnew, IsStoppedBy}
use Rattle.script_run.specs.declared.running.StoppedRun.{StoppedRun}
use Rattle.script_sweep.specs.Swept.{HasRun}
use Rattle.script_sweep.proofs.Sweeps.{both-ok}
use Rattle.script_sweep.proofs.swept.ThisJournalSwept.run.Goals as goal

pub returns : goal.returns
returns c =
    let Led : StoppedRun → Type 0 = λ stopped.
    IsLedTo IsZeroHome c.args.script.now.operations.items (state_of stopped.device) stopped.recorded.sealed.items stopped.recorded.acknowledged in
    let Anew : StoppedRun → Type 0 = λ stopped.
    (lines : List ℕ) × HasRunAnew c.args.script.now c.args.stop c.args.failing_call stopped.device stopped.recorded.sealed.items stopped.recorded.acknowledged lines in
    both-ok c.run_operations.result (λ stopped. Led stopped × Anew stopped) (IsStoppedBy c.args.stop)
    (λ stopped. Unit {0} → HasRun c.args.script.now c.args.stop c.args.failing_call stopped)
    (λ stopped both stops keeps. record { led = both.0; lines = both.1.0; outcomes = both.1.1; stops = stops })
    (both-ok c.run_operations.result Led Anew (λ stopped. Led stopped × Anew stopped) (λ stopped led anew. (led, anew)) c.run_operations.ensures.led
    (IfOk-weaker c.run_operations.result _ Anew (λ stopped writes. (writes.lines, writes.are)) c.run_operations.ensures.outcomes))
    c.run_operations.ensures.stop
