use Rattle.std.proofs.Common.{◌≡◌, true}
use Rattle.std.proofs.lemmas.Result.{IfOk-weaker}
use Rattle.script_run.specs.Left.{IsLeftVerdict, IsRunOf}
use Rattle.script_run.proofs.Ends.{end-of-run}
use Rattle.script_run.proofs.Verdicts.{run-right}
use Rattle.script_run.proofs.running.run.Goals as goal

-- the run was led to what is judged
pub returns-clause-run : goal.returns-clause-run
returns-clause-run g c =
    let stopped = c.in_ok-stopped.ensures in
    let left = c.crash-left.result in
    let named = c.in_ok-named.named in
    let end =
    end-of-run c.args.script.now c.args.stops.now.run c.args.stops.now.failing_call c.in_ok-stopped.stopped left named stopped.outcomes.lines stopped.led stopped.outcomes.are stopped.stop
    (record { each = c.crash-left.ensures.image; shape_is = c.crash-left.ensures.shape }) c.crash-left.ensures.recorded c.in_ok-named.ensures in
    IfOk-weaker c.judge_left.result
    (IsLeftVerdict left.image c.args.stops.now.opening left.recorded.sealed.items left.recorded.acknowledged named)
    (IsRunOf c.args.script.now c.args.stops.now)
    (λ right verdict. record {
      image = left.image;
      run = record { sealed = left.recorded.sealed.items; shown = left.recorded.acknowledged; named = named; end = end; verdict = verdict };
    })
    c.judge_left.ensures

-- so the verdict is ok
pub returns-clause-right : goal.returns-clause-right
returns-clause-right g c =
    IfOk-weaker c.judge_left.result (IsRunOf c.args.script.now c.args.stops.now) (λ right. right ≡ true)
    (λ right is. run-right c.args.script.now c.args.stops.now is.image right is.run) (returns-clause-run g c)
