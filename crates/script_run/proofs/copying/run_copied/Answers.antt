use Rattle.std.proofs.Common.{◌≡◌, inr, true}
use Rattle.std.specs.Prelude.{Result, Ok, Err, IfOk}
use Rattle.std.proofs.lemmas.Result.{IfOk-weaker}
use Rattle.script_run.specs.Copying.{IsCopiedRun, IsCopy}
use Rattle.script_run.specs.Left.{IsLeftVerdict}
use Rattle.script_run.proofs.Ends.{end-of-run}
use Rattle.script_run.proofs.Verdicts.{run-right}
use Rattle.script_run.proofs.copying.run_copied.Goals as goal

-- two facts about the same answer
both : {T E : Type 0} (r : Result T E) (P Q : T → Type 0) → IfOk r P → IfOk r Q → IfOk r (λ x. P x × Q x)
both (Ok x) P Q first second = (first, second)
both (Err e) P Q first second = tt

-- the run was led to what is copied and judged
pub returns-clause-run : goal.returns-clause-run
returns-clause-run g c =
    let stopped = c.in_ok-stopped.ensures in
    let left = c.crash-left.result in
    let named = c.in_ok-named.named in
    let end =
    end-of-run c.args.script.now c.args.stops.now.run c.args.stops.now.failing_call c.in_ok-stopped.stopped left named stopped.outcomes.lines stopped.led stopped.outcomes.are stopped.stop
    (record { each = c.crash-left.ensures.image; shape_is = c.crash-left.ensures.shape }) c.crash-left.ensures.recorded c.in_ok-named.ensures in
    let to = g.D.Device.state c.judge_copied.new.to in
    let Judged = IsLeftVerdict left.image c.args.stops.now.opening left.recorded.sealed.items left.recorded.acknowledged named in
    IfOk-weaker c.judge_copied.result (λ right. Judged right × IsCopy left.image to) (IsCopiedRun c.args.script.now c.args.stops.now to)
    (λ right is. record {
      image = left.image;
      run = record { sealed = left.recorded.sealed.items; shown = left.recorded.acknowledged; named = named; end = end; verdict = is.0 };
      copy = is.1;
    })
    (both c.judge_copied.result Judged (λ right. IsCopy left.image to) c.judge_copied.ensures.verdict c.judge_copied.ensures.copy)

-- so the verdict is ok
pub returns-clause-right : goal.returns-clause-right
returns-clause-right g c =
    IfOk-weaker c.judge_copied.result (IsCopiedRun c.args.script.now c.args.stops.now (g.D.Device.state c.judge_copied.new.to)) (λ right. right ≡ true)
    (λ right is. run-right c.args.script.now c.args.stops.now is.image right is.run) (returns-clause-run g c)

-- and the copy was tried
pub returns-clause-tried : goal.returns-clause-tried
returns-clause-tried g c =
    let stopped = c.in_ok-stopped.ensures in
    let left = c.crash-left.result in
    let named = c.in_ok-named.named in
    let end =
    end-of-run c.args.script.now c.args.stops.now.run c.args.stops.now.failing_call c.in_ok-stopped.stopped left named stopped.outcomes.lines stopped.led stopped.outcomes.are stopped.stop
    (record { each = c.crash-left.ensures.image; shape_is = c.crash-left.ensures.shape }) c.crash-left.ensures.recorded c.in_ok-named.ensures in
    inr (record {
      image = left.image;
      sealed = left.recorded.sealed.items;
      shown = left.recorded.acknowledged;
      named = named;
      end = end;
      tried = c.judge_copied.ensures.tried;
    })
