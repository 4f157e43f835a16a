use Rattle.std.proofs.Common.{ℕ, ap}
use Rattle.std.proofs.lemmas.Result.{on_ok_weaker}
use Rattle.script_sweep.specs.declared.counts.Counts.{Counts}
use Rattle.script_sweep.specs.Sweeping.IsJudgedAgain.{IsOpenedAgain, IsRefusedAgain}
use Rattle.script_sweep.proofs.judging.Ran.sweep_again.Goals as goal

-- it was opened and judged
pub returns-in-Ok : goal.returns-in-Ok
returns-in-Ok g c =
    on_ok_weaker c.judge_again.result
    (λ judged. record {
      image = c.in_ok-left.left;
      crash = c.in_ok-left.ensures;
      judged = c.judge_again.new.not_right;
      is_judged = IsOpenedAgain c.in-Ok.opened c.judge_again.new.not_right c.in-Ok.ensures.opened judged;
      after = ap (λ (n : ℕ). let counts : Counts = record c.args.counts.now { again = n; not_right = c.judge_again.new.not_right } in counts) c.saturating_add-counts.ensures;
    })
    c.judge_again.ensures

-- or it was refused
pub returns : goal.returns
returns g c =
    on_ok_weaker c.note_refusal.result
    (λ is. record {
      image = c.in_ok-left.left;
      crash = c.in_ok-left.ensures;
      judged = c.note_refusal.new.not_right;
      is_judged = IsRefusedAgain c.in-Err.e c.note_refusal.new.not_right c.in-Err.ensures.err is;
      after = ap (λ (n : ℕ). let counts : Counts = record c.args.counts.now { again = n; not_right = c.note_refusal.new.not_right } in counts) c.saturating_add-counts.ensures;
    })
    c.note_refusal.ensures
