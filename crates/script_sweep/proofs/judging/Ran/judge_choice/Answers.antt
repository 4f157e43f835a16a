use Rattle.std.proofs.Common.{ℕ, subst}
use Rattle.script_run.specs.Left.{IsCrashOf}
use Rattle.script_sweep.specs.Places.{kept_of}
use Rattle.script_sweep.proofs.judging.Ran.judge_choice.Goals as goal

-- the image is judged
pub returns : goal.returns
returns g c = record {
  image = c.in_ok-image.image;
  crash = subst (λ (k : ℕ). IsCrashOf c.args.self.now.stopped.now.device (kept_of k c.args.bits) c.in_ok-image.image) c.writes.ensures c.in_ok-image.ensures;
  found = c.in_ok-judge_image.field-0;
  is_judged = c.in_ok-judge_image.ensures;
}
