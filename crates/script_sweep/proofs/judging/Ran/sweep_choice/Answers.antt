use Rattle.std.proofs.Common.{ℕ, subst}
use Rattle.std.proofs.lemmas.Result.{on_ok_weaker}
use Rattle.script_sweep.specs.Sweeping.{SweepsImage}
use Rattle.script_sweep.proofs.judging.Ran.sweep_choice.Goals as goal

-- the image is swept
pub returns : goal.returns
returns g c =
    on_ok_weaker c.sweep_image.result
    (λ sweeps. record {
      image = c.in_ok-image.image;
      crash = c.in_ok-image.ensures;
      sweeps =
          subst (λ (n : ℕ). SweepsImage g.J.Swept.keeps c.args.self.now.stopped.now c.args.self.now.named.now c.in_ok-image.image (record c.args.counts.now { images = n }) c.sweep_image.new.counts)
          c.saturating_add-counts.ensures sweeps;
    })
    c.sweep_image.ensures
