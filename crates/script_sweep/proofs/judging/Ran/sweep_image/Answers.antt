use Rattle.std.specs.Prelude.{Option, Some, None}
use Rattle.std.proofs.Common.{refl, subst}
use Rattle.std.proofs.lemmas.Result.{on_ok_weaker}
use Rattle.script_sweep.specs.declared.judging.ImageFinding.{ImageFinding}
use Rattle.script_sweep.specs.Sweeping.{IsJudged}
use Rattle.script_sweep.proofs.judging.Ran.sweep_image.Goals as goal

-- it was opened, and its openings were stopped
pub returns-in-Some : goal.returns-in-Some
returns-in-Some g c =
    on_ok_weaker c.sweep_openings.result
    (λ openings. record {
      found = Some c.in-Some.found;
      judged = c.judge_image.new.not_right;
      is_judged =
          subst (λ (found : Option ImageFinding). IsJudged g.J.Swept.keeps c.args.self.now.stopped.now c.args.self.now.named.now c.args.image.now c.args.counts.now.not_right found c.judge_image.new.not_right) c.in-Some.is
          c.in_ok-found.ensures;
      openings = openings;
    })
    c.sweep_openings.ensures

-- or it was refused
pub returns-in-None : goal.returns-in-None
returns-in-None g c = record {
  found = None;
  judged = c.judge_image.new.not_right;
  is_judged =
      subst (λ (found : Option ImageFinding). IsJudged g.J.Swept.keeps c.args.self.now.stopped.now c.args.self.now.named.now c.args.image.now c.args.counts.now.not_right found c.judge_image.new.not_right) c.in-None.is
      c.in_ok-found.ensures;
  openings = refl;
}
