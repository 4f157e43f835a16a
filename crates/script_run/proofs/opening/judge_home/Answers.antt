use Rattle.script_run.proofs.Judging.{IsRight-stays}
use Rattle.script_run.proofs.opening.judge_home.Goals as goal

pub returns : goal.returns
returns g c = λ honest. (
  c.in_ok-write_home.ensures.there,
  IsRight-stays c.args.recorded.now.sealed.items c.args.recorded.now.acknowledged c.args.named.now c.args.n c.in_ok-judge.field-0
      (g.D.Device.state c.args.device.now) (g.D.Device.state c.write_home.new.device) c.write_home.ensures.stays (c.in_ok-judge.ensures honest),
)
