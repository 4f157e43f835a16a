use Rattle.script_sweep.proofs.Sweeps.{judges-first}
use Rattle.script_sweep.proofs.judging.Ran.judge_first.Goals as goal

-- the verdict is counted
pub returns : goal.returns
returns g c =
    judges-first c.args.self.now.stopped.now c.args.self.now.named.now c.args.opened c.in_ok-right.right c.args.not_right.now c.note_verdict.new.not_right c.note_verdict.result
    c.in_ok-right.ensures c.note_verdict.ensures.right c.note_verdict.ensures.wrong
