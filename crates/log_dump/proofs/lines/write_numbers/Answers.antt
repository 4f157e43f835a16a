use Rattle.std.proofs.Common.{sym}
use Rattle.log_dump.proofs.Placed.{numbers-more}
use Rattle.log_dump.proofs.Written.{appends-joins, appends-same}
use Rattle.log_dump.proofs.lines.write_numbers.Goals as goal

pub loop-i-preserved : goal.loop-i-preserved
loop-i-preserved g c =
    appends-same _ _ _ _ (sym (numbers-more c.args.numbers.now c.loop-i.i c.index-numbers-i.result c.loop-i-test.true c.index-numbers-i.is))
    (appends-joins (g.W.Write.contents c.args.out.now) (g.W.Write.contents c.loop-i.out) (g.W.Write.contents c.write_listed.new.out) _ _ c.loop-i.invariant
    (rw (← c.number.view_is) c.in_ok-write_listed.ensures))
