use Rattle.std.proofs.Common.{◌∙◌, sym, arith}
use Rattle.recovery.proofs.CountRuns.{count-more}
use Rattle.recovery.proofs.planning.count_tagged.Goals as goal
use Rattle.recovery.proofs.planning.count_tagged.Goals.{then-goes_home, else-goes_home}

pub loop-k-preserved : goal.loop-k-preserved
loop-k-preserved c =
    let before = c.loop-k.invariant in
    let more = count-more c.args.tables.now c.args.tid c.args.place c.loop-k.k c.args.tags.now c.index-tags-k.result c.loop-k-test.true c.index-tags-k.is in
    elim c.if-goes_home.branch [
      | then-goes_home w ↦
          let goes = sym c.goes_home.ensures ∙ w.if-goes_home.true in
          rw w.count-is (record {
            few = let few = before.few in omega arith;
            count = let count = before.count in let one = rw goes at more in omega arith;
          })
      | else-goes_home w ↦
          let stays = sym c.goes_home.ensures ∙ w.if-goes_home.false in
          rw w.count-is (record {
            few = let few = before.few in omega arith;
            count = let count = before.count in let same = rw stays at more in omega arith;
          })
    ]
