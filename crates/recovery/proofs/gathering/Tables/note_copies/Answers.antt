use Rattle.recovery.proofs.Noting.{copies-more}
use Rattle.recovery.proofs.gathering.Tables.note_copies.Goals as goal

pub loop-k-preserved : goal.loop-k-preserved
loop-k-preserved c = record {
  revokes = c.loop-k.invariant.revokes;
  copies =
      copies-more c.args.self.now.copies c.loop-k.self-inside.copies c.note.new.self c.args.place c.args.tags.now c.loop-k.k c.index-tags-k.result
      c.loop-k-test.true c.index-tags-k.is c.loop-k.invariant.copies c.in_ok-note.ensures.ok;
}
