use Rattle.recovery.proofs.Noting.{revokes-more}
use Rattle.recovery.proofs.gathering.Tables.note_revokes.Goals as goal

pub loop-number-preserved : goal.loop-number-preserved
loop-number-preserved c = record {
  revokes =
      revokes-more c.args.self.now.revokes c.loop-number.self-inside.revokes c.note.new.self c.args.tid c.args.numbers.now c.loop-number.number-index
      c.number-item.result c.loop-number-test.true c.number-item.is c.loop-number.invariant.revokes c.in_ok-note.ensures.ok;
  copies = c.loop-number.invariant.copies;
}
