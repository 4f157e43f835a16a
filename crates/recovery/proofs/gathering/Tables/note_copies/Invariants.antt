use Rattle.std.proofs.Common.{◌≡◌, take}
use Rattle.block_tables.specs.Copies.{placed_all}
use Rattle.recovery.specs.Gather.{tag_notes}
use Rattle.recovery.proofs.gathering.Tables.note_copies.Given as goal

abbrev pub invariant-loop-k : goal.invariant-loop-k
invariant-loop-k l = record {
  revokes : l.self-inside.revokes ≡ l.fn.self.revokes;
  copies : l.self-inside.copies ≡ placed_all l.fn.self.copies (tag_notes l.place (take l.k l.tags));
}
