use Rattle.std.proofs.Common.{◌≡◌, take}
use Rattle.block_tables.specs.Revokes.{noted_all, notes_of}
use Rattle.recovery.proofs.gathering.Tables.note_revokes.Given as goal

abbrev pub invariant-loop-number : goal.invariant-loop-number
invariant-loop-number l = record {
  revokes : l.self-inside.revokes ≡ noted_all l.fn.self.revokes (notes_of l.tid (take l.number-index l.numbers));
  copies : l.self-inside.copies ≡ l.fn.self.copies;
}
