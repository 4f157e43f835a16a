-- The header and the numbers so far stand before the place.
use Rattle.std.proofs.Common.{◌≡◌, ◌+◌, ◌*◌, ◌++◌, length, take}
use Rattle.std.specs.List.{flat_map}
use Rattle.journal_model.specs.Layout.{big_endian, header, revoke_type}
use Rattle.log_format.proofs.revoke_block.RevokeBlock.write.Given as goal

abbrev pub invariant-loop-number : goal.invariant-loop-number
invariant-loop-number l = record {
  place : l.at ≡ 16 + l.layout.number_bytes * l.number-index;
  size : length l.block ≡ length l.fn.block;
  written : take l.at l.block ≡ (header revoke_type l.sequence ++ big_endian 4 (16 + l.layout.number_bytes * length l.numbers)) ++ flat_map (big_endian l.layout.number_bytes) (take l.number-index l.numbers);
}
