-- The two fields stand in a row, and the rest is as it was.
use Rattle.std.proofs.Common.{◌-◌, ℕ, List, length, arith, refl, ◌∙◌}
use borrow.Rule.Slice.PartMut.{put_mid}
use Rattle.journal_model.specs.Layout.{big_endian}
use Rattle.log_model.specs.Superblock.{with_tail}
use Rattle.log_format.proofs.Writing.{written_over, written_twice}
use Rattle.log_format.proofs.superblock.Super.write.Goals as goal

pub returns : goal.returns
unfolding with_tail
returns c =
    let block : List ℕ = c.args.block.now in
    let between : List ℕ = put_mid 24 (length block - 24) block c.write_u32.new.buf in
    let first = written_over block (big_endian 4 c.args.sequence) c.write_u32.new.buf 24 4 (omega arith) c.write_u32.ensures in
    written_over between (big_endian 4 c.args.start) c.write_u32-2.new.buf 28 4 (omega arith) c.write_u32-2.ensures
    ∙ written_twice block between (big_endian 4 c.args.sequence) (big_endian 4 c.args.start) 24 4 (omega arith) refl first
