-- The features replace others, and the rest is as it was.
use Rattle.std.proofs.Common.{◌∙◌, arith, append_assoc, drop, sym, take}
use Rattle.journal_model.specs.Layout.{big_endian}
use Rattle.log_model.specs.Superblock.{wide_features, widened}
use Rattle.log_format.proofs.Writing.{written_over}
use Rattle.log_format.proofs.superblock.Super.widen.Goals as goal

pub returns : goal.returns
unfolding widened
returns c =
    written_over c.args.block.now (big_endian 4 wide_features) c.write_u32.new.buf 0x28 4 (omega arith) c.write_u32.ensures
    ∙ sym (append_assoc (take 0x28 c.args.block.now) (big_endian 4 wide_features) (drop 0x2c c.args.block.now))
