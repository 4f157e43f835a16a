-- The numbers so far are the block's, and below the home count.
use Rattle.std.proofs.Common.{◌≡◌, ◌<◌, take, All}
use Rattle.log_model.specs.RevokeBlock.{numbers_in}
use Rattle.log_format.specs.Size.{count_of}
use Rattle.log_format.proofs.revoke_block.RevokeBlock.read.Given as goal

abbrev pub invariant-loop-i : goal.invariant-loop-i
invariant-loop-i l = record {
  spelled : take l.i l.numbers ≡ numbers_in l.layout l.block l.i;
  below : All (λ b. b < count_of l.layout l.home_blocks) (take l.i l.numbers);
}
