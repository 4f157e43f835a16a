use Rattle.std.proofs.Common.{arith}
use Rattle.log_format.proofs.Widening.{widened_accepted}
use Rattle.log_format.proofs.laws.a_widened_superblock_is_accepted.Goals as goal

pub returns : goal.returns
returns c shape block size accepted narrow = widened_accepted shape block (omega arith) narrow accepted
