use Rattle.std.proofs.Common.{arith}
use Rattle.log_format.proofs.Superblocks.{tail_replaced}
use Rattle.log_format.proofs.laws.a_new_tail_replaces_the_last.Goals as goal

pub returns : goal.returns
returns c block last_sequence last_start sequence start size = tail_replaced block last_sequence last_start sequence start (omega arith)
