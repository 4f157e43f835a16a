use Rattle.std.proofs.Common.{arith}
use Rattle.log_format.proofs.Accepting.{tail_accepted}
use Rattle.log_format.proofs.laws.a_new_tail_is_accepted.Goals as goal

pub returns : goal.returns
returns c shape block sequence start size accepted within = tail_accepted shape block sequence start (omega arith) accepted within
