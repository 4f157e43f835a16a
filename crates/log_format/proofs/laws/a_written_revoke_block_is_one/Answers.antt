use Rattle.log_format.proofs.Written.{numbers_revoked}
use Rattle.log_format.proofs.laws.a_written_revoke_block_is_one.Goals as goal

pub returns : goal.returns
returns c = numbers_revoked
