-- The header is read back, whatever stands after it.
use Rattle.std.proofs.Common.{arith}
use Rattle.journal_model.specs.Layout.{commit_type, padded}
use Rattle.log_model.specs.OwnText.{commit_block}
use Rattle.log_model.proofs.OwnTextHeader.{header_read}
use Rattle.log_format.proofs.laws.a_written_commit_block_is_one.Goals as goal

pub returns : goal.returns
unfolding commit_block padded
returns c size sequence small = header_read commit_type sequence _ (omega arith) small
