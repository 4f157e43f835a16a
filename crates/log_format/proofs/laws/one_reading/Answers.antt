use Rattle.log_model.proofs.ReadingNumbers.{one_revoke_block}
use Rattle.log_model.proofs.ReadingTags.{one_descriptor}
use Rattle.log_format.proofs.laws.one_reading.Goals as goal

pub returns : goal.returns
returns c = record {
  descriptor = λ l count sequence block tags others first second. one_descriptor first second;
  revoke_block = λ l count sequence block numbers others some first second. one_revoke_block some first second;
}
