use Rattle.log_model.proofs.OwnTextWhole.{own_text_sized}
use Rattle.log_model.proofs.own_text_laws.own_text_has_whole_blocks.Goals as goal

pub returns : goal.returns
returns c = own_text_sized
