use Rattle.log_model.proofs.OwnTextWhole.{length_own_text}
use Rattle.log_model.proofs.own_text_laws.need_is_the_length_of_the_own_text.Goals as goal

pub returns : goal.returns
returns c = length_own_text
