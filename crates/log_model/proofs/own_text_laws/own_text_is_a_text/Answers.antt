use Rattle.log_model.proofs.HomeCounts.{own_text_of_allowed}
use Rattle.log_model.proofs.own_text_laws.own_text_is_a_text.Goals as goal

pub returns : goal.returns
returns c = own_text_of_allowed
