use Rattle.log_model.proofs.OwnTextWhole.{own_text_copies, own_text_revokes}
use Rattle.log_model.proofs.own_text_laws.own_text_says_its_entries.Goals as goal

pub returns : goal.returns
returns c = record { copies = own_text_copies; revokes = own_text_revokes }
