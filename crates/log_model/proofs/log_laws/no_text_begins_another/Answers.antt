use Rattle.log_model.proofs.ReadingTexts.{one_text}
use Rattle.log_model.proofs.log_laws.no_text_begins_another.Goals as goal

-- two texts of one number at one front are equal
pub returns : goal.returns
returns c l count sequence some t u x y is other e = one_text l count some sequence t u x y is other e
