use Rattle.log_model.proofs.ReadingTexts.{one_damage_of}
use Rattle.log_model.proofs.log_laws.one_damage.Goals as goal

-- two damaged blocks after one chain are equal
pub returns : goal.returns
returns c l count sequence some blocks j k p q = one_damage_of l count some sequence blocks j k p q
