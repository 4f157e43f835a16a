use Rattle.log_model.proofs.ReadingTexts.{one_chain_of}
use Rattle.log_model.proofs.log_laws.one_chain.Goals as goal

-- two chains of the same blocks are equal
pub returns : goal.returns
returns c l count sequence some blocks texts others p q = one_chain_of l count some sequence blocks texts others p q
