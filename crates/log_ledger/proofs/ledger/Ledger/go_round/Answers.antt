use Rattle.std.proofs.Common.{refl}
use Rattle.log_ledger.proofs.ledger.Ledger.go_round.Goals as goal

-- nothing else changes
pub returns-clause-round : goal.returns-clause-round
returns-clause-round c = refl
