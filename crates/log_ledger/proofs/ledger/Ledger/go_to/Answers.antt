use Rattle.std.proofs.Common.{refl}
use Rattle.log_ledger.proofs.ledger.Ledger.go_to.Goals as goal

-- nothing else changes
pub returns-clause-stage : goal.returns-clause-stage
returns-clause-stage c = refl
