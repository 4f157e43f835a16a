use Rattle.std.proofs.Common.{refl}
use Rattle.log_ledger.proofs.Rounds.{begins}
use Rattle.log_ledger.proofs.ledger.Ledger.begin_round.Goals as goal

-- nothing is to be released
pub returns-then-self-clause-nothing : goal.returns-then-self-clause-nothing
returns-then-self-clause-nothing c = λ no. (c.in-Idle.is, c.if-self.true, refl)

-- the round releases all that are committed by now
pub returns-else-self-clause-begun : goal.returns-else-self-clause-begun
returns-else-self-clause-begun c = λ yes shape runs. begins shape c.args.self.now _ runs c.in-Idle.is c.if-self.false refl refl refl refl
