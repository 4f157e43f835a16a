use Rattle.std.proofs.Common.{inr}
use Rattle.jbench_logs.proofs.logs.upgrade_device.Goals as goal

-- the upgrade failed
pub returns-in_err-sequence-clause-left : goal.returns-in_err-sequence-clause-left
returns-in_err-sequence-clause-left g c = λ honest. inr (c.in_err-sequence.ensures.broken honest)
