use Rattle.std.proofs.Common.{append_assoc}
use Rattle.jbench_logs.proofs.objects.begin_found.Goals as goal

-- a log that was not clean
pub returns-else-report : goal.returns-else-report
returns-else-report g c = rw c.if-report.false (simp append_assoc c.write-else-report.ensures.bytes)
