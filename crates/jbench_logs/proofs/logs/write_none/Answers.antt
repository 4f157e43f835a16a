use Rattle.std.proofs.Common.{append_assoc}
use Rattle.jbench_logs.proofs.logs.write_none.Goals as goal

-- the line of a clean log
pub returns-then-report : goal.returns-then-report
returns-then-report g c = rw c.if-report.true c.writeln.ensures.bytes

-- the line of any other log
pub returns-else-report : goal.returns-else-report
returns-else-report g c = rw c.if-report.false (simp append_assoc c.writeln-else-report.ensures.bytes)
