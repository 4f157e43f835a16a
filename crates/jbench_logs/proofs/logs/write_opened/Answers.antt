use Rattle.std.proofs.Common.{append_assoc, subst, ℕ}
use Rattle.std.specs.Prelude.{OnOk}
use Rattle.std.specs.Io.KnownBytes.{Appends}
use Rattle.jbench_logs.specs.Said.{opened_line}
use Rattle.jbench_logs.proofs.logs.write_opened.Goals as goal

-- the parts of a clean log's line, joined
pub returns-then-report : goal.returns-then-report
returns-then-report g c =
    subst (λ (next : ℕ). OnOk c.writeln.result (Appends (g.W.Write.contents c.args.out.now) (g.W.Write.contents c.writeln.new.self) (opened_line c.args.report.clean c.args.report.ends_at c.args.report.transactions next)))
    c.next.view_is (rw c.if-report.true (simp append_assoc c.writeln.ensures.bytes))

-- those of any other log's line
pub returns-else-report : goal.returns-else-report
returns-else-report g c =
    subst (λ (next : ℕ). OnOk c.writeln-else-report.result (Appends (g.W.Write.contents c.args.out.now) (g.W.Write.contents c.writeln-else-report.new.self) (opened_line c.args.report.clean c.args.report.ends_at c.args.report.transactions next)))
    c.next.view_is (rw c.if-report.false (simp append_assoc c.writeln-else-report.ensures.bytes))
