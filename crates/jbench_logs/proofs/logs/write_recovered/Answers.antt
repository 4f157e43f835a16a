use Rattle.std.proofs.Common.{subst, sym}
use Rattle.std.specs.Prelude.{Bool, true, false, OnOk}
use Rattle.std.specs.Io.KnownBytes.{Appends}
use Rattle.jbench_logs.specs.Said.{left_line, recovered_line}
use Rattle.jbench_logs.proofs.logs.write_recovered.Goals as goal

-- a clean log gets no number
pub returns-then-report : goal.returns-then-report
returns-then-report g c =
    subst (λ (clean : Bool). OnOk c.write_left.result (Appends (g.W.Write.contents c.args.out.now) (g.W.Write.contents c.write_left.new.out) (recovered_line clean c.args.report.ends_at c.args.report.transactions c.args.next)))
    (sym c.if-report.true)
    (subst (λ (clean : Bool). OnOk c.write_left.result (Appends (g.W.Write.contents c.args.out.now) (g.W.Write.contents c.write_left.new.out) (left_line clean false c.args.report.ends_at c.args.report.transactions c.args.next)))
    c.if-report.true c.write_left.ensures)

-- any other log gets its number
pub returns-else-report : goal.returns-else-report
returns-else-report g c =
    subst (λ (clean : Bool). OnOk c.write_left-else-report.result (Appends (g.W.Write.contents c.args.out.now) (g.W.Write.contents c.write_left-else-report.new.out) (recovered_line clean c.args.report.ends_at c.args.report.transactions c.args.next)))
    (sym c.if-report.false)
    (subst (λ (clean : Bool). OnOk c.write_left-else-report.result (Appends (g.W.Write.contents c.args.out.now) (g.W.Write.contents c.write_left-else-report.new.out) (left_line clean true c.args.report.ends_at c.args.report.transactions c.args.next)))
    c.if-report.false c.write_left-else-report.ensures)
