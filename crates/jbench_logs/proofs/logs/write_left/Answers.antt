use Rattle.std.proofs.Common.{◌∙◌, List, subst, sym, ℕ}
use Rattle.std.specs.Prelude.{OnOk}
use Rattle.std.specs.Io.KnownBytes.{Appends}
use Rattle.jbench_logs.proofs.LeftLines.{line-none, line-there}
use Rattle.jbench_logs.proofs.logs.write_left.Goals as goal

-- no number is left
pub returns-then-is_last : goal.returns-then-is_last
returns-then-is_last g c =
    subst (λ (line : List ℕ). OnOk c.write_none.result (Appends (g.W.Write.contents c.args.out.now) (g.W.Write.contents c.write_none.new.out) line))
    (sym (line-none c.args.report.clean c.args.is_written c.args.report.ends_at c.args.report.transactions c.args.next (sym c.is_last.ensures ∙ c.if-is_last.true)))
    c.write_none.ensures

-- a number is left
pub returns-else-is_last : goal.returns-else-is_last
returns-else-is_last g c =
    subst (λ (line : List ℕ). OnOk c.write_opened.result (Appends (g.W.Write.contents c.args.out.now) (g.W.Write.contents c.write_opened.new.out) line))
    (sym (line-there c.args.report.clean c.args.is_written c.args.report.ends_at c.args.report.transactions c.args.next (sym c.is_last.ensures ∙ c.if-is_last.false)))
    c.write_opened.ensures
