use Rattle.std.proofs.Common.{◌∙◌, sym}
use Rattle.jbench_logs.proofs.LeftLines.{number-none, number-there}
use Rattle.jbench_logs.proofs.logs.number_left.Goals as goal

-- no number is left
pub returns-then-is_last : goal.returns-then-is_last
returns-then-is_last c = sym (number-none c.args.is_written c.args.next (sym c.is_last.ensures ∙ c.if-is_last.true))

-- one is
pub returns-else-is_last : goal.returns-else-is_last
returns-else-is_last c = sym (number-there c.args.is_written c.args.next (sym c.is_last.ensures ∙ c.if-is_last.false))
