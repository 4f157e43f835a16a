use Rattle.std.proofs.Common.{◌∙◌}
use Rattle.script_run.proofs.Judging.{count_up_to-owed}
use Rattle.script_run.proofs.verdict.RunRecord.count_acknowledged.Goals as goal

pub returns-in-Some : goal.returns-in-Some
returns-in-Some c = rw c.in-Some.is (c.count_up_to.ensures ∙ count_up_to-owed c.in-Some.tid c.args.self.now.sealed.items)
