use Rattle.std.proofs.Common.{◌∙◌}
use Rattle.std.proofs.lemmas.Result.{on_ok_weaker}
use Rattle.jbench_files.proofs.text.ScriptText.read_at.Goals as goal

-- the file was opened by this path
pub returns-in-Ok-clause-path : goal.returns-in-Ok-clause-path
returns-in-Ok-clause-path g c = on_ok_weaker c.read.result (λ same. same ∙ c.in-Ok.ensures) c.read.ensures.path
