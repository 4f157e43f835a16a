use Rattle.std.proofs.Common.{◌∙◌, subst}
use Rattle.std.proofs.lemmas.Result.{IfOk-weaker}
use Rattle.jbench_commands.specs.Obeying.{IsAppliedOver}
use Rattle.jbench_commands.proofs.obeying.apply_files.Goals as goal

-- with the text that came
pub returns-in-Ok-read-clause-done : goal.returns-in-Ok-read-clause-done
returns-in-Ok-read-clause-done g c =
    IfOk-weaker c.apply_opened.result _ _
    (λ status did fine.
    (c.in-Ok-read.ensures.path ∙ c.in-Ok-open_script.ensures.path, subst (IsAppliedOver g.C.Contents.contents c.args.words.now (g.W.Write.contents c.args.out)) c.bytes.ensures (did fine)))
    c.apply_opened.ensures.done
