use Rattle.std.proofs.Common.{◌∙◌, Bool, List, ℕ, subst}
use Rattle.std.specs.Prelude.{is_some, true}
use Rattle.std.proofs.lemmas.Result.{IfOk-weaker}
use Rattle.jbench_commands.specs.Runs.{HasRun, runs_told}
use Rattle.jbench_commands.proofs.obeying.run_file.Goals as goal

-- the text that came was run, and its image copied where the words name files for it
pub returns-in-Ok-read-clause-done : goal.returns-in-Ok-read-clause-done
returns-in-Ok-read-clause-done g c =
    IfOk-weaker c.run.result _ _
    (λ status run fine. (
      c.in-Ok-read.ensures.path ∙ c.in-Ok.ensures,
      subst (λ (copied : Bool). HasRun (runs_told copied) c.read.new.self.bytes.items c.args.words.now true) c.in-Ok-open_image.ensures
          (subst (λ (script : List ℕ). HasRun (runs_told (is_some c.in-Ok-open_image.image)) script c.args.words.now true) c.bytes.ensures (run fine)),
    )) c.run.ensures.run
