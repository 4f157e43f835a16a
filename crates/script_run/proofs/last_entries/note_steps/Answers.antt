use Rattle.std.proofs.Common.{◌∙◌, sym, ap, [], ◌∷◌}
use Rattle.journal_model.specs.Transaction.{effect, later}
use Rattle.script_run.specs.LastEntries.{entry_in}
use Rattle.script_run.proofs.LastEntries.{effect-more}
use Rattle.script_run.proofs.last_entries.note_steps.Goals as goal

pub loop-step-preserved : goal.loop-step-preserved
loop-step-preserved c = λ b.
    c.in_ok-note_step.ensures b
    ∙ ap (λ o. later o (effect b (c.step-item.result ∷ []))) (c.loop-step.invariant b)
    ∙ sym (effect-more b c.args.steps.now c.loop-step.step-index c.step-item.result (entry_in c.args.last.now b) c.loop-step-test.true c.step-item.is)
