use Rattle.std.proofs.Common.{◌∙◌, sym, ap, take}
use Rattle.journal_model.specs.Transaction.{effect, last_effect, later}
use Rattle.script_run.proofs.LastEntries.{last_effect-more}
use Rattle.script_run.proofs.last_entries.entries_of.Goals as goal

pub loop-transaction-preserved : goal.loop-transaction-preserved
loop-transaction-preserved c = λ b.
    let ts = c.args.history.now in
    let i = c.loop-transaction.transaction-index in
    c.in_ok-note_steps.ensures b
    ∙ ap (λ o. later o (effect b c.as_slice.result.now)) (c.loop-transaction.invariant b)
    ∙ ap (λ ss. later (last_effect b (take i ts)) (effect b ss)) c.as_slice.ensures
    ∙ sym (last_effect-more b ts i c.transaction-item.result c.loop-transaction-test.true c.transaction-item.is)
