use Rattle.std.proofs.Common.{◌∙◌, ap, subst}
use Rattle.std.specs.Prelude.{◌↔◌, IsTrue, All, take}
use Rattle.journal_model.specs.Transaction.{History}
use Rattle.script_threads.specs.Verdicts.{HasReceiptIn}
use Rattle.script_threads.proofs.running.verdicts_of.Goals as goal

-- Each verdict is the right one.
pub returns : goal.returns
returns c = record {
  credits = c.credits_are_right.ensures;
  receipts =
      subst (λ (ts : History). IsTrue c.receipts_stand-receipts.result ↔ All (λ client. All (λ h. HasReceiptIn ts h.receipt) client.items) c.args.told.now)
      (c.committed_of.ensures ∙ ap (take c.args.parts.committed) c.deref.ensures.value) c.receipts_stand-receipts.ensures;
  order = c.never_fall.ensures;
  shown = c.greatest_receipt.result;
  greatest = c.greatest_receipt.ensures.all;
  some = c.greatest_receipt.ensures.some;
  recovery = c.in_ok-recovery.ensures;
}
