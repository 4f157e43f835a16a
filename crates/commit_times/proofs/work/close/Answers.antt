use Rattle.std.proofs.Common.{◌∙◌, subst, sym}
use Rattle.journal_model.specs.Disk.{Shape}
use Rattle.journal_model.specs.Transaction.{History}
use Rattle.group_commit.specs.Close.{closing}
use Rattle.log_epochs.specs.JournalPromise.{IsClosed}
use Rattle.commit_times.proofs.work.close.Goals as goal

-- the log is clean, by the measures of its device
pub returns-in-Ok : goal.returns-in-Ok
returns-in-Ok g c = λ honest. record {
  sealed = closing c.args.journal.journal.front;
  each = λ image leaves.
      subst (λ (s : Shape). IsClosed s (closing c.args.journal.journal.front) image) (c.recall_invariant.ensures.shape ∙ sym c.in-Ok.ensures.left.shape)
      (subst (λ (ts : History). IsClosed c.args.journal.journal.engine.shape ts image) c.in-Ok.ensures.all (c.in-Ok.ensures.clean honest image leaves));
}
