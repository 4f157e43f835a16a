use Rattle.std.proofs.Common.{◌∙◌, refl, sym}
use Rattle.shared_journal.specs.Waiting.NotAwaited.{FailedMeanwhile}
use Rattle.shared_journal.proofs.turns.Turns.lead_or_wait.Goals as goal

-- The device had failed when `is_aborted` looked.
pub returns-then-is_aborted : goal.returns-then-is_aborted
returns-then-is_aborted g c = record {
  err = FailedMeanwhile (record {
    old = c.is_aborted.ensures.old;
    new = c.is_aborted.ensures.new;
    did = (sym c.is_aborted.ensures.did.0 ∙ c.if-is_aborted.true, c.is_aborted.ensures.did.1);
  }) refl;
}
