use Rattle.std.proofs.Common.{refl, ◌∙◌}
use Rattle.shared_journal.specs.Waiting.Tries.{NoTry, OneMore}
use Rattle.shared_journal.proofs.journal.Journal.start_after.Goals as goal

-- At first there was no try.
pub trying-init : goal.trying-init
trying-init g c = (NoTry, refl)

-- One more try is repeated.
pub trying-preserved-in-Ok-Err-Full : goal.trying-preserved-in-Ok-Err-Full
trying-preserved-in-Ok-Err-Full g c = (
  OneMore c.trying.seat c.try_once.new.seat c.trying.invariant.0 (rw c.in-Ok-Err-Full.field-0-is at c.in-Ok-Err-Full.ensures.again),
  c.try_once.ensures.same ∙ c.trying.invariant.1,
)

pub trying-preserved : goal.trying-preserved
trying-preserved g c = (
  OneMore c.trying.seat c.try_once.new.seat c.trying.invariant.0 (rw c.in-Ok-Err-Locked.field-0-is at c.in-Ok-Err-Locked.ensures.again),
  c.try_once.ensures.same ∙ c.trying.invariant.1,
)
