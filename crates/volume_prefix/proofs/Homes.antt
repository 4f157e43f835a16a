-- What home has in a block that the first changes leave to it.
use Rattle.std.proofs.Common.{subst}
use Rattle.std.specs.Prelude.{◌≡◌, ℕ, List, take, Contains}
use Rattle.journal_model.specs.declared.transaction.Step.{Step}
use Rattle.journal_model.specs.Record.{steps_of}
use Rattle.journal_model.specs.Transaction.{History}
use Rattle.journal_world.specs.Front.{write_step}
use Rattle.log_model.specs.HomeChange.{IsRightlyHeld}
use Rattle.log_model.specs.HomeChange.IsRightlyHeld.{FromCopy, FromDirectWrite as DirectlyHeld, FromOpening as HeldAtOpening}
use Rattle.log_epochs.specs.Epoch.{Epoch}
use Rattle.volume_prefix.specs.Changes.{IsHomes}
use Rattle.volume_prefix.specs.Changes.IsHomes.{FromDirectWrite, FromOpening, FromStep}
use Rattle.volume_prefix.proofs.Steps.{copy-step, first-steps}

pub held-rightly : (epoch : Epoch) (ts : History) (n b : ℕ) (v : List ℕ) (steps : List Step) → steps_of (take n ts) ≡ steps →
    IsRightlyHeld epoch.opening epoch.directs ts n b v → IsHomes epoch steps b v
held-rightly epoch ts n b v steps same (HeldAtOpening is) = FromOpening is
held-rightly epoch ts n b v steps same (DirectlyHeld is) = FromDirectWrite is
held-rightly epoch ts n b v steps same (FromCopy i t low at copy) =
    let made : (h : ℕ) × Contains t.steps (write_step h b v) = copy-step b v t.steps copy in
    FromStep made.0
    (subst (λ (ss : List Step). Contains ss (write_step made.0 b v)) same (first-steps n i ts t (write_step made.0 b v) low at made.1))
