-- A closed journal of tasks leaves a clean log.
use Rattle.std.proofs.Common.{◌≡◌, ◌∙◌, sym, subst, ℕ}
use Rattle.std.specs.Prelude.{Result, Ok, Err, ⊤}
use Rattle.journal_model.specs.declared.refusal.JournalError.{JournalError}
use Rattle.journal_model.specs.Disk.{Image, Leaves, Shape}
use Rattle.handle.specs.Name.{JournalId}
use Rattle.journal_model.specs.Transaction.{History}
use Rattle.block_device.specs.State.{DeviceState}
use Rattle.log_epochs.specs.JournalPromise.{IsClosed}
use Rattle.volume_service.specs.Ending.{IsEndedBy}
use Rattle.commit_times.specs.Closed.{IsLeftClosed}

-- it is an error
IsError : {A E : Type 0} → Result A E → Type 0
IsError (Ok x) = ⊥
IsError (Err e) = ⊤

pub closed_left : {D : Type 0} (state : D → DeviceState) (honest : D → Type 0) (name : JournalId) (device : D) (sealed : History) (committed : ℕ)
    (answer : Result (Unit {0}) JournalError) (u : Unit {0}) → answer ≡ Ok u → IsEndedBy state honest name device sealed committed answer → honest device →
    IsLeftClosed (state device)
unfolding IsError
closed_left state honest name device sealed committed (Ok v) u same ended told = record {
  sealed = sealed;
  each = λ image leaves.
      let end = ended.closed in subst (λ (shape : Shape). IsClosed shape sealed image) (end.shape ∙ sym end.did.left.shape) (end.did.clean told image leaves);
}
closed_left state honest name device sealed committed (Err e) u same ended told = absurd (subst IsError same tt)
