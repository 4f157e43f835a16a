-- A read without a handle of a block with a copy in the front.
use Rattle.std.proofs.Common.{arith, refl, ap, ◌∙◌}
use Rattle.std.specs.Prelude.{◌≡◌, ◌≢◌, ℕ, List, length, Bool, true, false, Some, Result, Ok, Err, IfErr, IfOk}
use Rattle.std.proofs.lemmas.Result.{IfErr-weaker}
use Rattle.journal_model.specs.declared.entry.Entry.TheVariants.{Copy, Revoke as RevokeEntry}
use Rattle.journal_model.specs.declared.refusal.JournalError.{JournalError}
use Rattle.journal_model.specs.declared.refusal.JournalError.TheVariants.{Device, Revoked}
use Rattle.journal_model.specs.Refusal.{number_of}
use Rattle.journal_model.specs.Transaction.{last_effect}
use Rattle.block_device.specs.State.{DeviceState}
use Rattle.journal_world.specs.Front.{Front, unfinished}
use Rattle.log_engine.specs.Engine.{EngineValue}
use Rattle.journal_front.specs.Front.{MayTouch}
use Rattle.journal_steps.specs.Journal.{HandsOut, NewestRefused}
use Rattle.journal_steps.specs.Journal.NewestRefused.{NewestRevoked}
use Rattle.journal_steps.specs.Values.{together}
use Rattle.journal_steps.proofs.Newest.{hands-copy}
use Rattle.journal_steps.proofs.Reading.{kept-whole}
use Rattle.locked_journal.specs.Sides.{HeldNewestDid}
use Rattle.locked_journal.proofs.HeldReads.{IsFrontSide}

-- A refusal as `Revoked` is none as `Device`.
not-device : (e : JournalError) → e ≡ Revoked → e ≢ Device
not-device e revoked device =
    let one : number_of e ≡ 12 = ap number_of revoked in
    let other : number_of e ≡ 2 = ap number_of device in
    omega (arith, one, other)

module _ {D : Type 0} (state : D → DeviceState) (honest : D → Type 0) (f : Front) (reconciled : EngineValue D) (b : ℕ) (side : IsFrontSide state honest f reconciled) where
  -- A held copy is a whole block.
  pub held-whole : (v : List ℕ) → last_effect b (unfinished f) ≡ Some (Copy v) → length v ≡ (state reconciled.device).shape.block_size
  held-whole v last = kept-whole (together f reconciled).journal b v side.agrees side.plain last ∙ ap (λ s. s.block_size) side.shape

  module _ (running : f.aborted ≡ false) (may : MayTouch f b) where
    -- The front returns what a read is to see.
    pub newest-did : (r : Result Bool JournalError) (before v : List ℕ) → IfOk r (λ held. HandsOut f b before held v) →
        IfOk r (λ held. HeldNewestDid state honest held b before v (together f reconciled))
    newest-did (Ok true) before v last = (hands-copy state honest f reconciled b side.agrees side.plain running may v last, last)
    newest-did (Ok false) before v none = (running, may, none.0, none.1)
    newest-did (Err e) before v ok = ok

    -- It returns nothing of a revoked block.
    pub newest-refused : (r : Result Bool JournalError) (before v : List ℕ) →
        IfErr r (λ e. (e ≡ Revoked) × (last_effect b (unfinished f) ≡ Some RevokeEntry) × (v ≡ before)) →
        IfErr r (λ e. NewestRefused state (together f reconciled) b (together f reconciled) e × (e ≢ Device) × (v ≡ before))
    newest-refused r before v err =
        IfErr-weaker r (λ e. (e ≡ Revoked) × (last_effect b (unfinished f) ≡ Some RevokeEntry) × (v ≡ before))
        (λ e. NewestRefused state (together f reconciled) b (together f reconciled) e × (e ≢ Device) × (v ≡ before))
        (λ e why. (NewestRevoked running may why.1 refl why.0, not-device e why.0, why.2)) err
