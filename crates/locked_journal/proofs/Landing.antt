-- A step that follows a reconciliation is one of the reconciled journal.
use Rattle.std.proofs.Common.{sym, ap, subst, ◌∙◌}
use Rattle.std.specs.Prelude.{◌≡◌, Result, Ok, Err, IfErr, IfOk}
use Rattle.journal_model.specs.declared.refusal.JournalError.{JournalError}
use Rattle.block_device.specs.State.{DeviceState}
use Rattle.journal_world.specs.Front.{Front}
use Rattle.log_engine.specs.Engine.{EngineValue}
use Rattle.journal_steps.specs.Journal.{Agrees}
use Rattle.journal_steps.specs.Legal.{KeepsLegal}
use Rattle.journal_steps.specs.Values.{JournalValue, together}
use Rattle.locked_journal.specs.Sides.{Reconciles, ReconcilesAnd, engine_of}

module _ {D : Type 0} (f : Front) (reconciled e arg : EngineValue D) (mid : JournalValue D) (view : together f reconciled ≡ mid) (engine_is : engine_of mid ≡ arg)
    (same : e ≡ arg) where
  reconciled-is : e ≡ reconciled
  reconciled-is = same ∙ (sym engine_is ∙ sym (ap (λ (v : JournalValue D). engine_of v) view))

  -- Both sides are the reconciled journal.
  pub mid-is : together f e ≡ mid
  mid-is = ap (λ (v : EngineValue D). together f v) reconciled-is ∙ view

  -- Its record is as legal as the front's.
  pub mid-legal : (honest : D → Type 0) → KeepsLegal honest (together f reconciled) → KeepsLegal honest (together f e)
  mid-legal honest legal = subst (λ (v : EngineValue D). KeepsLegal honest (together f v)) (sym reconciled-is) legal

-- The front knows the block size.
pub block-size : {D : Type 0} (state : D → DeviceState) (front : JournalValue D) (e arg : EngineValue D) (mid : JournalValue D) → Reconciles state front arg mid →
    e ≡ arg → (state front.device).shape.block_size ≡ (state e.device).shape.block_size
block-size {D} state front e arg mid reconciles same =
    sym (ap (λ s. s.block_size) reconciles.measures) ∙ ap (λ (v : EngineValue D). (state v.device).shape.block_size) (reconciles.engine_is ∙ sym same)

-- After the step the front keeps the engine as it then is.
pub lands : {D : Type 0} (honest : D → Type 0) (front : Front) (new seen : EngineValue D) → seen ≡ new → Agrees (together front new).journal →
    KeepsLegal honest (together front new) → Agrees (together front seen).journal × KeepsLegal honest (together front seen)
lands {D} honest front new seen is agrees legal =
    subst (λ (v : EngineValue D). Agrees (together front v).journal × KeepsLegal honest (together front v)) (sym is) (agrees, legal)

-- The step was one of the reconciled journal.
pub made : {D : Type 0} (state : D → DeviceState) (front : JournalValue D) (engine : EngineValue D) (old mid new last : JournalValue D) → old ≡ mid → new ≡ last →
    Reconciles state front engine mid → (P : JournalValue D → JournalValue D → Type 0) → P old new → ReconcilesAnd state front engine (λ (x : JournalValue D). P x last)
made {D} state front engine old mid new last was is reconciles P did = record {
  mid = mid;
  reconciles = reconciles;
  did = subst (λ (z : JournalValue D). P z last) was (subst (λ (z : JournalValue D). P old z) is did);
}

module _ {D A : Type 0} (state : D → DeviceState) (front : JournalValue D) (engine : EngineValue D) (old mid new last : JournalValue D)
    (was : old ≡ mid) (is : new ≡ last) (reconciles : Reconciles state front engine mid) where
  pub if-ok : (P : A → JournalValue D → JournalValue D → Type 0) (r : Result A JournalError) → IfOk r (λ a. P a old new) →
      IfOk r (λ a. ReconcilesAnd state front engine (λ (x : JournalValue D). P a x last))
  if-ok P (Ok a) did = made state front engine old mid new last was is reconciles (P a) did
  if-ok P (Err e) did = did

  pub if-err : (P : JournalError → JournalValue D → JournalValue D → Type 0) (r : Result A JournalError) → IfErr r (λ e. P e old new) →
      IfErr r (λ e. ReconcilesAnd state front engine (λ (x : JournalValue D). P e x last))
  if-err P (Ok a) did = did
  if-err P (Err e) did = made state front engine old mid new last was is reconciles (P e) did
