-- A read without a handle: the front hands out a copy, the engine reads, or the read is refused.
use Rattle.std.proofs.Common.{refl, sym, ap, ◌∙◌}
use Rattle.std.specs.Prelude.{◌≡◌, ℕ, List, false, Some, None}
use Rattle.std.proofs.lemmas.Bool.{true≢false}
use Rattle.std.proofs.lemmas.Option.{none-some}
use Rattle.journal_model.specs.declared.entry.Entry.TheVariants.{Copy}
use Rattle.journal_model.specs.declared.refusal.JournalError.{JournalError}
use Rattle.journal_model.specs.Transaction.{last_effect}
use Rattle.block_device.specs.State.{DeviceState, Stays}
use Rattle.journal_world.specs.Checkpoint.{IsPending, IsRead}
use Rattle.journal_world.specs.Engine.{Engine}
use Rattle.journal_world.specs.Front.{Front, aborting, unfinished}
use Rattle.journal_world.specs.Journal.{Journal}
use Rattle.journal_world.specs.Sound.{IsPlain}
use Rattle.log_engine.specs.Engine.{EngineValue, ReadRefused}
use Rattle.log_engine.specs.Engine.ReadRefused.{ReadAborted, ReadFailed, ReadOutside}
use Rattle.journal_front.specs.Front.{MayTouch}
use Rattle.journal_steps.specs.Journal.{Agrees, NewestRefused, NewestDid}
use Rattle.journal_steps.specs.Journal.NewestRefused.{NewestFailed}
use Rattle.journal_steps.specs.Values.{together}
use Rattle.journal_steps.proofs.Reading.{kept-pending, seen-kept, seen-read}
use Rattle.journal_steps.proofs.Sealing.{allowed-here}

-- equal copies have equal bytes
some-copy : (v w : List ℕ) → Some (Copy v) ≡ Some (Copy w) → v ≡ w
some-copy v w same = cc

module _ {D : Type 0} (state : D → DeviceState) (honest : D → Type 0) (f : Front) (old : EngineValue D) (b : ℕ) (agrees : Agrees (together f old).journal)
    (plain : IsPlain old.engine) (running : f.aborted ≡ false) (may : MayTouch f b) where
  -- the front hands out the copy that it keeps
  pub hands-copy : (v : List ℕ) → last_effect b (unfinished f) ≡ Some (Copy v) → NewestDid state honest (together f old) b v (together f old)
  hands-copy v last = record {
    running = running;
    allowed = may;
    same = refl;
    sees = λ well. seen-kept (together f old).journal agrees plain (state old.device).disk b v last;
    copied = λ w is. (some-copy v w (sym last ∙ is), refl);
    pending = λ none i w is. absurd (none-some (Copy v) (sym none ∙ last));
  }

  -- it keeps none, and the engine reads
  pub reads-newest : (new : EngineValue D) (v : List ℕ) → last_effect b (unfinished f) ≡ None → (honest new.device → IsRead old.engine (state old.device).disk b v) →
      new.engine ≡ old.engine → ((i : ℕ) (w : List ℕ) → IsPending old.engine i b w → (v ≡ w) × (new ≡ old)) →
      NewestDid state honest (together f old) b v (together f new)
  reads-newest new v none reads same pending = record {
    running = running;
    allowed = may;
    same = ap (λ (e : Engine). let j : Journal = record { front = f; engine = e } in j) same;
    sees = λ well. seen-read (together f old).journal agrees plain (state old.device).disk b v none (reads well);
    copied = λ w is. absurd (none-some (Copy w) (sym none ∙ is));
    pending = λ still i w is. let p = pending i w is in (p.0, ap (λ (x : EngineValue D). together f x) p.1);
  }

  -- or the device failed, and the front is notified
  pub refused-newest : (front : Front) (new : EngineValue D) (e : JournalError) → last_effect b (unfinished f) ≡ None → Stays (state old.device) (state new.device) →
      front ≡ aborting f → ReadRefused state old b new e → NewestRefused state (together f old) b (together front new) e
  refused-newest front new e none stays told (ReadAborted is same) = absurd (true≢false (sym is ∙ sym agrees.aborted ∙ running))
  refused-newest front new e none stays told (ReadOutside on outside same) = absurd (outside (allowed-here agrees.layout agrees.home_blocks may))
  refused-newest front new e none stays told (ReadFailed on touched unkept same counted) =
      NewestFailed running may none (kept-pending (together f old).journal b ⊥ none unkept)
      (record { running = sym agrees.aborted ∙ running; front = told; engine = same; disk_is = stays.disk }) counted refl
