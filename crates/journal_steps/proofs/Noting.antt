-- A read whose step is noted, or out of memory: what it leaves.
use Rattle.std.proofs.Common.{refl, sym, ap, subst, ◌∙◌}
use Rattle.std.proofs.lemmas.Result.{IfErr-weaker}
use Rattle.std.specs.Prelude.{◌≡◌, ℕ, List, length, Result, Ok, Err, IfErr, OnOk, Some}
use Rattle.journal_model.specs.declared.entry.Entry.TheVariants.{Revoke as RevokeEntry}
use Rattle.journal_model.specs.declared.refusal.JournalError.{JournalError}
use Rattle.journal_model.specs.declared.refusal.JournalError.TheVariants.{Memory}
use Rattle.journal_model.specs.Transaction.{last_effect}
use Rattle.block_device.specs.State.{DeviceState, Stays}
use Rattle.journal_world.specs.Engine.{Engine}
use Rattle.journal_world.specs.Front.{Front, IsOpen, reading_block, unfinished}
use Rattle.journal_world.specs.Journal.{Journal}
use Rattle.journal_world.specs.Journal.Event.{ReadBlock}
use Rattle.log_engine.specs.Engine.{EngineValue}
use Rattle.journal_front.specs.Front.{MayStep}
use Rattle.journal_front.specs.Values.{HandleValue}
use Rattle.journal_steps.specs.Journal.{Agrees, Does, HasCopyKept, NoCopy, RegistersRead, ReadRefused}
use Rattle.journal_steps.specs.Journal.NoCopy.{OfMemory, OfRevoke}
use Rattle.journal_steps.specs.Journal.ReadRefused.{ReadRevoked, ReadUnnoted}
use Rattle.journal_steps.specs.Values.{JournalValue, together}
use Rattle.journal_steps.specs.Verbs.{Reads}
use Rattle.journal_steps.proofs.Reading.{IsSeen}
use Rattle.journal_steps.proofs.Rounding.{reads-block}
use Rattle.journal_steps.proofs.Sealing.{agrees-read}

-- if the front has no copy to hand out, the read is refused
pub unheld : {D : Type 0} (state : D → DeviceState) (old : JournalValue D) (h : HandleValue) (b : ℕ) (e : JournalError) → MayStep old.journal.front h b →
    NoCopy old.journal.front b e → ReadRefused state old h b old e
unheld state old h b e may (OfRevoke last is) = ReadRevoked may last refl is
unheld state old h b e may (OfMemory other is) = ReadUnnoted may other refl refl is

module _ {A D : Type 0} (state : D → DeviceState) (honest : D → Type 0) (f front : Front) (old new : EngineValue D) (h : HandleValue) (b : ℕ) (v into before : List ℕ)
    (r : Result A JournalError) (may : MayStep f h b) (agrees : Agrees (together f old).journal) (whole : length v ≡ old.engine.shape.block_size)
    (same : new.engine ≡ old.engine) (noted : OnOk r ((front ≡ reading_block f h.number b v) × (into ≡ v)))
    (unnoted : IfErr r (λ e. (e ≡ Memory) × (front ≡ f) × (into ≡ before))) where
  here : Agrees (record { front = f; engine = new.engine })
  here = subst (λ (e : Engine). Agrees (record { front = f; engine = e })) (sym same) agrees

  by-agrees : (r : Result A JournalError) → OnOk r ((front ≡ reading_block f h.number b v) × (into ≡ v)) → IfErr r (λ e. (e ≡ Memory) × (front ≡ f) × (into ≡ before)) →
      OnOk r (IsOpen f h.number) → Agrees (together front new).journal
  by-agrees (Ok a) noted unnoted is =
      agrees-read f front new.engine h.number b v here (whole ∙ ap (λ (e : Engine). e.shape.block_size) (sym same)) may.allowed is noted.0
  by-agrees (Err e) noted unnoted is = subst (λ (x : Front). Agrees (record { front = x; engine = new.engine })) (sym unnoted.1) here

  -- front and engine agree
  pub noted-agrees : OnOk r (IsOpen f h.number) → Agrees (together front new).journal
  noted-agrees is = by-agrees r noted unnoted is

  by-does : (r : Result A JournalError) → OnOk r ((front ≡ reading_block f h.number b v) × (into ≡ v)) → OnOk r (IsOpen f h.number) →
      (honest new.device → IsSeen (together f old).journal (state old.device).disk b v) → Stays (state old.device) (state new.device) →
      OnOk r (honest new.device → Does state (together f old) (ReadBlock h.number b into) (together front new))
  by-does (Ok a) noted is sees stays = λ well.
      subst (λ (u : List ℕ). Does state (together f old) (ReadBlock h.number b u) (together front new)) (sym noted.1)
      (reads-block f front old.engine new.engine (state old.device).disk (state new.device).disk h b v may is (sees well) noted.0 same stays.disk)
  by-does (Err e) noted is sees stays = is

  -- it is the machine's read
  noted-does : OnOk r (IsOpen f h.number) → (honest new.device → IsSeen (together f old).journal (state old.device).disk b v) →
      Stays (state old.device) (state new.device) → OnOk r (honest new.device → Does state (together f old) (ReadBlock h.number b into) (together front new))
  noted-does is sees stays = by-does r noted is sees stays

  by-notes : (r : Result A JournalError) → OnOk r ((front ≡ reading_block f h.number b v) × (into ≡ v)) →
      (HasCopyKept (together f old).journal b → new.device ≡ old.device) → OnOk r (RegistersRead state (together f old) h b into (together front new))
  by-notes (Ok a) noted kept =
      subst (λ (u : List ℕ). RegistersRead state (together f old) h b u (together front new)) (sym noted.1)
      (record { may = may; front = noted.0; engine = same; kept = kept })
  by-notes (Err e) noted kept = noted

  -- with these bytes, even if the device's reads are incorrect
  noted-notes : (HasCopyKept (together f old).journal b → new.device ≡ old.device) → OnOk r (RegistersRead state (together f old) h b into (together front new))
  noted-notes kept = by-notes r noted kept

  by-refused : (r : Result A JournalError) → IfErr r (λ e. (e ≡ Memory) × (front ≡ f) × (into ≡ before)) → (last_effect b (unfinished f) ≡ Some RevokeEntry → ⊥) →
      (state new.device).faults ≡ (state old.device).faults → IfErr r (ReadRefused state (together f old) h b (together front new))
  by-refused (Ok a) unnoted other faults = unnoted
  by-refused (Err e) unnoted other faults = ReadUnnoted may other journal faults unnoted.0
    where
      journal : (together front new).journal ≡ (together f old).journal
      journal =
          ap (λ (x : Front). let j : Journal = record { front = x; engine = new.engine } in j) unnoted.1
          ∙ ap (λ (e : Engine). let j : Journal = record { front = f; engine = e } in j) same

  -- if it is refused, memory ran out
  noted-refused : (last_effect b (unfinished f) ≡ Some RevokeEntry → ⊥) → (state new.device).faults ≡ (state old.device).faults →
      IfErr r (ReadRefused state (together f old) h b (together front new))
  noted-refused other faults = by-refused r unnoted other faults

  -- so it is a read, whatever it answers
  pub noted-reads : OnOk r (IsOpen f h.number) → (honest new.device → IsSeen (together f old).journal (state old.device).disk b v) →
      Stays (state old.device) (state new.device) → (HasCopyKept (together f old).journal b → new.device ≡ old.device) →
      (last_effect b (unfinished f) ≡ Some RevokeEntry → ⊥) → (state new.device).faults ≡ (state old.device).faults → length into ≡ length before →
      Reads state honest (together f old) h b before into (together front new) r
  noted-reads is sees stays kept other faults length_is = record {
    ok = noted-does is sees stays;
    registers = noted-notes kept;
    err = noted-refused other faults;
    untouched = IfErr-weaker r _ _ (λ e why. why.2) unnoted;
    same_length = length_is;
  }
