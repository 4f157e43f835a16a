-- Direct writes of a journal: the right to them, and that front and engine agree after a direct call.
use Rattle.std.proofs.Common.{inl, refl, sym, ap, ap₂, subst, ◌∙◌}
use Rattle.std.specs.Prelude.{◌≡◌, Bool, ℕ, true, false, List, [], ◌∷◌, ◌++◌, length, drop, Option, Some, None}
use Rattle.std.proofs.Math.Seq.{drop-append_seam, take-append_seam}
use Rattle.std.proofs.lemmas.Bool.{true≢false}
use Rattle.std.proofs.lemmas.List.{drop-append-le, take-append-le}
use Rattle.std.proofs.lemmas.Option.{none-some}
use Rattle.journal_model.specs.declared.entry.Entry.{Entry}
use Rattle.journal_model.specs.declared.refusal.JournalError.{JournalError}
use Rattle.journal_model.specs.Disk.{Disk}
use Rattle.journal_model.specs.Transaction.{History, content_of, effect, last_effect, later}
use Rattle.block_device.specs.State.{DeviceState, EachMoment}
use Rattle.journal_world.specs.Call.{Call}
use Rattle.journal_world.specs.Direct.{DirectFaults, DirectSteps, IsLeftToHome}
use Rattle.journal_world.specs.Engine.{Engine}
use Rattle.journal_world.specs.Front.{Front, IsUntouched, aborting, finished_count}
use Rattle.journal_world.specs.Journal.{Journal}
use Rattle.journal_world.specs.Sound.{IsPlain}
use Rattle.journal_world.proofs.DirectRights.{front-right, left-or_right}
use Rattle.journal_world.proofs.Elements.{all-weaker}
use Rattle.log_engine.specs.Direct.{DirectSyncRefused as EngineSyncRefused, DirectWriteRefused as EngineWriteRefused, IsDuringDirectSync as SyncMoment, IsDuringDirectWrite as WriteMoment}
use Rattle.log_engine.specs.Direct.DirectWriteRefused.{WriteAborted as AbortedEngine, WriteOutside as OutsideEngine, WriteNotDirect as EngineHasEntries, WriteFailed as FailedEngine}
use Rattle.log_engine.specs.Direct.DirectSyncRefused.{SyncAborted as AbortedSync, SyncFailed as FailedSync}
use Rattle.log_engine.specs.Engine.{EngineValue}
use Rattle.journal_steps.specs.Direct.{DirectSyncRefused, DirectWriteRefused, IsDuringDirectSync, IsDuringDirectWrite, MayWriteDirectly}
use Rattle.journal_steps.specs.Direct.DirectSyncRefused.{SyncAborted, SyncFailed}
use Rattle.journal_steps.specs.Direct.DirectWriteRefused.{WriteFailed, WriteNotDirect}
use Rattle.journal_front.specs.Front.{MayTouch}
use Rattle.journal_steps.specs.Journal.{Agrees, OpensNow}
use Rattle.journal_steps.proofs.Reading.{all, few, finished-is, last-from}
use Rattle.journal_steps.proofs.Rounding.{told-again}
use Rattle.journal_steps.proofs.Sealing.{agrees-told, allowed-here}
use Rattle.journal_steps.proofs.Turning.{opens-now}

-- if transactions and one more have no effect, the first have none
first-none : (x y : Option Entry) → later x y ≡ None → x ≡ None
first-none x None none = none
first-none x (Some e) none = absurd (none-some e (sym none))

module _ (j : Journal) (agrees : Agrees j) (plain : IsPlain j.engine) (b : ℕ) where
  -- a block may be written directly if the front has no unfinished entry of it and the engine leaves it to home
  pub right-from : IsUntouched j.front b → IsLeftToHome j.engine b → MayWriteDirectly j b
  right-from untouched left = front-right j.front j.engine b agrees.batches (few j agrees plain) untouched left

  -- then the engine's uncommitted transactions have no entry of it either
  untouched-below : IsUntouched j.front b → last_effect b (drop j.engine.committed j.front.sealed) ≡ None
  untouched-below untouched =
      let c = j.engine.committed in
      let behind : drop c (all j agrees plain) ≡ drop c j.front.sealed ++ j.front.running ∷ [] =
      drop-append-le c j.front.sealed (j.front.running ∷ []) (few j agrees plain) in
      let both : last_effect b (drop c j.front.sealed ++ j.front.running ∷ []) ≡ later (last_effect b (drop c j.front.sealed)) (effect b j.front.running.steps) =
      last-from b (length (drop c j.front.sealed)) (drop c j.front.sealed ++ j.front.running ∷ [])
      ∙ ap₂ (λ (ts us : History). later (last_effect b ts) (last_effect b us)) (take-append_seam (drop c j.front.sealed) (j.front.running ∷ []))
      (drop-append_seam (drop c j.front.sealed) (j.front.running ∷ [])) in
      let count : drop (finished_count j.front) (all j agrees plain) ≡ drop c (all j agrees plain) =
      ap (λ (n : ℕ). drop n (all j agrees plain)) (finished-is j agrees plain) in
      first-none (last_effect b (drop c j.front.sealed)) (effect b j.front.running.steps)
      (sym both ∙ ap (last_effect b) (sym behind) ∙ ap (last_effect b) (sym count) ∙ untouched)

  -- a block that may be written directly has no unfinished entry in the front, and the engine leaves it to home
  pub right-gives : MayWriteDirectly j b → IsUntouched j.front b × IsLeftToHome j.engine b
  right-gives right = (
    right.untouched,
    (left-or_right j.engine j.front.sealed b agrees.batches).1
        (record {
          home =
              ap (λ (ts : History). content_of (last_effect b ts)) (sym (take-append-le j.engine.committed j.front.sealed (j.front.running ∷ []) (few j agrees plain)))
              ∙ right.home;
          untouched = untouched-below right.untouched;
        }),
  )

-- each moment of the engine's direct write is one of the journal's
pub each-direct : (j : Journal) (b : ℕ) (v : List ℕ) (before after : DeviceState) → Agrees j → EachMoment (WriteMoment j.engine b v before.disk) before after →
    EachMoment (IsDuringDirectWrite j b v before.disk) before after
each-direct j b v before after agrees each =
    let weaker = λ (disk : Disk) (during : WriteMoment j.engine b v before.disk disk). written disk during in
    record { since = each.since; past = each.past; each = all-weaker _ _ weaker each.since each.each; now = weaker after.disk each.now }
  where
    written : (disk : Disk) → WriteMoment j.engine b v before.disk disk → IsDuringDirectWrite j b v before.disk disk
    written disk during = record { home = during.home; opens = opens-now j disk agrees during.opens }

-- so is each moment of its flush of home
pub each-sync : (j : Journal) (before after : DeviceState) → Agrees j → EachMoment (SyncMoment j.engine before.disk) before after →
    EachMoment (IsDuringDirectSync j before.disk) before after
each-sync j before after agrees each =
    let weaker = λ (disk : Disk) (during : SyncMoment j.engine before.disk disk). flushed disk during in
    record { since = each.since; past = each.past; each = all-weaker _ _ weaker each.since each.each; now = weaker after.disk each.now }
  where
    flushed : (disk : Disk) → SyncMoment j.engine before.disk disk → IsDuringDirectSync j before.disk disk
    flushed disk during = record { home = during.home; opens = opens-now j disk agrees during.opens }

-- a successful direct call changes neither front nor engine, which agree
pub agrees-direct : (f : Front) (old new : Engine) (disk after : Disk) (call : Call) → Agrees (record { front = f; engine = old }) →
    DirectSteps old disk call new after → Agrees (record { front = f; engine = new })
agrees-direct f old new disk after call agrees step = subst (λ (e : Engine). Agrees (record { front = f; engine = e })) (sym step.engine) agrees

-- they agree after a failed one, once the front is notified
pub agrees-direct_fault : (f front : Front) (old new : Engine) (disk after : Disk) (call : Call) → Agrees (record { front = f; engine = old }) →
    front ≡ aborting f → DirectFaults old disk call new after → Agrees (record { front = front; engine = new })
agrees-direct_fault f front old new disk after call agrees told fault =
    subst (λ (x : Front). Agrees (record { front = x; engine = new })) (sym told)
    (subst (λ (e : Engine). Agrees (record { front = aborting f; engine = e })) (sym fault.engine)
    (agrees-told f old (record old { aborted = true }) agrees (record { shape = refl; layout = refl; accepted = refl; first = refl; ring = refl }) true refl refl))

-- a direct write refused before its call leaves the disk as in one
pub during-unwritten : (j : Journal) (b : ℕ) (v : List ℕ) (disk : Disk) → OpensNow j disk → IsDuringDirectWrite j b v disk disk
during-unwritten j b v disk opens = record {
  home = record { adds = λ ts are. record { reads = λ c. inl refl; left = λ c w one. inl one } };
  opens = opens;
}

-- a front notified of what it has recorded stays as it was
told-same : (f : Front) (aborted : Bool) → aborted ≡ f.aborted → record f { aborted = aborted } ≡ f
told-same f aborted same = ap (λ (a : Bool). record f { aborted = a }) same

-- so it does if an unchanged engine notifies it
told-unchanged : {D : Type 0} (f front : Front) (old new : EngineValue D) → Agrees (record { front = f; engine = old.engine }) →
    front ≡ record f { aborted = new.engine.aborted } → new ≡ old → front ≡ f
told-unchanged {D} f front old new agrees told unchanged =
    told ∙ told-same f new.engine.aborted (ap (λ (x : EngineValue D). x.engine.aborted) unchanged ∙ sym agrees.aborted)

-- then they agree
agrees-unchanged : {D : Type 0} (f front : Front) (old new : EngineValue D) → Agrees (record { front = f; engine = old.engine }) →
    front ≡ record f { aborted = new.engine.aborted } → new ≡ old → Agrees (record { front = front; engine = new.engine })
agrees-unchanged {D} f front old new agrees told unchanged =
    subst (λ (x : Front). Agrees (record { front = x; engine = new.engine })) (sym (told-unchanged f front old new agrees told unchanged))
    (subst (λ (x : EngineValue D). Agrees (record { front = f; engine = x.engine })) (sym unchanged) agrees)

-- they agree after a refused direct write, once the engine notifies the front
pub agrees-unwritten : {D : Type 0} (state : D → DeviceState) (f front : Front) (old new : EngineValue D) (b : ℕ) (v : List ℕ) (e : JournalError) →
    Agrees (record { front = f; engine = old.engine }) → front ≡ record f { aborted = new.engine.aborted } → EngineWriteRefused state old b v new e →
    Agrees (record { front = front; engine = new.engine })
agrees-unwritten state f front old new b v e agrees told (AbortedEngine is unchanged) = agrees-unchanged f front old new agrees told unchanged
agrees-unwritten state f front old new b v e agrees told (OutsideEngine on none unchanged) = agrees-unchanged f front old new agrees told unchanged
agrees-unwritten state f front old new b v e agrees told (EngineHasEntries on may none unchanged) = agrees-unchanged f front old new agrees told unchanged
agrees-unwritten state f front old new b v e agrees told (FailedEngine fault counted) =
    agrees-direct_fault f front old.engine new.engine _ _ _ agrees (told ∙ ap (λ (x : Engine). record f { aborted = x.aborted }) fault.engine) fault

-- if the front has no entry of the block, the engine's refusal of a direct write is the journal's
pub refused-direct : {D : Type 0} (state : D → DeviceState) (f front : Front) (old new : EngineValue D) (b : ℕ) (v : List ℕ) (e : JournalError) →
    Agrees (record { front = f; engine = old.engine }) → IsPlain old.engine → old.engine.aborted ≡ false → MayTouch f b → IsUntouched f b →
    front ≡ record f { aborted = new.engine.aborted } → EngineWriteRefused state old b v new e →
    DirectWriteRefused state (record { device = old.device; journal = record { front = f; engine = old.engine } }) b v
    (record { device = new.device; journal = record { front = front; engine = new.engine } }) e
refused-direct state f front old new b v e agrees plain running may untouched told (AbortedEngine is unchanged) = absurd (true≢false (sym is ∙ running))
refused-direct state f front old new b v e agrees plain running may untouched told (OutsideEngine on none unchanged) =
    absurd (none (allowed-here agrees.layout agrees.home_blocks may))
refused-direct {D} state f front old new b v e agrees plain running may untouched told (EngineHasEntries on allowed none unchanged) =
    WriteNotDirect on may (λ right. none (right-gives (record { front = f; engine = old.engine }) agrees plain b right).1)
    (ap₂ (λ (x : EngineValue D) (y : Front). record { device = x.device; journal = record { front = y; engine = x.engine } }) unchanged
    (told-unchanged f front old new agrees told unchanged))
refused-direct state f front old new b v e agrees plain running may untouched told (FailedEngine fault counted) =
    WriteFailed
    (record {
      untouched = untouched;
      front = told ∙ ap (λ (x : Engine). record f { aborted = x.aborted }) fault.engine;
      engine = fault;
    })
    counted

-- they agree after a refused flush of home, once the front is notified
pub agrees-unsynced : {D : Type 0} (state : D → DeviceState) (f front : Front) (old new : EngineValue D) (e : JournalError) →
    Agrees (record { front = f; engine = old.engine }) → front ≡ aborting f → EngineSyncRefused state old new e →
    Agrees (record { front = front; engine = new.engine })
agrees-unsynced {D} state f front old new e agrees told (AbortedSync is unchanged) =
    let engine : new.engine ≡ old.engine = ap (λ (x : EngineValue D). x.engine) unchanged in
    subst (λ (x : Front). Agrees (record { front = x; engine = new.engine })) (sym (told ∙ told-again f old.engine agrees is))
    (subst (λ (x : Engine). Agrees (record { front = f; engine = x })) (sym engine) agrees)
agrees-unsynced {D} state f front old new e agrees told (FailedSync fault counted) =
    agrees-direct_fault f front old.engine new.engine _ _ _ agrees told fault

pub refused-sync : {D : Type 0} (state : D → DeviceState) (f front : Front) (old new : EngineValue D) (e : JournalError) →
    Agrees (record { front = f; engine = old.engine }) → front ≡ aborting f → EngineSyncRefused state old new e →
    DirectSyncRefused state (record { device = old.device; journal = record { front = f; engine = old.engine } })
    (record { device = new.device; journal = record { front = front; engine = new.engine } }) e
refused-sync {D} state f front old new e agrees told (AbortedSync is unchanged) =
    SyncAborted is
    (ap₂ (λ (x : EngineValue D) (y : Front). record { device = x.device; journal = record { front = y; engine = x.engine } }) unchanged
    (told ∙ told-again f old.engine agrees is))
refused-sync {D} state f front old new e agrees told (FailedSync fault counted) = SyncFailed (record { front = told; engine = fault }) counted
