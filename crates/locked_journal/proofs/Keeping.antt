-- Each step of a journal preserves the other holders' facts.
use Rattle.std.proofs.Common.{refl, sym, ◌∙◌, ap, subst, arith}
use Rattle.std.specs.Prelude.{◌≡◌, ◌≢◌, ℕ, ◌+◌, ◌≤◌, nat_eq, true, List, [], ◌∷◌, ◌++◌, Some, Contains}
use Rattle.std.specs.Map.{lookup}
use Rattle.std.proofs.lemmas.List.Concat.{flat_map-append, flat_map-cons}
use Rattle.std.proofs.lemmas.List.Elements.{All-contains, All-from_recursion, Contains-append_left, Contains-append_right}
use Rattle.std.proofs.lemmas.Option.{none-some}
use Rattle.journal_model.specs.declared.transaction.Op.{Op}
use Rattle.journal_model.specs.declared.transaction.Op.TheVariants.{Write, Revoke}
use Rattle.journal_model.specs.Disk.{Disk}
use Rattle.journal_model.specs.Transaction.{History, Transaction}
use Rattle.journal_world.specs.Front.{Front, FrontEvent, FrontHappens, IsOpen, MaySeal, extending, handles_of, joining, left_after, next_handle, read_step, reading_block, sealing, stopping, touching, transactions}
use Rattle.journal_world.specs.Front.FrontEvent.{Reserve, RefuseReserve, TakeBack, GiveBack, LoadCredits, LoadMark, Join, ExtendHandle, WriteBlock, RevokeBlock, StopHandle, Lock, Raise}
use Rattle.journal_world.specs.Journal.{Event, Happens, Journal}
use Rattle.journal_world.specs.Journal.Event.{FrontStep, Seal, CommitStep, CommitFault, CheckpointStep, CheckpointFault, ReadBlock, ReadFault, DirectWrite, DirectWriteFault, DirectSync, DirectSyncFault, Finish, AbortMark}
use Rattle.journal_steps.specs.Handles.{KeepsHandles}
use Rattle.journal_steps.proofs.Audited.{has-handles}
use Rattle.locked_journal.specs.declared.own.HandleStage.{HandleStage}
use Rattle.locked_journal.specs.declared.own.HandleStage.TheVariants.{Open, Stopped, Asked}
use Rattle.locked_journal.specs.declared.own.OwnSteps.{OwnSteps}
use Rattle.locked_journal.specs.Knowing.{actor, handle_of}
use Rattle.locked_journal.specs.Own.{IsOwn, StageHolds, Stands, credits_of, steps_by}
use Rattle.locked_journal.proofs.Lists.{lookup-changed, lookup-push, lookup-without, steps-of_other}
use Rattle.locked_journal.proofs.Standing.{SameFor, stands-seal, still-own, tid-least}

-- The handle of a recorded transaction is one of the record's.
pub in-record : (ts before : History) (t : Transaction) (behind : History) (n : ℕ) → ts ≡ before ++ t ∷ behind → Contains t.handles n →
    Contains (handles_of ts) n
in-record ts before t behind n is joined =
    let parts : handles_of ts ≡ handles_of before ++ (t.handles ++ handles_of behind) =
    ap (λ (l : History). handles_of l) is
    ∙ (flat_map-append (λ x. x.handles) before (t ∷ behind) ∙ ap (λ (l : List ℕ). handles_of before ++ l) (flat_map-cons (λ x. x.handles) t behind)) in
    subst (λ (hs : List ℕ). Contains hs n) (sym parts)
    (Contains-append_right (handles_of before) (t.handles ++ handles_of behind) n (Contains-append_left t.handles (handles_of behind) n joined))

-- A holder's handle was given out.
pub given-least : (f : Front) (x : OwnSteps) → KeepsHandles f → Stands f x → x.number ≤ f.given
given-least f x kept stands =
    All-contains (λ n. n ≤ f.given) (handles_of (transactions f)) x.number (All-from_recursion (λ n. n ≤ f.given) (handles_of (transactions f)) (has-handles f kept).least)
    (in-record (transactions f) stands.before stands.transaction stands.behind x.number stands.among stands.joined)

-- So it is not the next one to be given.
pub next-other : (f : Front) (x : OwnSteps) → KeepsHandles f → Stands f x → next_handle f ≢ x.number
next-other f x kept stands = λ same. let low = given-least f x kept stands in absurd (omega arith)

module _ (f : Front) (n : ℕ) where
  -- The front's handles and transactions do not change.
  pub same-beside : (g : Front) → g.sealed ≡ f.sealed → g.running ≡ f.running → g.open_handles ≡ f.open_handles →
      (f.locked ≡ true → g.locked ≡ true) → SameFor n f g
  same-beside g sealed running open_handles locked = record {
    sealed = sealed;
    tid = ap (λ (t : Transaction). t.tid) running;
    handles = subst (λ (t : Transaction). Contains t.handles n) (sym running);
    steps = ap (λ (t : Transaction). steps_by n t.steps) running;
    credits = ap (λ (hs : List (ℕ × ℕ)). lookup (nat_eq n) hs) open_handles;
    locked = locked;
  }

  same-join : (credits : ℕ) → next_handle f ≢ n → SameFor n f (joining f credits)
  same-join credits other = record {
    sealed = refl;
    tid = refl;
    handles = Contains-append_left f.running.handles (next_handle f ∷ []) n;
    steps = refl;
    credits = lookup-push n (next_handle f) credits f.open_handles other;
    locked = λ is. is;
  }

  same-extend : (h credits : ℕ) (handle : IsOpen f h) → h ≢ n → SameFor n f (extending f h credits handle)
  same-extend h credits handle other = record {
    sealed = refl;
    tid = refl;
    handles = λ is. is;
    steps = refl;
    credits = lookup-changed n h handle.left (handle.left + credits) handle.before handle.behind other
        ∙ ap (λ (hs : List (ℕ × ℕ)). lookup (nat_eq n) hs) (sym handle.stands);
    locked = λ is. is;
  }

  same-touch : (h b : ℕ) (op : Op) (handle : IsOpen f h) → h ≢ n → SameFor n f (touching f h b op handle)
  same-touch h b op handle other = record {
    sealed = refl;
    tid = refl;
    handles = λ is. is;
    steps = steps-of_other n f.running.steps (record { handle = h; block = b; op = op }) other;
    credits = lookup-changed n h handle.left (left_after f b handle.left) handle.before handle.behind other
        ∙ ap (λ (hs : List (ℕ × ℕ)). lookup (nat_eq n) hs) (sym handle.stands);
    locked = λ is. is;
  }

  same-stop : (h : ℕ) (handle : IsOpen f h) → h ≢ n → SameFor n f (stopping f h handle)
  same-stop h handle other = record {
    sealed = refl;
    tid = refl;
    handles = λ is. is;
    steps = refl;
    credits = sym (lookup-without n h handle.left handle.before handle.behind other)
        ∙ ap (λ (hs : List (ℕ × ℕ)). lookup (nat_eq n) hs) (sym handle.stands);
    locked = λ is. is;
  }

  pub same-read : (h b : ℕ) (v : List ℕ) → h ≢ n → SameFor n f (reading_block f h b v)
  same-read h b v other = record {
    sealed = refl;
    tid = refl;
    handles = λ is. is;
    steps = steps-of_other n f.running.steps (read_step h b v) other;
    credits = refl;
    locked = λ is. is;
  }

  pub same-plain : (g : Front) → g.sealed ≡ f.sealed → g.running ≡ f.running → g.open_handles ≡ f.open_handles → g.locked ≡ f.locked →
      SameFor n f g
  same-plain g sealed running open_handles locked = same-beside g sealed running open_handles (λ is. locked ∙ is)

-- A step of the front alone.
pub same-step : (f g : Front) (event : FrontEvent) (n : ℕ) → handle_of event ≢ Some n → next_handle f ≢ n → FrontHappens f event g →
    SameFor n f g
same-step f g event n other fresh step = by event other step
  where
    on : {made : Front} → g ≡ made → SameFor n f made → SameFor n f g
    on is same = subst (λ (x : Front). SameFor n f x) (sym is) same

    differs : (h : ℕ) → Some h ≢ Some n → h ≢ n
    differs h far = λ e. far (ap (λ (k : ℕ). Some k) e)

    by : (event : FrontEvent) → handle_of event ≢ Some n → FrontHappens f event g → SameFor n f g
    by (Reserve credits) far step = on step.after (same-plain f n _ refl refl refl refl)
    by (RefuseReserve credits) far step = on step.after (same-plain f n _ refl refl refl refl)
    by (TakeBack credits) far step = on step.after (same-plain f n _ refl refl refl refl)
    by (GiveBack credits) far step = on step.after (same-plain f n _ refl refl refl refl)
    by (LoadCredits found) far step = on step.after (same-plain f n f refl refl refl refl)
    by (LoadMark found) far step = on step.after (same-plain f n f refl refl refl refl)
    by (Join credits) far step = on step.after (same-join f n credits fresh)
    by (ExtendHandle h credits) far step = on step.after (same-extend f n h credits step.handle (differs h far))
    by (WriteBlock h b v) far step = on step.after (same-touch f n h b (Write v) step.handle (differs h far))
    by (RevokeBlock h b) far step = on step.after (same-touch f n h b Revoke step.handle (differs h far))
    by (StopHandle h) far step = on step.after (same-stop f n h step.handle (differs h far))
    by Lock far step = on step.after (same-beside f n _ refl refl refl (λ is. refl))
    by (Raise t) far step = on step.after (same-plain f n _ refl refl refl refl)

-- A seal.
pub seal-own : (f : Front) (x : OwnSteps) → MaySeal f → IsOwn f x → IsOwn (sealing f) x
seal-own f x may own = record { stands = stands-seal f x own.stands; credits = own.credits; stage = by x.stage own.credits own.stage }
  where
    by : (stage : HandleStage) → lookup (nat_eq x.number) f.open_handles ≡ credits_of stage → StageHolds f x.tid stage →
        StageHolds (sealing f) x.tid stage
    by (Open left) found holds = absurd (none-some left (ap (λ (hs : List (ℕ × ℕ)). lookup (nat_eq x.number) hs) (sym may.stopped) ∙ found))
    by Stopped found holds = tt
    by Asked found holds = λ now. let low = tid-least f x own.stands in absurd (omega arith)

-- Each step of a journal.
pub others-know : (old new : Journal) (disk after : Disk) (event : Event) (x : OwnSteps) → KeepsHandles old.front →
    actor event ≢ Some x.number →
    Happens old disk event new after → IsOwn old.front x → IsOwn new.front x
others-know old new disk after event x kept other step own = by event other step
  where
    same : new.front ≡ old.front → IsOwn new.front x
    same is = subst (λ (f : Front). IsOwn f x) (sym is) own

    on : {made : Front} → new.front ≡ made → SameFor x.number old.front made → IsOwn new.front x
    on is beside = subst (λ (f : Front). IsOwn f x) (sym is) (still-own old.front _ x beside own)

    by : (event : Event) → actor event ≢ Some x.number → Happens old disk event new after → IsOwn new.front x
    by (FrontStep event) far step =
        still-own old.front new.front x (same-step old.front new.front event x.number far (next-other old.front x kept own.stands) step.front) own
    by Seal far step = subst (λ (f : Front). IsOwn f x) (sym step.front) (seal-own old.front x step.may own)
    by CommitStep far step = same step.front
    by CommitFault far step = same step.front
    by CheckpointStep far step = same step.front
    by CheckpointFault far step = same step.front
    by (ReadBlock h b v) far step = on step.front (same-read old.front x.number h b v (λ e. far (ap (λ (k : ℕ). Some k) e)))
    by ReadFault far step = on step.front (same-plain old.front x.number _ refl refl refl refl)
    by (DirectWrite b v) far step = same step.front
    by (DirectWriteFault b v) far step = on step.front (same-plain old.front x.number _ refl refl refl refl)
    by DirectSync far step = same step.front
    by DirectSyncFault far step = on step.front (same-plain old.front x.number _ refl refl refl refl)
    by Finish far step = on step.front (same-plain old.front x.number _ refl refl refl refl)
    by AbortMark far step = on step.front (same-plain old.front x.number _ refl refl refl refl)
