-- Over a run of events a handle gains exactly its own steps.
use Rattle.std.proofs.Common.{refl, sym, ◌∙◌, ap, subst, append_assoc, append-nil, cond, eq-eqb, ne_eqb, ⊎_elim}
use Rattle.std.specs.Prelude.{◌≡◌, ◌≢◌, ℕ, ◌+◌, ◌≤◌, nat_eq, Bool, true, List, [], ◌∷◌, ◌++◌, Some, None}
use Rattle.std.specs.List.{flat_map}
use Rattle.std.specs.Map.{lookup}
use Rattle.std.proofs.lemmas.Bool.{cases_eq}
use Rattle.std.proofs.lemmas.List.Concat.{flat_map-cons}
use Rattle.std.proofs.lemmas.List.Elements.{filter-append}
use Rattle.std.proofs.lemmas.Option.{none-some, same_Some}
use Rattle.journal_model.specs.declared.transaction.Op.{Op}
use Rattle.journal_model.specs.declared.transaction.Op.TheVariants.{Write, Revoke}
use Rattle.journal_model.specs.declared.transaction.Step.{Step}
use Rattle.journal_model.specs.Disk.{Disk}
use Rattle.journal_model.specs.Transaction.{History}
use Rattle.journal_world.specs.Front.{Front, FrontEvent, IsOpen, extending, left_after, next_handle, read_step, reading_block, stopping, touching, transactions}
use Rattle.journal_world.specs.Front.FrontEvent.{Reserve, RefuseReserve, TakeBack, GiveBack, LoadCredits, LoadMark, Join, ExtendHandle, WriteBlock, RevokeBlock, StopHandle, Lock, Raise}
use Rattle.journal_world.specs.Journal.{Event, Happens, Journal}
use Rattle.journal_world.specs.Journal.Event.{FrontStep, Seal, CommitStep, CommitFault, CheckpointStep, CheckpointFault, ReadBlock, ReadFault, DirectWrite, DirectWriteFault, DirectSync, DirectSyncFault, Finish, AbortMark}
use Rattle.journal_front.specs.Values.{HandleValue}
use Rattle.journal_steps.specs.Handles.{KeepsHandles}
use Rattle.journal_steps.specs.Journal.{Agrees}
use Rattle.journal_steps.proofs.Audited.{kept-beside, read-kept, seal-kept, step-kept}
use Rattle.locked_journal.specs.declared.own.HandleStage.{HandleStage}
use Rattle.locked_journal.specs.declared.own.HandleStage.TheVariants.{Open, Stopped, Asked}
use Rattle.locked_journal.specs.declared.own.OwnSteps.{OwnSteps}
use Rattle.locked_journal.specs.Knowing.{actor}
use Rattle.locked_journal.specs.Own.{Confirms, IsOwn, credits_of, open_own, steps_by, stopped_own}
use Rattle.locked_journal.specs.Run.{HasMade, Runs, block_steps}
use Rattle.locked_journal.proofs.Confirming.{confirms}
use Rattle.locked_journal.proofs.Becoming.{extend-own, found-open, joins, read-own, same-left, stop-own, touch-own}
use Rattle.locked_journal.proofs.Keeping.{others-know}

-- Each event preserves the front's invariant of its handles.
handles-kept : (old new : Journal) (disk after : Disk) (event : Event) → Happens old disk event new after → KeepsHandles old.front →
    KeepsHandles new.front
handles-kept old new disk after event step kept = by event step
  where
    same : {made : Front} → new.front ≡ made → KeepsHandles made → KeepsHandles new.front
    same is made = subst KeepsHandles (sym is) made

    by : (event : Event) → Happens old disk event new after → KeepsHandles new.front
    by (FrontStep event) step = step-kept old.front new.front event step.front kept
    by Seal step = same step.front (seal-kept old.front step.may.stopped kept)
    by CommitStep step = same step.front kept
    by CommitFault step = same step.front kept
    by CheckpointStep step = same step.front kept
    by CheckpointFault step = same step.front kept
    by (ReadBlock h b v) step = same step.front (read-kept old.front h b v step.handle kept)
    by ReadFault step = same step.front (kept-beside old.front old.front.finished old.front.mark true kept)
    by (DirectWrite b v) step = same step.front kept
    by (DirectWriteFault b v) step = same step.front (kept-beside old.front old.front.finished old.front.mark true kept)
    by DirectSync step = same step.front kept
    by DirectSyncFault step = same step.front (kept-beside old.front old.front.finished old.front.mark true kept)
    by Finish step = same step.front (kept-beside old.front (old.front.finished + 1) old.front.mark old.front.aborted kept)
    by AbortMark step = same step.front (kept-beside old.front old.front.finished old.front.mark true kept)

-- The holder of an open handle knows that it is open.
as-open : (f : Front) (own : OwnSteps) (handle : IsOpen f own.number) → KeepsHandles f → IsOwn f own → own.stage ≡ Open handle.left
as-open f own handle kept is = by own.stage is.credits
  where
    by : (stage : HandleStage) → lookup (nat_eq own.number) f.open_handles ≡ credits_of stage → stage ≡ Open handle.left
    by (Open left) found = ap (λ (l : ℕ). Open l) (sym (same-left f own.number left handle kept found))
    by Stopped found = absurd (none-some handle.left (sym found ∙ found-open f own.number handle kept))
    by Asked found = absurd (none-some handle.left (sym found ∙ found-open f own.number handle kept))

-- A handle's value, as its holder knows it.
abbrev value : (own : OwnSteps) (left : ℕ) → HandleValue
value own left = record { number = own.number; tid = own.tid; left = left }

opened : (f : Front) (own : OwnSteps) (handle : IsOpen f own.number) → KeepsHandles f → IsOwn f own →
    IsOwn f (open_own (value own handle.left) own.steps)
opened f own handle kept is = subst (λ (s : HandleStage). IsOwn f (record own { stage = s })) (as-open f own handle kept is) is

-- No step was made.
unmade : (g : Front) (own : OwnSteps) (stage : HandleStage) → IsOwn g (record own { stage = stage }) → HasMade g own []
unmade g own stage is = (stage, subst (λ (l : List Step). IsOwn g (record own { steps = l; stage = stage })) (sym (append-nil own.steps)) is)

-- A step of the handle itself is one of its steps.
mine : (n h : ℕ) (s : Step) → s.handle ≡ h → n ≡ h → s ∷ [] ≡ steps_by n (s ∷ [])
mine n h s of same = ap (λ (b : Bool). cond b (s ∷ []) []) (sym (eq-eqb n s.handle (same ∙ sym of)))

-- A step of another handle is none.
others : (n h : ℕ) (s : Step) → s.handle ≡ h → n ≢ h → [] ≡ steps_by n (s ∷ [])
others n h s of differs = ap (λ (b : Bool). cond b (s ∷ []) []) (sym (ne_eqb n s.handle (λ e. differs (e ∙ of))))

module _ (f : Front) (own : OwnSteps) (kept : KeepsHandles f) (is : IsOwn f own) where
  made-touch : (h b : ℕ) (op : Op) (handle : IsOpen f h) → own.number ≡ h → KeepsHandles (touching f h b op handle) →
      HasMade (touching f h b op handle) own (record { handle = h; block = b; op = op } ∷ [])
  made-touch h b op handle same after =
      let mine : OwnSteps = record own { number = h } in
      let was : IsOwn f mine = subst (λ (n : ℕ). IsOwn f (record own { number = n })) same is in
      let left = left_after f b handle.left in (
        Open left,
        subst (λ (n : ℕ). IsOwn (touching f h b op handle) (record { number = n; tid = own.tid; steps = own.steps ++ record { handle = h; block = b; op = op } ∷ []; stage = Open left })) (sym same)
            (touch-own f (value mine handle.left) b op own.steps handle kept after (opened f mine handle kept was)),
      )

  made-read : (h b : ℕ) (v : List ℕ) (handle : IsOpen f h) → own.number ≡ h → HasMade (reading_block f h b v) own (read_step h b v ∷ [])
  made-read h b v handle same =
      let mine : OwnSteps = record own { number = h } in
      let was : IsOwn f mine = subst (λ (n : ℕ). IsOwn f (record own { number = n })) same is in (
        Open handle.left,
        subst (λ (n : ℕ). IsOwn (reading_block f h b v) (record { number = n; tid = own.tid; steps = own.steps ++ read_step h b v ∷ []; stage = Open handle.left })) (sym same)
            (read-own f (value mine handle.left) b v own.steps (opened f mine handle kept was)),
      )

  made-extend : (h n : ℕ) (handle : IsOpen f h) → own.number ≡ h → KeepsHandles (extending f h n handle) →
      HasMade (extending f h n handle) own []
  made-extend h n handle same after =
      let mine : OwnSteps = record own { number = h } in
      let was : IsOwn f mine = subst (λ (k : ℕ). IsOwn f (record own { number = k })) same is in
      unmade (extending f h n handle) own (Open (handle.left + n))
      (subst (λ (k : ℕ). IsOwn (extending f h n handle) (record { number = k; tid = own.tid; steps = own.steps; stage = Open (handle.left + n) })) (sym same)
      (extend-own f (value mine handle.left) n own.steps handle kept after (opened f mine handle kept was)))

  made-stop : (h : ℕ) (handle : IsOpen f h) → own.number ≡ h → HasMade (stopping f h handle) own []
  made-stop h handle same =
      let mine : OwnSteps = record own { number = h } in
      let was : IsOwn f mine = subst (λ (k : ℕ). IsOwn f (record own { number = k })) same is in
      unmade (stopping f h handle) own Stopped
      (subst (λ (k : ℕ). IsOwn (stopping f h handle) (record { number = k; tid = own.tid; steps = own.steps; stage = Stopped })) (sym same)
      (stop-own f (value mine handle.left) own.steps handle kept (opened f mine handle kept was)))

-- One event.
made-one : (old new : Journal) (disk after : Disk) (event : Event) (own : OwnSteps) → KeepsHandles old.front →
    Happens old disk event new after → IsOwn old.front own →
    HasMade new.front own (steps_by own.number (block_steps event))
made-one old new disk after event own kept step is = by event step
  where
    n : ℕ
    n = own.number

    f : Front
    f = old.front

    none : (event : Event) → actor event ≡ None → Happens old disk event new after → HasMade new.front own []
    none event nobody step =
        unmade new.front own own.stage (others-know old new disk after event own kept (λ e. none-some n (sym nobody ∙ e)) step is)

    other : (event : Event) (h : ℕ) → actor event ≡ Some h → n ≢ h → Happens old disk event new after → HasMade new.front own []
    other event h of differs step =
        unmade new.front own own.stage (others-know old new disk after event own kept (λ e. differs (same_Some n h (sym e ∙ of))) step is)

    with_steps : {made : Front} (xs ys : List Step) → new.front ≡ made → xs ≡ ys → HasMade made own xs → HasMade new.front own ys
    with_steps xs ys at same made = subst (λ (l : List Step). HasMade new.front own l) same (subst (λ (g : Front). HasMade g own xs) (sym at) made)

    front : (event : FrontEvent) → Happens old disk (FrontStep event) new after → KeepsHandles new.front
    front event step = handles-kept old new disk after (FrontStep event) step kept

    by : (event : Event) → Happens old disk event new after → HasMade new.front own (steps_by n (block_steps event))
    by (FrontStep (Reserve c)) step = none (FrontStep (Reserve c)) refl step
    by (FrontStep (RefuseReserve c)) step = none (FrontStep (RefuseReserve c)) refl step
    by (FrontStep (TakeBack c)) step = none (FrontStep (TakeBack c)) refl step
    by (FrontStep (GiveBack c)) step = none (FrontStep (GiveBack c)) refl step
    by (FrontStep (LoadCredits found)) step = none (FrontStep (LoadCredits found)) refl step
    by (FrontStep (LoadMark found)) step = none (FrontStep (LoadMark found)) refl step
    by (FrontStep (Join c)) step = none (FrontStep (Join c)) refl step
    by (FrontStep (ExtendHandle h c)) step =
        ⊎_elim
        (λ (same : n ≡ h). with_steps [] [] step.front.after refl
        (made-extend f own kept is h c step.front.handle same (subst KeepsHandles step.front.after (front (ExtendHandle h c) step))))
        (λ (differs : n ≢ h). other (FrontStep (ExtendHandle h c)) h refl differs step)
        (cases_eq n h)
    by (FrontStep (WriteBlock h b v)) step =
        let s : Step = record { handle = h; block = b; op = Write v } in
        ⊎_elim
        (λ (same : n ≡ h). with_steps (s ∷ []) (steps_by n (s ∷ [])) step.front.after (mine n h s refl same)
        (made-touch f own kept is h b (Write v) step.front.handle same (subst KeepsHandles step.front.after (front (WriteBlock h b v) step))))
        (λ (differs : n ≢ h). with_steps [] (steps_by n (s ∷ [])) refl (others n h s refl differs) (other (FrontStep (WriteBlock h b v)) h refl differs step))
        (cases_eq n h)
    by (FrontStep (RevokeBlock h b)) step =
        let s : Step = record { handle = h; block = b; op = Revoke } in
        ⊎_elim
        (λ (same : n ≡ h). with_steps (s ∷ []) (steps_by n (s ∷ [])) step.front.after (mine n h s refl same)
        (made-touch f own kept is h b Revoke step.front.handle same (subst KeepsHandles step.front.after (front (RevokeBlock h b) step))))
        (λ (differs : n ≢ h). with_steps [] (steps_by n (s ∷ [])) refl (others n h s refl differs) (other (FrontStep (RevokeBlock h b)) h refl differs step))
        (cases_eq n h)
    by (FrontStep (StopHandle h)) step =
        ⊎_elim
        (λ (same : n ≡ h). with_steps [] [] step.front.after refl (made-stop f own kept is h step.front.handle same))
        (λ (differs : n ≢ h). other (FrontStep (StopHandle h)) h refl differs step)
        (cases_eq n h)
    by (FrontStep Lock) step = none (FrontStep Lock) refl step
    by (FrontStep (Raise t)) step = none (FrontStep (Raise t)) refl step
    by Seal step = none Seal refl step
    by CommitStep step = none CommitStep refl step
    by CommitFault step = none CommitFault refl step
    by CheckpointStep step = none CheckpointStep refl step
    by CheckpointFault step = none CheckpointFault refl step
    by (ReadBlock h b v) step =
        let s : Step = read_step h b v in
        ⊎_elim
        (λ (same : n ≡ h). with_steps (s ∷ []) (steps_by n (s ∷ [])) step.front (mine n h s refl same) (made-read f own kept is h b v step.handle same))
        (λ (differs : n ≢ h). with_steps [] (steps_by n (s ∷ [])) refl (others n h s refl differs) (other (ReadBlock h b v) h refl differs step))
        (cases_eq n h)
    by ReadFault step = none ReadFault refl step
    by (DirectWrite b v) step = none (DirectWrite b v) refl step
    by (DirectWriteFault b v) step = none (DirectWriteFault b v) refl step
    by DirectSync step = none DirectSync refl step
    by DirectSyncFault step = none DirectSyncFault refl step
    by Finish step = none Finish refl step
    by AbortMark step = none AbortMark refl step

-- All events of a run.
pub made-all : (old new : Journal) (disk after : Disk) (events : List Event) (own : OwnSteps) → KeepsHandles old.front →
    Runs old disk events new after → IsOwn old.front own →
    HasMade new.front own (steps_by own.number (flat_map block_steps events))
made-all old new disk after [] own kept runs is =
    subst (λ (j : Journal). HasMade j.front own []) (sym runs.0) (unmade old.front own own.stage is)
made-all old new disk after (event ∷ events) own kept runs is =
    let mid : Journal = runs.0 in
    let one = made-one old mid disk runs.1 event own kept runs.2 is in
    let first : List Step = steps_by own.number (block_steps event) in
    let rest : List Step = steps_by own.number (flat_map block_steps events) in
    let next : OwnSteps = record own { steps = own.steps ++ first; stage = one.0 } in
    let all = made-all mid new runs.1 after events next (handles-kept old mid disk runs.1 event runs.2 kept) runs.3 one.1 in
    let whole : steps_by own.number (flat_map block_steps (event ∷ events)) ≡ first ++ rest =
    ap (λ (l : List Step). steps_by own.number l) (flat_map-cons block_steps event events)
    ∙ filter-append (λ s. nat_eq own.number s.handle) (block_steps event) (flat_map block_steps events) in
    let list : (own.steps ++ first) ++ rest ≡ own.steps ++ steps_by own.number (flat_map block_steps (event ∷ events)) =
    append_assoc own.steps first rest ∙ ap (λ (l : List Step). own.steps ++ l) (sym whole) in
    (all.0, subst (λ (l : List Step). IsOwn new.front (record own { steps = l; stage = all.0 })) list all.1)

-- A receipt is confirmed at any stage that its holder knows.
of-any-stage : (committed : ℕ) (ts : History) (own : OwnSteps) (stage : HandleStage) → Confirms committed ts own →
    Confirms committed ts (record own { stage = stage })
of-any-stage committed ts own stage bears = record {
  before = bears.before;
  transaction = bears.transaction;
  behind = bears.behind;
  among = bears.among;
  number = bears.number;
  committed_is = bears.committed_is;
  joined = bears.joined;
  once = bears.once;
  steps = bears.steps;
  all = bears.all;
}

-- From the join on.
pub from-join : (old mid new : Journal) (disk between after : Disk) (n : ℕ) (events : List Event) → KeepsHandles old.front →
    Happens old disk (FrontStep (Join n)) mid between → Runs mid between events new after → Agrees new → old.front.running.tid ≤ new.front.mark →
    Confirms new.engine.committed (transactions new.front)
    (stopped_own (next_handle old.front) old.front.running.tid (steps_by (next_handle old.front) (flat_map block_steps events)))
from-join old mid new disk between after n events kept join runs agrees told =
    let own : OwnSteps = open_own (record { number = next_handle old.front; tid = old.front.running.tid; left = n }) [] in
    let first : IsOwn mid.front own = (joins old.front mid.front n kept join.front).own own refl in
    let all = made-all mid new between after events own (handles-kept old mid disk between (FrontStep (Join n)) join kept) runs first in
    let last : OwnSteps = record own { steps = steps_by own.number (flat_map block_steps events); stage = all.0 } in
    of-any-stage new.engine.committed (transactions new.front) last Stopped (confirms new last agrees all.1 told)
