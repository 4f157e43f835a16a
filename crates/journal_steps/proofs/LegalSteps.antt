-- Each step of a journal leaves its record legal.
use Rattle.std.proofs.Common.{refl, sym, ap, subst, arith, ⊎_elim}
use Rattle.std.specs.Prelude.{◌≡◌, ◌≢◌, ◌⊎◌, ℕ, ◌<◌, ◌≤◌, List, [], ◌∷◌, ◌++◌, length, Result, Ok, Err, IfErr, IfOk, OnOk}
use Rattle.std.proofs.lemmas.Bool.Decides.{eqb_tells, leb_tells}
use Rattle.journal_model.specs.declared.entry.Entry.TheVariants.{Copy, Revoke as RevokeEntry}
use Rattle.journal_model.specs.declared.number.Area.TheVariants.{Home}
use Rattle.journal_model.specs.declared.refusal.JournalError.{JournalError}
use Rattle.journal_model.specs.declared.transaction.Op.TheVariants.{Write, Revoke}
use Rattle.journal_model.specs.Disk.{Disk}
use Rattle.journal_model.specs.Record.{IsLegal}
use Rattle.block_device.specs.State.{DeviceState}
use Rattle.journal_world.specs.Front.{Front, FrontEvent, FrontHappens, finished_count, next_handle, transactions}
use Rattle.journal_world.specs.Front.FrontEvent.{Reserve, RefuseReserve, TakeBack, GiveBack, LoadCredits, LoadMark, Join, ExtendHandle, WriteBlock, RevokeBlock, StopHandle, Lock, Raise}
use Rattle.journal_world.specs.Journal.{Event, Happens, Journal}
use Rattle.journal_world.specs.Journal.Event.{FrontStep, Seal, CommitStep, CommitFault, CheckpointStep, CheckpointFault, ReadBlock, ReadFault, DirectWrite, DirectWriteFault, DirectSync, DirectSyncFault, Finish, AbortMark}
use Rattle.journal_front.specs.Front.{RequestsCommit}
use Rattle.journal_front.specs.Values.{HandleValue}
use Rattle.journal_steps.specs.declared.turn.CheckTurn.{CheckTurn}
use Rattle.journal_steps.specs.declared.turn.CheckTurn.TheVariants.{Idle as IdleCheck, Step as StepCheck, Released}
use Rattle.journal_steps.specs.declared.turn.Turn.{Turn}
use Rattle.journal_steps.specs.declared.turn.Turn.TheVariants.{Idle as IdleTurn, Waiting, Step, Sealed, Committed}
use Rattle.journal_steps.specs.Direct.{DirectSyncRefused, DirectWriteRefused}
use Rattle.journal_steps.specs.Direct.DirectSyncRefused.{SyncAborted, SyncFailed}
use Rattle.journal_steps.specs.Direct.DirectWriteRefused.{WriteAborted, WriteOutside, WriteNotDirect, WriteFailed}
use Rattle.journal_steps.specs.Journal.{CheckTurnDid, CheckTurnRefused, Does, FailsAndNotifies, NewestRefused, ReadRefused, NewestDid, TurnDid, TurnRefused}
use Rattle.journal_steps.specs.Journal.CheckTurnRefused.{CheckAborted, CheckFailed}
use Rattle.journal_steps.specs.Journal.NewestRefused.{NewestAborted, NewestOutside, NewestRevoked, NewestFailed}
use Rattle.journal_steps.specs.Journal.ReadRefused.{ReadKeptOut, ReadRevoked, ReadUnnoted, ReadFailed}
use Rattle.journal_steps.specs.Journal.TurnRefused.{WasAborted, RingIsShort, MemoryIsShort, DeviceFailed}
use Rattle.journal_steps.specs.Legal.{KeepsLegal}
use Rattle.journal_steps.specs.Values.{JournalValue}
use Rattle.journal_world.proofs.Legal.{legal-begin, legal-empty, legal-less, legal-read, legal-same, legal-touch}

abbrev IsLegalFront : Front → Type 0
IsLegalFront f = IsLegal (transactions f)

-- a front without steps is legal
pub legal-fresh : (f : Front) (n : ℕ) → f.sealed ≡ [] → f.running.steps ≡ [] → IsLegal (transactions f)
legal-fresh f n none empty =
    subst (λ ts. IsLegal (ts ++ f.running ∷ [])) (sym none) (legal-same [] (record { tid = n; handles = []; steps = [] }) f.running empty (legal-empty n))

-- a legal record's sealed part is legal
pub legal-sealed : (f : Front) → IsLegal (transactions f) → IsLegal f.sealed
legal-sealed f legal = legal-less f.sealed f.running legal

-- a step of the front alone leaves it legal
pub legal-front : (old : Front) (event : FrontEvent) (new : Front) → FrontHappens old event new → IsLegal (transactions old) → IsLegal (transactions new)
legal-front old (Reserve n) new step legal = subst IsLegalFront (sym step.after) legal
legal-front old (RefuseReserve n) new step legal = subst IsLegalFront (sym step.after) legal
legal-front old (TakeBack n) new step legal = subst IsLegalFront (sym step.after) legal
legal-front old (GiveBack n) new step legal = subst IsLegalFront (sym step.after) legal
legal-front old (LoadCredits found) new step legal = subst IsLegalFront (sym step.after) legal
legal-front old (LoadMark found) new step legal = subst IsLegalFront (sym step.after) legal
legal-front old (Join n) new step legal =
    subst IsLegalFront (sym step.after)
    (legal-same old.sealed old.running (record old.running { handles = old.running.handles ++ next_handle old ∷ [] }) refl legal)
legal-front old (ExtendHandle h n) new step legal = subst IsLegalFront (sym step.after) legal
legal-front old (WriteBlock h b v) new step legal =
    subst IsLegalFront (sym step.after) (legal-touch old.sealed old.running (record { handle = h; block = b; op = Write v }) (Copy v) refl legal)
legal-front old (RevokeBlock h b) new step legal =
    subst IsLegalFront (sym step.after) (legal-touch old.sealed old.running (record { handle = h; block = b; op = Revoke }) RevokeEntry refl legal)
legal-front old (StopHandle h) new step legal = subst IsLegalFront (sym step.after) legal
legal-front old Lock new step legal = subst IsLegalFront (sym step.after) legal
legal-front old (Raise t) new step legal = subst IsLegalFront (sym step.after) legal

-- so does a step of the journal
pub legal-happens : (old : Journal) (disk : Disk) (event : Event) (new : Journal) (after : Disk) → Happens old disk event new after →
    IsLegal (transactions old.front) → IsLegal (transactions new.front)
legal-happens old disk (FrontStep event) new after step legal = legal-front old.front event new.front step.front legal
legal-happens old disk Seal new after step legal =
    subst IsLegalFront (sym step.front) (legal-begin (old.front.sealed ++ old.front.running ∷ []) _ legal)
legal-happens old disk CommitStep new after step legal = subst IsLegalFront (sym step.front) legal
legal-happens old disk CommitFault new after step legal = subst IsLegalFront (sym step.front) legal
legal-happens old disk CheckpointStep new after step legal = subst IsLegalFront (sym step.front) legal
legal-happens old disk CheckpointFault new after step legal = subst IsLegalFront (sym step.front) legal
legal-happens old disk (ReadBlock h b v) new after step legal =
    subst IsLegalFront (sym step.front)
    (legal-read old.front.sealed old.front.running h b (finished_count old.front) v (disk Home b).reads step.sees legal)
legal-happens old disk ReadFault new after step legal = subst IsLegalFront (sym step.front) legal
legal-happens old disk (DirectWrite b v) new after step legal = subst IsLegalFront (sym step.front) legal
legal-happens old disk (DirectWriteFault b v) new after step legal = subst IsLegalFront (sym step.front) legal
legal-happens old disk DirectSync new after step legal = subst IsLegalFront (sym step.front) legal
legal-happens old disk DirectSyncFault new after step legal = subst IsLegalFront (sym step.front) legal
legal-happens old disk Finish new after step legal = subst IsLegalFront (sym step.front) legal
legal-happens old disk AbortMark new after step legal = subst IsLegalFront (sym step.front) legal

-- calls of the front leave it legal, whatever they answer
module _ (f front : Front) (legal : IsLegal (transactions f)) where
  pub kept_legal-same : front ≡ f → IsLegal (transactions front)
  kept_legal-same same = subst IsLegalFront (sym same) legal

  pub kept_legal-step : (event : FrontEvent) → FrontHappens f event front → IsLegal (transactions front)
  kept_legal-step event step = legal-front f event front step legal

  pub kept_legal-reserve : {A R : Type 0} (Says : A → Type 0) (Why : R → Type 0) (r : Result A R) (n : ℕ) → IfOk r (λ a. Says a × FrontHappens f (Reserve n) front) →
      IfErr r (λ x. Why x × (front ≡ f)) → IsLegal (transactions front)
  kept_legal-reserve Says Why (Ok a) n ok err = kept_legal-step (Reserve n) ok.1
  kept_legal-reserve Says Why (Err x) n ok err = kept_legal-same err.1

  pub kept_legal-give_back : (n : ℕ) → (n ≤ f.reserved → FrontHappens f (GiveBack n) front) → (f.reserved < n → front ≡ f) → IsLegal (transactions front)
  kept_legal-give_back n gives other =
      ⊎_elim
      (λ (held : _ × (n ≤ f.reserved)). kept_legal-step (GiveBack n) (gives held.1))
      (λ (more : _ × (f.reserved < n)). kept_legal-same (other more.1))
      (leb_tells n f.reserved)

  pub kept_legal-join_with : {A R : Type 0} (Says : A → Type 0) (Back Why : R → Type 0) (r : Result A R) (n : ℕ) → IfOk r (λ a. FrontHappens f (Join n) front × Says a) →
      IfErr r (λ x. Back x × Why x × (front ≡ f)) → IsLegal (transactions front)
  kept_legal-join_with Says Back Why (Ok a) n ok err = kept_legal-step (Join n) ok.0
  kept_legal-join_with Says Back Why (Err x) n ok err = kept_legal-same err.2

  pub kept_legal-give : {A R : Type 0} (Back Why Rest : R → Type 0) (r : Result A R) (event : FrontEvent) → OnOk r (FrontHappens f event front) →
      IfErr r (λ x. Back x × Why x × (front ≡ f) × Rest x) → IsLegal (transactions front)
  kept_legal-give Back Why Rest (Ok a) event ok err = kept_legal-step event ok
  kept_legal-give Back Why Rest (Err x) event ok err = kept_legal-same err.2

  pub kept_legal-stop : (h : ℕ) → (FrontHappens f (StopHandle h) front ⊎ (front ≡ f)) → IsLegal (transactions front)
  kept_legal-stop h = ⊎_elim (λ stops. kept_legal-step (StopHandle h) stops) kept_legal-same

  pub kept_legal-lock : (0 < length f.running.handles → FrontHappens f Lock front) → (length f.running.handles ≡ 0 → front ≡ f) → IsLegal (transactions front)
  kept_legal-lock locks empty =
      ⊎_elim
      (λ (none : _ × (length f.running.handles ≤ 0)). kept_legal-same (empty (omega (arith, none.1))))
      (λ (some : _ × (0 < length f.running.handles)). kept_legal-step Lock (locks some.1))
      (leb_tells (length f.running.handles) 0)

  pub kept_legal-request : {A R : Type 0} (Why Rest : R → Type 0) (r : Result A R) (tid : ℕ) → OnOk r (RequestsCommit tid f front) →
      IfErr r (λ x. Why x × Rest x × (front ≡ f)) → IsLegal (transactions front)
  kept_legal-request Why Rest (Ok a) tid ok err =
      ⊎_elim
      (λ (here : _ × (tid ≡ f.running.tid)). kept_legal-lock (ok.same here.1) ok.empty)
      (λ (other : _ × (tid ≢ f.running.tid)). kept_legal-same (ok.other other.1))
      (eqb_tells tid f.running.tid)
  kept_legal-request Why Rest (Err x) tid ok err = kept_legal-same err.2

  -- so do a write and a revoke
  pub kept_legal-touch : {A R : Type 0} (Why Rest : R → Type 0) (r : Result A R) (event : FrontEvent) →
      OnOk r (FrontHappens f event front) → IfErr r (λ x. Why x × (front ≡ f) × Rest x) → IsLegal (transactions front)
  kept_legal-touch Why Rest (Ok a) event ok err = kept_legal-step event ok
  kept_legal-touch Why Rest (Err x) event ok err = kept_legal-same err.1

-- so do calls of both parts
module _ {D : Type 0} (state : D → DeviceState) (honest : D → Type 0) (old new : JournalValue D) (back : honest new.device → honest old.device)
    (legal : KeepsLegal honest old) where
  pub does-legal : (event : Event) → Does state old event new → KeepsLegal honest new
  does-legal event step = λ h. legal-happens old.journal (state old.device).disk event new.journal (state new.device).disk step (legal (back h))

  pub alike-legal : new.journal ≡ old.journal → KeepsLegal honest new
  alike-legal same = λ h. subst (λ (j : Journal). IsLegal (transactions j.front)) (sym same) (legal (back h))

  pub same-legal : new ≡ old → KeepsLegal honest new
  same-legal same = alike-legal (ap (λ (v : JournalValue D). v.journal) same)

  notifies-legal : (fault : Event) → FailsAndNotifies state fault old new → KeepsLegal honest new
  notifies-legal fault did = λ h.
      legal-happens did.mid (state new.device).disk AbortMark new.journal (state new.device).disk did.notifies
      (legal-happens old.journal (state old.device).disk fault did.mid (state new.device).disk did.fails (legal (back h)))

  read-refused : (h : HandleValue) (b : ℕ) (e : JournalError) → ReadRefused state old h b new e → KeepsLegal honest new
  read-refused h b e (ReadKeptOut out same) = same-legal same
  read-refused h b e (ReadRevoked may last same is) = same-legal same
  read-refused h b e (ReadUnnoted may last same faults is) = alike-legal same
  read-refused h b e (ReadFailed may last kept did faults is) = does-legal ReadFault did

  pub read-legal : {A : Type 0} (r : Result A JournalError) (h : HandleValue) (b : ℕ) (v : List ℕ) →
      OnOk r (honest new.device → Does state old (ReadBlock h.number b v) new) → IfErr r (λ e. ReadRefused state old h b new e) → KeepsLegal honest new
  read-legal (Ok a) h b v ok err = λ is. does-legal (ReadBlock h.number b v) (ok is) is
  read-legal (Err e) h b v ok err = read-refused h b e err

  newest-refused : (b : ℕ) (e : JournalError) → NewestRefused state old b new e → KeepsLegal honest new
  newest-refused b e (NewestAborted aborted same is) = same-legal same
  newest-refused b e (NewestOutside running may same is) = same-legal same
  newest-refused b e (NewestRevoked running may last same is) = same-legal same
  newest-refused b e (NewestFailed running may last kept did faults is) = does-legal ReadFault did

  pub newest-legal : {A : Type 0} (r : Result A JournalError) (b : ℕ) (v : List ℕ) → OnOk r (NewestDid state honest old b v new) →
      IfErr r (λ e. NewestRefused state old b new e) → KeepsLegal honest new
  newest-legal (Ok a) b v ok err = alike-legal ok.same
  newest-legal (Err e) b v ok err = newest-refused b e err

  turn-did : (t : Turn) → TurnDid state t old new → KeepsLegal honest new
  turn-did IdleTurn did = same-legal did.1
  turn-did Waiting did = same-legal did.1
  turn-did Step did = does-legal CommitStep did.commits
  turn-did (Sealed tid) did = does-legal Seal did.0
  turn-did (Committed tid) did = λ h.
      let disk = (state new.device).disk in
      legal-happens did.done disk (FrontStep (Raise tid)) new.journal disk did.raises
      (legal-happens did.mid disk Finish did.done disk did.finishes
      (legal-happens old.journal (state old.device).disk CommitStep did.mid disk did.commits (legal (back h))))

  turn-refused : (e : JournalError) → TurnRefused state old new e → KeepsLegal honest new
  turn-refused _ (WasAborted aborted same) = same-legal same
  turn-refused _ (RingIsShort due short same) = same-legal same
  turn-refused _ (MemoryIsShort due room same) = same-legal same
  turn-refused _ (DeviceFailed did faults) = notifies-legal CommitFault did

  pub turn-legal : (r : Result Turn JournalError) → IfOk r (λ t. TurnDid state t old new) → IfErr r (λ e. TurnRefused state old new e) → KeepsLegal honest new
  turn-legal (Ok t) ok err = turn-did t ok
  turn-legal (Err e) ok err = turn-refused e err

  pub turn_of-legal : (t : Turn) → TurnDid state t old new → KeepsLegal honest new
  turn_of-legal t did = turn-did t did

  pub refused-legal : (e : JournalError) → TurnRefused state old new e → KeepsLegal honest new
  refused-legal e why = turn-refused e why

  check-did : (t : CheckTurn) → CheckTurnDid state t old new → KeepsLegal honest new
  check-did IdleCheck did = alike-legal did.1
  check-did StepCheck did = does-legal CheckpointStep did.0
  check-did (Released tid) did = does-legal CheckpointStep did.0

  check-refused : (e : JournalError) → CheckTurnRefused state old new e → KeepsLegal honest new
  check-refused _ (CheckAborted aborted same stays faults) = alike-legal same
  check-refused _ (CheckFailed did faults) = notifies-legal CheckpointFault did

  pub check-legal : (r : Result CheckTurn JournalError) → IfOk r (λ t. CheckTurnDid state t old new) → IfErr r (λ e. CheckTurnRefused state old new e) →
      KeepsLegal honest new
  check-legal (Ok t) ok err = check-did t ok
  check-legal (Err e) ok err = check-refused e err

  write-refused : (b : ℕ) (v : List ℕ) (e : JournalError) → DirectWriteRefused state old b v new e → KeepsLegal honest new
  write-refused b v _ (WriteAborted aborted same) = same-legal same
  write-refused b v _ (WriteOutside running may same) = same-legal same
  write-refused b v _ (WriteNotDirect running may right same) = same-legal same
  write-refused b v _ (WriteFailed did faults) = does-legal (DirectWriteFault b v) did

  pub direct_write-legal : {A : Type 0} (r : Result A JournalError) (b : ℕ) (v : List ℕ) → OnOk r (Does state old (DirectWrite b v) new) →
      IfErr r (λ e. DirectWriteRefused state old b v new e) → KeepsLegal honest new
  direct_write-legal (Ok a) b v ok err = does-legal (DirectWrite b v) ok
  direct_write-legal (Err e) b v ok err = write-refused b v e err

  sync-refused : (e : JournalError) → DirectSyncRefused state old new e → KeepsLegal honest new
  sync-refused _ (SyncAborted aborted same) = same-legal same
  sync-refused _ (SyncFailed did faults) = does-legal DirectSyncFault did

  pub direct_sync-legal : {A : Type 0} (r : Result A JournalError) → OnOk r (Does state old DirectSync new) →
      IfErr r (λ e. DirectSyncRefused state old new e) → KeepsLegal honest new
  direct_sync-legal (Ok a) ok err = does-legal DirectSync ok
  direct_sync-legal (Err e) ok err = sync-refused e err
