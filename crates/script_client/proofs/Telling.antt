-- Lemmas: each journal call is some moves of the machine.
use Rattle.std.proofs.Common.{refl, sym, ap, ap₂, subst, ◌∙◌, arith, inl, inr, ⊎_elim}
use Rattle.std.specs.Prelude.{◌≡◌, ◌≢◌, ◌⊎◌, ℕ, ◌<◌, ◌≤◌, nat_eq, List, [], ◌∷◌, ◌++◌, length, Option, Some, None, unwrap_or, Result, Ok, Err, IfOk, IfErr, OnOk}
use Rattle.std.specs.Map.{lookup}
use Rattle.std.proofs.lemmas.Bool.Decides.{eqb_tells, leb_tells}
use Rattle.std.proofs.lemmas.Option.{none-some}
use Rattle.journal_model.specs.declared.refusal.JournalError.{JournalError}
use Rattle.journal_model.specs.Disk.{Disk, IsOneOf, Shape}
use Rattle.block_device.specs.State.{DeviceState, Stays}
use Rattle.journal_world.specs.Engine.{Engine}
use Rattle.journal_world.specs.Front.{Front, FrontEvent}
use Rattle.journal_world.specs.Front.FrontEvent.{ExtendHandle, Join, Lock, Raise, Reserve, StopHandle}
use Rattle.journal_world.specs.Journal.{Event, Happens, Journal}
use Rattle.journal_world.specs.Journal.Event.{AbortMark, CheckpointFault, CheckpointStep, CommitFault, CommitStep, DirectSync, DirectSyncFault, DirectWrite, DirectWriteFault, Finish, FrontStep, ReadBlock, ReadFault, Seal}
use Rattle.journal_world.proofs.Onward.{fault-on, round-fault-on, round-on, step-on}
use Rattle.log_epochs.specs.JournalWorld.{JournalWorld, Leads, with_directs}
use Rattle.log_epochs.specs.JournalWorld.Move.{Answer, Step}
use Rattle.log_epochs.proofs.Leading.{leads-more}
use Rattle.journal_steps.specs.declared.turn.CheckTurn.{CheckTurn}
use Rattle.journal_steps.specs.declared.turn.CheckTurn.TheVariants.{Idle as IdleCheck, Step as StepCheck, Released}
use Rattle.journal_steps.specs.declared.turn.Turn.{Turn}
use Rattle.journal_steps.specs.declared.turn.Turn.TheVariants.{Idle as IdleTurn, Waiting, Step as StepTurn, Sealed, Committed}
use Rattle.journal_steps.specs.Direct.{DirectSyncRefused, DirectWriteRefused}
use Rattle.journal_steps.specs.Direct.DirectSyncRefused.{SyncAborted, SyncFailed}
use Rattle.journal_steps.specs.Direct.DirectWriteRefused.{WriteAborted, WriteFailed, WriteNotDirect, WriteOutside}
use Rattle.group_commit.specs.Extension.{Extends, RestartRefused, Restarts, Starts}
use Rattle.journal_front.specs.Front.{IsOpenHandle}
use Rattle.journal_steps.specs.Journal.{CheckTurnDid, CheckTurnRefused, Does, FailsAndNotifies, ReadRefused, Requests, TurnDid, TurnRefused}
use Rattle.journal_steps.specs.Journal.CheckTurnRefused.{CheckAborted, CheckFailed}
use Rattle.journal_steps.specs.Journal.ReadRefused.{ReadFailed, ReadKeptOut, ReadRevoked, ReadUnnoted}
use Rattle.journal_steps.specs.Journal.TurnRefused.{DeviceFailed, MemoryIsShort, RingIsShort, WasAborted}
use Rattle.journal_front.specs.Values.{HandleValue}
use Rattle.journal_steps.specs.Values.{JournalValue}
use Rattle.journal_script.specs.declared.script.Operation.{Operation}
use Rattle.journal_script.specs.Named.{IsDirectOf}
use Rattle.script_client.specs.Told.{AreDirectsOf, HasLedTo, running_world, with_told}

-- a journal on a device of this state was led to
abbrev pub HasComeTo : (Shape → Disk → Type 0) → List Operation → {D : Type 0} → (D → DeviceState) → JournalValue D → Option ℕ → Type 0
HasComeTo Fact operations state v shown = HasLedTo Fact operations v.journal (state v.device) shown

-- an event writes directly only blocks that one of the operations writes directly
abbrev pub WritesOnly : List Operation → Event → Type 0
WritesOnly operations event = (directs : List (ℕ × List ℕ)) → AreDirectsOf operations directs → AreDirectsOf operations (with_directs event directs)

-- a step of the front alone keeps the engine's measures
front-shape : (old new : Engine) → new ≡ old → new.shape ≡ old.shape
front-shape old new same = ap (λ (e : Engine). e.shape) same

-- every event keeps the engine's measures
event-shape : (old new : Journal) (disk after : Disk) (event : Event) → Happens old disk event new after → new.engine.shape ≡ old.engine.shape
event-shape old new disk after (FrontStep event) happens = front-shape old.engine new.engine happens.engine
event-shape old new disk after Seal happens = ap (λ (e : Engine). e.shape) happens.engine.after
event-shape old new disk after CommitStep happens = (step-on old.engine new.engine disk after happens.engine).shape
event-shape old new disk after CommitFault happens = (fault-on old.engine new.engine disk after happens.engine).shape
event-shape old new disk after CheckpointStep happens = (round-on old.engine new.engine disk after happens.engine).shape
event-shape old new disk after CheckpointFault happens = (round-fault-on old.engine new.engine disk after happens.engine).shape
event-shape old new disk after (ReadBlock h b v) happens = front-shape old.engine new.engine happens.engine
event-shape old new disk after ReadFault happens = ap (λ (e : Engine). e.shape) happens.engine
event-shape old new disk after (DirectWrite b v) happens = ap (λ (e : Engine). e.shape) happens.engine.engine
event-shape old new disk after (DirectWriteFault b v) happens = ap (λ (e : Engine). e.shape) happens.engine.engine
event-shape old new disk after DirectSync happens = ap (λ (e : Engine). e.shape) happens.engine.engine
event-shape old new disk after DirectSyncFault happens = ap (λ (e : Engine). e.shape) happens.engine.engine
event-shape old new disk after Finish happens = front-shape old.engine new.engine happens.engine
event-shape old new disk after AbortMark happens = front-shape old.engine new.engine happens.engine

-- a step of the journal is one more move
pub goes : (Fact : Shape → Disk → Type 0) (operations : List Operation) (event : Event) (old new : Journal) (before after : DeviceState) (shown : Option ℕ) → WritesOnly operations event
    → HasLedTo Fact operations old before shown → Happens old before.disk event new after.disk → after.shape ≡ before.shape → HasLedTo Fact operations new after shown
goes Fact operations event old new before after shown only led happens shape = record {
  measures = event-shape old new before.disk after.disk event happens ∙ led.measures ∙ sym shape;
  opening = led.opening;
  fact = subst (λ (s : Shape). Fact s led.opening) (sym shape) led.fact;
  start = led.start;
  begins = led.begins;
  moves = led.moves ++ Step event ∷ [];
  directs = with_directs event led.directs;
  written = only led.directs led.written;
  answered = led.answered;
  leads =
      leads-more led.start (running_world led.opening old before led.directs led.answered) (running_world led.opening new after (with_directs event led.directs) led.answered) led.moves (Step event) led.leads
      (record {
        running = refl;
        epoch = record { opening = led.opening; engine = old.engine; directs = led.directs; pin = None };
        now = refl;
        journal = new;
        happens = happens;
        after =
            ap (λ (s : Shape). running_world led.opening new (record { shape = s; disk = after.disk; past = after.past; faults = after.faults; calls = after.calls })
            (with_directs event led.directs) led.answered) shape;
      });
  greatest = led.greatest;
}

-- an unchanged journal was led to
pub stays : (Fact : Shape → Disk → Type 0) (operations : List Operation) (old new : Journal) (before after : DeviceState) (shown : Option ℕ)
    → HasLedTo Fact operations old before shown → new ≡ old → after.shape ≡ before.shape → after.disk ≡ before.disk → HasLedTo Fact operations new after shown
stays Fact operations old new before after shown led journal shape disk =
    let same : running_world led.opening new after led.directs led.answered ≡ running_world led.opening old before led.directs led.answered =
    ap (λ (j : Journal). running_world led.opening j after led.directs led.answered) journal
    ∙ ap₂ (λ (s : Shape) (d : Disk). running_world led.opening old (record { shape = s; disk = d; past = after.past; faults = after.faults; calls = after.calls }) led.directs led.answered) shape disk in
    record {
      measures = ap (λ (j : Journal). j.engine.shape) journal ∙ led.measures ∙ sym shape;
      opening = led.opening;
      fact = subst (λ (s : Shape). Fact s led.opening) (sym shape) led.fact;
      start = led.start;
      begins = led.begins;
      moves = led.moves;
      directs = led.directs;
      written = led.written;
      answered = led.answered;
      leads = subst (λ (w : JournalWorld). Leads led.start led.moves w) (sym same) led.leads;
      greatest = led.greatest;
    }

-- a transaction up to the mark may be answered, and is noted
pub answers : (Fact : Shape → Disk → Type 0) (operations : List Operation) (j : Journal) (state : DeviceState) (shown new : Option ℕ) (tid : ℕ) → HasLedTo Fact operations j state shown → tid ≤ j.front.mark
    → new ≡ with_told tid shown → HasLedTo Fact operations j state new
answers Fact operations j state shown new tid led marked noted = record {
  measures = led.measures;
  opening = led.opening;
  fact = led.fact;
  start = led.start;
  begins = led.begins;
  moves = led.moves ++ Answer tid ∷ [];
  directs = led.directs;
  written = led.written;
  answered = tid ∷ led.answered;
  leads =
      leads-more led.start (running_world led.opening j state led.directs led.answered) (running_world led.opening j state led.directs (tid ∷ led.answered)) led.moves (Answer tid) led.leads
      (record { running = refl; marked = marked; after = refl });
  greatest = noted ∙ ap (with_told tid) led.greatest;
}

-- an equal journal was led to
pub same : (Fact : Shape → Disk → Type 0) (operations : List Operation) {D : Type 0} (state : D → DeviceState) (old new : JournalValue D) (shown : Option ℕ) → new ≡ old
    → HasComeTo Fact operations state old shown → HasComeTo Fact operations state new shown
same Fact operations state old new shown is led = subst (λ (v : JournalValue _). HasComeTo Fact operations state v shown) (sym is) led

-- a step of the journal is a move
pub does : (Fact : Shape → Disk → Type 0) (operations : List Operation) {D : Type 0} (state : D → DeviceState) (old new : JournalValue D) (shown : Option ℕ) (event : Event)
    → WritesOnly operations event → Does state old event new → (state new.device).shape ≡ (state old.device).shape → HasComeTo Fact operations state old shown → HasComeTo Fact operations state new shown
does Fact operations state old new shown event only is shape led = goes Fact operations event old.journal new.journal (state old.device) (state new.device) shown only led is shape

-- a commit turn is one step, or three, or none
turn-comes : (Fact : Shape → Disk → Type 0) (operations : List Operation) {D : Type 0} (state : D → DeviceState) (old new : JournalValue D) (shown : Option ℕ) (turn : Turn) → TurnDid state turn old new
    → (state new.device).shape ≡ (state old.device).shape → HasComeTo Fact operations state old shown → HasComeTo Fact operations state new shown
turn-comes Fact operations state old new shown IdleTurn did shape led = same Fact operations state old new shown did.1 led
turn-comes Fact operations state old new shown Waiting did shape led = same Fact operations state old new shown did.1 led
turn-comes Fact operations state old new shown StepTurn did shape led = does Fact operations state old new shown CommitStep (λ directs written. written) did.commits shape led
turn-comes Fact operations state old new shown (Sealed tid) did shape led = does Fact operations state old new shown Seal (λ directs written. written) did.0 shape led
turn-comes Fact operations state old new shown (Committed tid) did shape led =
    goes Fact operations (FrontStep (Raise tid)) did.done new.journal (state new.device) (state new.device) shown (λ directs written. written)
    (goes Fact operations Finish did.mid did.done (state new.device) (state new.device) shown (λ directs written. written)
    (goes Fact operations CommitStep old.journal did.mid (state old.device) (state new.device) shown (λ directs written. written) led did.commits shape) did.finishes refl) did.raises refl

-- a step in which the device failed, and a notice to the front, are two moves
fault-comes : (Fact : Shape → Disk → Type 0) (operations : List Operation) {D : Type 0} (state : D → DeviceState) (old new : JournalValue D) (shown : Option ℕ) (fault : Event)
    → WritesOnly operations fault → FailsAndNotifies state fault old new → (state new.device).shape ≡ (state old.device).shape → HasComeTo Fact operations state old shown
    → HasComeTo Fact operations state new shown
fault-comes Fact operations state old new shown fault only is shape led =
    goes Fact operations AbortMark is.mid new.journal (state new.device) (state new.device) shown (λ directs written. written)
    (goes Fact operations fault old.journal is.mid (state old.device) (state new.device) shown only led is.fails shape) is.notifies refl

refused-comes : (Fact : Shape → Disk → Type 0) (operations : List Operation) {D : Type 0} (state : D → DeviceState) (old new : JournalValue D) (shown : Option ℕ) (e : JournalError) → TurnRefused state old new e
    → (state new.device).shape ≡ (state old.device).shape → HasComeTo Fact operations state old shown → HasComeTo Fact operations state new shown
refused-comes Fact operations state old new shown e (WasAborted aborted is) shape led = same Fact operations state old new shown is led
refused-comes Fact operations state old new shown e (RingIsShort due short is) shape led = same Fact operations state old new shown is led
refused-comes Fact operations state old new shown e (MemoryIsShort due room is) shape led = same Fact operations state old new shown is led
refused-comes Fact operations state old new shown e (DeviceFailed is fault) shape led =
    fault-comes Fact operations state old new shown CommitFault (λ directs written. written) is shape led

pub commit_turn-comes : (Fact : Shape → Disk → Type 0) (operations : List Operation) {D : Type 0} (state : D → DeviceState) (old new : JournalValue D) (shown : Option ℕ) (result : Result Turn JournalError)
    → IfOk result (λ turn. TurnDid state turn old new) → IfErr result (λ e. TurnRefused state old new e)
    → (state new.device).shape ≡ (state old.device).shape → HasComeTo Fact operations state old shown → HasComeTo Fact operations state new shown
commit_turn-comes Fact operations state old new shown (Ok turn) did refused shape led = turn-comes Fact operations state old new shown turn did shape led
commit_turn-comes Fact operations state old new shown (Err e) did refused shape led = refused-comes Fact operations state old new shown e refused shape led

-- a checkpoint turn is one step, or none
check-comes : (Fact : Shape → Disk → Type 0) (operations : List Operation) {D : Type 0} (state : D → DeviceState) (old new : JournalValue D) (shown : Option ℕ) (turn : CheckTurn) → CheckTurnDid state turn old new
    → (state new.device).shape ≡ (state old.device).shape → HasComeTo Fact operations state old shown → HasComeTo Fact operations state new shown
check-comes Fact operations state old new shown IdleCheck did shape led = stays Fact operations old.journal new.journal (state old.device) (state new.device) shown led did.1 shape did.2
check-comes Fact operations state old new shown StepCheck did shape led = does Fact operations state old new shown CheckpointStep (λ directs written. written) did.0 shape led
check-comes Fact operations state old new shown (Released tid) did shape led = does Fact operations state old new shown CheckpointStep (λ directs written. written) did.0 shape led

check_refused-comes : (Fact : Shape → Disk → Type 0) (operations : List Operation) {D : Type 0} (state : D → DeviceState) (old new : JournalValue D) (shown : Option ℕ) (e : JournalError)
    → CheckTurnRefused state old new e → (state new.device).shape ≡ (state old.device).shape → HasComeTo Fact operations state old shown → HasComeTo Fact operations state new shown
check_refused-comes Fact operations state old new shown e (CheckAborted aborted is device faults) shape led =
    stays Fact operations old.journal new.journal (state old.device) (state new.device) shown led is shape device.disk
check_refused-comes Fact operations state old new shown e (CheckFailed is fault) shape led =
    fault-comes Fact operations state old new shown CheckpointFault (λ directs written. written) is shape led

pub checkpoint_turn-comes : (Fact : Shape → Disk → Type 0) (operations : List Operation) {D : Type 0} (state : D → DeviceState) (old new : JournalValue D) (shown : Option ℕ) (result : Result CheckTurn JournalError)
    → IfOk result (λ turn. CheckTurnDid state turn old new) → IfErr result (λ e. CheckTurnRefused state old new e)
    → (state new.device).shape ≡ (state old.device).shape → HasComeTo Fact operations state old shown → HasComeTo Fact operations state new shown
checkpoint_turn-comes Fact operations state old new shown (Ok turn) did refused shape led = check-comes Fact operations state old new shown turn did shape led
checkpoint_turn-comes Fact operations state old new shown (Err e) did refused shape led = check_refused-comes Fact operations state old new shown e refused shape led

-- a read is one step, or changes nothing, or fails
read_refused-comes : (Fact : Shape → Disk → Type 0) (operations : List Operation) {D : Type 0} (state : D → DeviceState) (old new : JournalValue D) (shown : Option ℕ) (h : HandleValue) (b : ℕ)
    (e : JournalError) → ReadRefused state old h b new e → Stays (state old.device) (state new.device) → HasComeTo Fact operations state old shown → HasComeTo Fact operations state new shown
read_refused-comes Fact operations state old new shown h b e (ReadKeptOut why is) device led = same Fact operations state old new shown is led
read_refused-comes Fact operations state old new shown h b e (ReadRevoked may revoked is refused) device led = same Fact operations state old new shown is led
read_refused-comes Fact operations state old new shown h b e (ReadUnnoted may last is counted refused) device led =
    stays Fact operations old.journal new.journal (state old.device) (state new.device) shown led is device.shape device.disk
read_refused-comes Fact operations state old new shown h b e (ReadFailed may untouched none is fault refused) device led =
    does Fact operations state old new shown ReadFault (λ directs written. written) is device.shape led

pub read-comes : (Fact : Shape → Disk → Type 0) (operations : List Operation) {D T : Type 0} (state : D → DeviceState) (old new : JournalValue D) (shown : Option ℕ) (honest : Type 0) (h : HandleValue) (b : ℕ)
    (v : List ℕ) (result : Result T JournalError) → honest → OnOk result (honest → Does state old (ReadBlock h.number b v) new) → IfErr result (ReadRefused state old h b new)
    → Stays (state old.device) (state new.device) → HasComeTo Fact operations state old shown → HasComeTo Fact operations state new shown
read-comes Fact operations state old new shown honest h b v (Ok x) is reads refused device led =
    does Fact operations state old new shown (ReadBlock h.number b v) (λ directs written. written) (reads is) device.shape led
read-comes Fact operations state old new shown honest h b v (Err e) is reads refused device led = read_refused-comes Fact operations state old new shown h b e refused device led

-- a call makes one step of the front, or changes nothing
pub front-comes : (Fact : Shape → Disk → Type 0) (operations : List Operation) {D T E : Type 0} (state : D → DeviceState) (old new : JournalValue D) (shown : Option ℕ) (event : FrontEvent) (result : Result T E)
    → OnOk result (Does state old (FrontStep event) new) → IfErr result (λ e. new ≡ old) → new.device ≡ old.device
    → HasComeTo Fact operations state old shown → HasComeTo Fact operations state new shown
front-comes Fact operations state old new shown event (Ok x) is refused device led =
    does Fact operations state old new shown (FrontStep event) (λ directs written. written) is (ap (λ (d : _). (state d).shape) device) led
front-comes Fact operations state old new shown event (Err e) is refused device led = same Fact operations state old new shown refused led

-- a direct write of a block that one of the operations writes directly, and one that fails
more-written : (operations : List Operation) (b : ℕ) (v : List ℕ) (directs : List (ℕ × List ℕ)) → IsDirectOf operations b → AreDirectsOf operations directs → AreDirectsOf operations ((b, v) ∷ directs)
more-written operations b v directs named written c w one =
    ⊎_elim
    (λ (first : (c, w) ≡ (b, v)). subst (λ (n : ℕ). IsDirectOf operations n) (sym (ap (λ (p : ℕ × List ℕ). p.0) first)) named)
    (λ (rest : IsOneOf directs (c, w)). written c w rest)
    one

direct_refused-comes : (Fact : Shape → Disk → Type 0) (operations : List Operation) {D : Type 0} (state : D → DeviceState) (old new : JournalValue D) (shown : Option ℕ) (b : ℕ) (v : List ℕ) (e : JournalError)
    → IsDirectOf operations b → DirectWriteRefused state old b v new e → (state new.device).shape ≡ (state old.device).shape
    → HasComeTo Fact operations state old shown → HasComeTo Fact operations state new shown
direct_refused-comes Fact operations state old new shown b v e named (WriteAborted aborted is) shape led = same Fact operations state old new shown is led
direct_refused-comes Fact operations state old new shown b v e named (WriteOutside running outside is) shape led = same Fact operations state old new shown is led
direct_refused-comes Fact operations state old new shown b v e named (WriteNotDirect running may right is) shape led = same Fact operations state old new shown is led
direct_refused-comes Fact operations state old new shown b v e named (WriteFailed is fault) shape led =
    does Fact operations state old new shown (DirectWriteFault b v) (λ directs written. more-written operations b v directs named written) is shape led

pub write_direct-comes : (Fact : Shape → Disk → Type 0) (operations : List Operation) {D T : Type 0} (state : D → DeviceState) (old new : JournalValue D) (shown : Option ℕ) (b : ℕ) (v : List ℕ) (result : Result T JournalError)
    → IsDirectOf operations b → OnOk result (Does state old (DirectWrite b v) new) → IfErr result (λ e. DirectWriteRefused state old b v new e)
    → (state new.device).shape ≡ (state old.device).shape → HasComeTo Fact operations state old shown → HasComeTo Fact operations state new shown
write_direct-comes Fact operations state old new shown b v (Ok x) named did refused shape led =
    does Fact operations state old new shown (DirectWrite b v) (λ directs written. more-written operations b v directs named written) did shape led
write_direct-comes Fact operations state old new shown b v (Err e) named did refused shape led = direct_refused-comes Fact operations state old new shown b v e named refused shape led

-- a sync of direct writes, and one that fails
sync_refused-comes : (Fact : Shape → Disk → Type 0) (operations : List Operation) {D : Type 0} (state : D → DeviceState) (old new : JournalValue D) (shown : Option ℕ) (e : JournalError)
    → DirectSyncRefused state old new e → (state new.device).shape ≡ (state old.device).shape → HasComeTo Fact operations state old shown → HasComeTo Fact operations state new shown
sync_refused-comes Fact operations state old new shown e (SyncAborted aborted is) shape led = same Fact operations state old new shown is led
sync_refused-comes Fact operations state old new shown e (SyncFailed is fault) shape led = does Fact operations state old new shown DirectSyncFault (λ directs written. written) is shape led

pub sync_direct-comes : (Fact : Shape → Disk → Type 0) (operations : List Operation) {D T : Type 0} (state : D → DeviceState) (old new : JournalValue D) (shown : Option ℕ) (result : Result T JournalError)
    → OnOk result (Does state old DirectSync new) → IfErr result (λ e. DirectSyncRefused state old new e)
    → (state new.device).shape ≡ (state old.device).shape → HasComeTo Fact operations state old shown → HasComeTo Fact operations state new shown
sync_direct-comes Fact operations state old new shown (Ok x) did refused shape led = does Fact operations state old new shown DirectSync (λ directs written. written) did shape led
sync_direct-comes Fact operations state old new shown (Err e) did refused shape led = sync_refused-comes Fact operations state old new shown e refused shape led

-- the handle has exactly these credits left, or not
decide-left : (found : Option ℕ) (left : ℕ) → (found ≡ Some left) ⊎ (found ≡ Some left → ⊥)
decide-left None left = inr (none-some left)
decide-left (Some n) left =
    ⊎_elim (λ (one : _ × (n ≡ left)). inl (ap Some one.1)) (λ (other : _ × (n ≢ left)). inr (λ is. other.1 (ap (λ (o : Option ℕ). unwrap_or o 0) is))) (eqb_tells n left)

-- a handle is open, or it is not
pub open-or_not : (f : Front) (h : HandleValue) → IsOpenHandle f h ⊎ (IsOpenHandle f h → ⊥)
open-or_not f h =
    ⊎_elim
    (λ (left : lookup (nat_eq h.number) f.open_handles ≡ Some h.left).
    ⊎_elim
    (λ (one : _ × (h.tid ≡ f.running.tid)). inl (record { left = left; transaction = one.1 }))
    (λ (other : _ × (h.tid ≢ f.running.tid)). inr (λ is. other.1 is.transaction))
    (eqb_tells h.tid f.running.tid))
    (λ (none : lookup (nat_eq h.number) f.open_handles ≡ Some h.left → ⊥). inr (λ is. none is.left))
    (decide-left (lookup (nat_eq h.number) f.open_handles) h.left)

-- an open handle stops, or nothing changes
pub stop-comes : (Fact : Shape → Disk → Type 0) (operations : List Operation) {D : Type 0} (state : D → DeviceState) (old new : JournalValue D) (shown : Option ℕ) (h : HandleValue)
    → (IsOpenHandle old.journal.front h → Does state old (FrontStep (StopHandle h.number)) new) → ((IsOpenHandle old.journal.front h → ⊥) → new ≡ old) → new.device ≡ old.device
    → HasComeTo Fact operations state old shown → HasComeTo Fact operations state new shown
stop-comes Fact operations state old new shown h stops other device led =
    ⊎_elim
    (λ (is : IsOpenHandle old.journal.front h). does Fact operations state old new shown (FrontStep (StopHandle h.number)) (λ directs written. written) (stops is) (ap (λ (d : _). (state d).shape) device) led)
    (λ (none : IsOpenHandle old.journal.front h → ⊥). same Fact operations state old new shown (other none) led)
    (open-or_not old.journal.front h)

-- an open handle gets further credits, or nothing changes
pub extend-comes : (Fact : Shape → Disk → Type 0) (operations : List Operation) {D T E : Type 0} (state : D → DeviceState) (old new : JournalValue D) (shown : Option ℕ) (h n : ℕ) (result : Result T E)
    → OnOk result (Extends state h n old new) → IfErr result (λ e. new ≡ old) → new.device ≡ old.device
    → HasComeTo Fact operations state old shown → HasComeTo Fact operations state new shown
extend-comes Fact operations state old new shown h n (Ok x) did refused device led =
    does Fact operations state did.granted new shown (FrontStep (ExtendHandle h n)) (λ directs written. written) did.extends (ap (λ (d : _). (state d).shape) (device ∙ sym did.device))
    (does Fact operations state old did.granted shown (FrontStep (Reserve n)) (λ directs written. written) did.reserves (ap (λ (d : _). (state d).shape) did.device) led)
extend-comes Fact operations state old new shown h n (Err e) did refused device led = same Fact operations state old new shown refused led

-- credits are granted, and a handle joins with them
starts-come : (Fact : Shape → Disk → Type 0) (operations : List Operation) {D : Type 0} (state : D → DeviceState) (old new : JournalValue D) (shown : Option ℕ) (n : ℕ) → Starts state n old new
    → new.device ≡ old.device → HasComeTo Fact operations state old shown → HasComeTo Fact operations state new shown
starts-come Fact operations state old new shown n did device led =
    does Fact operations state did.granted new shown (FrontStep (Join n)) (λ directs written. written) did.joins (ap (λ (d : _). (state d).shape) (device ∙ sym did.device))
    (does Fact operations state old did.granted shown (FrontStep (Reserve n)) (λ directs written. written) did.reserves (ap (λ (d : _). (state d).shape) did.device) led)

pub start-comes : (Fact : Shape → Disk → Type 0) (operations : List Operation) {D T E : Type 0} (state : D → DeviceState) (old new : JournalValue D) (shown : Option ℕ) (n : ℕ) (result : Result T E)
    → OnOk result (Starts state n old new) → IfErr result (λ e. new ≡ old) → new.device ≡ old.device
    → HasComeTo Fact operations state old shown → HasComeTo Fact operations state new shown
start-comes Fact operations state old new shown n (Ok x) did refused device led = starts-come Fact operations state old new shown n did device led
start-comes Fact operations state old new shown n (Err e) did refused device led = same Fact operations state old new shown refused led

-- a handle stops, and perhaps another joins
pub restart-comes : (Fact : Shape → Disk → Type 0) (operations : List Operation) {D T : Type 0} (state : D → DeviceState) (old new : JournalValue D) (shown : Option ℕ) (h : HandleValue) (n : ℕ)
    (result : Result HandleValue (T × JournalError)) → IfOk result (λ other. Restarts state h n old new) → IfErr result (λ e. RestartRefused state h n old new e.1) → new.device ≡ old.device
    → HasComeTo Fact operations state old shown → HasComeTo Fact operations state new shown
restart-comes Fact operations state old new shown h n (Ok other) did refused device led =
    starts-come Fact operations state did.stopped new shown n did.starts (device ∙ sym did.ends.device)
    (stop-comes Fact operations state old did.stopped shown h did.ends.stops did.ends.other did.ends.device led)
restart-comes Fact operations state old new shown h n (Err e) did refused device led =
    stop-comes Fact operations state old new shown h refused.ends.stops refused.ends.other refused.ends.device led

-- a request locks the running transaction, or changes nothing
requests-come : (Fact : Shape → Disk → Type 0) (operations : List Operation) {D : Type 0} (state : D → DeviceState) (old new : JournalValue D) (shown : Option ℕ) (tid : ℕ) → Requests state tid old new
    → new.device ≡ old.device → HasComeTo Fact operations state old shown → HasComeTo Fact operations state new shown
requests-come Fact operations state old new shown tid did device led =
    ⊎_elim
    (λ (one : _ × (tid ≡ old.journal.front.running.tid)).
    ⊎_elim
    (λ (none : _ × (length old.journal.front.running.handles ≤ 0)). same Fact operations state old new shown (did.empty (omega (arith, none.1))) led)
    (λ (some : _ × (0 < length old.journal.front.running.handles)).
    does Fact operations state old new shown (FrontStep Lock) (λ directs written. written) (did.same one.1 some.1) (ap (λ (d : _). (state d).shape) device) led)
    (leb_tells (length old.journal.front.running.handles) 0))
    (λ (other : _ × (tid ≢ old.journal.front.running.tid)). same Fact operations state old new shown (did.other other.1) led)
    (eqb_tells tid old.journal.front.running.tid)

pub request-comes : (Fact : Shape → Disk → Type 0) (operations : List Operation) {D T E : Type 0} (state : D → DeviceState) (old new : JournalValue D) (shown : Option ℕ) (tid : ℕ) (result : Result T E)
    → OnOk result (Requests state tid old new) → IfErr result (λ e. new ≡ old) → new.device ≡ old.device
    → HasComeTo Fact operations state old shown → HasComeTo Fact operations state new shown
request-comes Fact operations state old new shown tid (Ok x) did refused device led = requests-come Fact operations state old new shown tid did device led
request-comes Fact operations state old new shown tid (Err e) did refused device led = same Fact operations state old new shown refused led
