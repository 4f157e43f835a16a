-- What each operation of a script does to a journal, and to what the script's names stand for.
use Rattle.std.specs.Prelude.{◌≡◌, ◌≢◌, ◌⊎◌, ⊤, ℕ, ◌-◌, ◌<◌, ◌≤◌, ◌+◌, ◌++◌, Bool, true, false, List, length, replicate, set, take}
use Rattle.journal_model.specs.declared.refusal.JournalError.{JournalError}
use Rattle.journal_model.specs.declared.refusal.JournalError.TheVariants.{Aborted, Memory, NeedSpace}
use Rattle.block_device.specs.State.{DeviceState}
use Rattle.journal_script.specs.declared.script.Operation.{Operation}
use Rattle.journal_script.specs.declared.script.Operation.TheVariants.{Start, Write, Revoke, Read, Extend, Restart, Stop, Request, Lock, Turn, Commit, CheckpointTurn, Check, Status, Wait, WriteDirect, SyncDirect}
use Rattle.journal_world.specs.Front.FrontEvent.{RevokeBlock, WriteBlock}
use Rattle.journal_world.specs.Journal.Event.{DirectSync, DirectWrite, FrontStep, ReadBlock}
use Rattle.journal_front.specs.Front.{Spends, TouchRefused}
use Rattle.journal_front.specs.Values.{HandleValue}
use Rattle.journal_steps.specs.declared.turn.CheckTurn.{CheckTurn}
use Rattle.journal_steps.specs.declared.turn.CheckTurn.TheVariants.{Idle as IdleCheck}
use Rattle.journal_steps.specs.declared.turn.Turn.{Turn as CommitTurn}
use Rattle.journal_steps.specs.declared.turn.Turn.TheVariants.{Idle as IdleTurn, Waiting as WaitingTurn}
use Rattle.journal_steps.specs.Direct.{DirectSyncRefused, DirectWriteRefused}
use Rattle.journal_steps.specs.Journal.{CheckTurnDid, CheckTurnRefused, Does, RegistersRead, ReadRefused, Requests, TurnDid, TurnRefused}
use Rattle.journal_steps.specs.Values.{JournalValue}
use Rattle.group_commit.specs.Extension.{EndsHandle, Extends, ExtensionRefused, RestartRefused, Restarts, StartRefused, Starts}
use Rattle.journal_model.specs.declared.status.Status.{Status as TicketStatus}
use Rattle.journal_model.specs.declared.status.Status.TheVariants.{Committed as IsCommitted, Open as IsOpen}
use Rattle.group_commit.specs.Values.{TicketValue}
use Rattle.script_client.specs.declared.outcome.OperationOutcome.{OperationOutcome}
use Rattle.script_client.specs.declared.outcome.OperationOutcome.TheVariants.{Begins, CheckTurn as CameToCheckTurn, Committed, Done, Open as StillOpen, Refused, Skipped, Transaction, Turn as CameToTurn}
use Rattle.script_client.specs.declared.slots.Slot.{Slot}
use Rattle.script_client.specs.declared.slots.Slot.TheVariants.{Empty, Open, Stopped, Waited}
use Rattle.script_client.specs.Names.{IsFree, stands_for}
use Rattle.recovery.specs.Values.{OpenedValue}
use Rattle.script_client.specs.Shown.{IsNewClient, IsNextHandle, IsReceiptTaken, IsRefusedAborted, IsSameButJournal, ticket_of}
use Rattle.script_client.specs.Steps.{Steps}
use Rattle.script_client.specs.Told.{ClientValue, with_told}

-- a client, and what the names of its script stand for
pub record Table (D : Type 0) : Type 0 where
  pub client : ClientValue D
  pub names : List Slot

-- a new journal on an opened log, a client for these operations, and names that stand for nothing
pub record IsBegun {D : Type 0} (state : D → DeviceState) (opened : OpenedValue D) (operations : List Operation) (t : Table D) : Type 0 where
  pub client : IsNewClient state opened operations t.client
  pub names : t.names ≡ replicate 10000 Empty

-- a block of `size` bytes: the given ones, cut at `size`, then zeros
abbrev pub block_from : ℕ → List ℕ → List ℕ
block_from size bytes = take size bytes ++ replicate (size - length bytes) 0

-- the operation did this, or was refused for a cause `Why`
abbrev pub OrRefused : OperationOutcome → (Did : Type 0) → (Why : JournalError → Type 0) → Type 0
OrRefused outcome Did Why = Did ⊎ ((e : JournalError) × (outcome ≡ Refused e) × Why e)

-- the operation did not run
abbrev pub Skips : {D : Type 0} → OperationOutcome → Table D → Table D → Type 0
Skips outcome old new = (outcome ≡ Skipped) × (new.client ≡ old.client) × (new.names ≡ old.names)

-- a handle started, and the name stands for it
pub record StartsNamed {D : Type 0} (state : D → DeviceState) (name credits : ℕ) (outcome : OperationOutcome) (old new : Table D) : Type 0 where
  pub handle : HandleValue
  pub outcome_is : outcome ≡ Transaction handle.tid
  pub starts : Starts state credits old.client.journal new.client.journal
  pub next : IsNextHandle old.client.journal.journal.front credits handle
  pub names : new.names ≡ set old.names name (Open handle)

-- the start was refused, and the name stands for nothing
pub record StartsNone {D : Type 0} (name credits : ℕ) (old new : Table D) (e : JournalError) : Type 0 where
  pub why : StartRefused old.client.journal.journal.front credits e
  pub same : new.client.journal ≡ old.client.journal
  pub names : new.names ≡ set old.names name Empty

-- a free name: a handle starts or is refused; any other name: the operation is skipped
abbrev pub HasStarted : {D : Type 0} → (D → DeviceState) → (name credits : ℕ) → OperationOutcome → Table D → Table D → Type 0
HasStarted state name credits outcome old new =
    (IsFree old.names name × OrRefused outcome (StartsNamed state name credits outcome old new) (StartsNone name credits old new))
    ⊎ ((IsFree old.names name → ⊥) × Skips outcome old new)

-- a block is written through a handle: these bytes, then zeros
abbrev pub WritesBlock : {D : Type 0} → (D → DeviceState) → ℕ → List ℕ → OperationOutcome → (h left : HandleValue) → (old new : JournalValue D) → Type 0
WritesBlock state b bytes outcome h left old new = OrRefused outcome
    ((outcome ≡ Done) × Does state old (FrontStep (WriteBlock h.number b (block_from (state old.device).shape.block_size bytes))) new × Spends old.journal.front b h left)
    (λ e. (TouchRefused old.journal.front h b e ⊎ (e ≡ Memory)) × (new ≡ old) × (left ≡ h))

-- a block is read through a handle and the read noted; the outcome is its first eight bytes
abbrev pub ReadsBlock : {D : Type 0} → (D → DeviceState) → (honest : D → Type 0) → ℕ → OperationOutcome → HandleValue → (old new : JournalValue D) → Type 0
ReadsBlock state honest b outcome h old new = OrRefused outcome
    ((v : List ℕ) × (outcome ≡ Begins (block_from 8 v)) × RegistersRead state old h b v new × (honest new.device → Does state old (ReadBlock h.number b v) new))
    (λ e. ReadRefused state old h b new e ⊎ ((e ≡ Memory) × (new ≡ old)))

-- an operation through an open handle: a write, a revoke, an extension, or a read
abbrev pub Touches : {D : Type 0} → (D → DeviceState) → (honest : D → Type 0) → Operation → OperationOutcome → (h left : HandleValue) → (old new : JournalValue D) → Type 0
Touches state honest (Write name b bytes) outcome h left old new = WritesBlock state b bytes.items outcome h left old new
Touches state honest (Revoke name b) outcome h left old new = OrRefused outcome
    ((outcome ≡ Done) × Does state old (FrontStep (RevokeBlock h.number b)) new × Spends old.journal.front b h left)
    (λ e. TouchRefused old.journal.front h b e × (new ≡ old) × (left ≡ h))
Touches state honest (Extend name credits) outcome h left old new = OrRefused outcome
    ((outcome ≡ Done) × Extends state h.number credits old new × (left ≡ record h { left = h.left + credits }))
    (λ e. ExtensionRefused old.journal.front h credits e × (new ≡ old) × (left ≡ h))
Touches state honest (Read name b) outcome h left old new = ReadsBlock state honest b outcome h old new × (left ≡ h)
Touches state honest (Start name credits) outcome h left old new = ⊥
Touches state honest (Restart name credits) outcome h left old new = ⊥
Touches state honest (Stop name) outcome h left old new = ⊥
Touches state honest (Request name) outcome h left old new = ⊥
Touches state honest Lock outcome h left old new = ⊥
Touches state honest Turn outcome h left old new = ⊥
Touches state honest Commit outcome h left old new = ⊥
Touches state honest CheckpointTurn outcome h left old new = ⊥
Touches state honest Check outcome h left old new = ⊥
Touches state honest (Status name) outcome h left old new = ⊥
Touches state honest (Wait name) outcome h left old new = ⊥
Touches state honest (WriteDirect b bytes) outcome h left old new = ⊥
Touches state honest SyncDirect outcome h left old new = ⊥

-- the operations that `Touches` covers
abbrev pub IsTouch : Operation → Type 0
IsTouch (Write name b bytes) = ⊤
IsTouch (Revoke name b) = ⊤
IsTouch (Read name b) = ⊤
IsTouch (Extend name credits) = ⊤
IsTouch (Start name credits) = ⊥
IsTouch (Restart name credits) = ⊥
IsTouch (Stop name) = ⊥
IsTouch (Request name) = ⊥
IsTouch Lock = ⊥
IsTouch Turn = ⊥
IsTouch Commit = ⊥
IsTouch CheckpointTurn = ⊥
IsTouch Check = ⊥
IsTouch (Status name) = ⊥
IsTouch (Wait name) = ⊥
IsTouch (WriteDirect b bytes) = ⊥
IsTouch SyncDirect = ⊥

-- the operation goes through the name's open handle; without one it is skipped
pub record TouchesNamed {D : Type 0} (state : D → DeviceState) (honest : D → Type 0) (operation : Operation) (name : ℕ) (outcome : OperationOutcome) (h : HandleValue) (old new : Table D) : Type 0 where
  pub left : HandleValue
  pub touches : Touches state honest operation outcome h left old.client.journal new.client.journal
  pub names : new.names ≡ set old.names name (Open left)

abbrev pub HasTouched : {D : Type 0} → (D → DeviceState) → (honest : D → Type 0) → Operation → (name : ℕ) → Slot → OperationOutcome → Table D → Table D → Type 0
HasTouched state honest operation name (Open h) outcome old new = TouchesNamed state honest operation name outcome h old new
HasTouched state honest operation name Empty outcome old new = Skips outcome old new
HasTouched state honest operation name (Stopped ticket) outcome old new = Skips outcome old new
HasTouched state honest operation name (Waited receipt) outcome old new = Skips outcome old new

-- the handle was stopped, and the name stands for a new one
pub record RestartsNamed {D : Type 0} (state : D → DeviceState) (name credits : ℕ) (outcome : OperationOutcome) (h : HandleValue) (old new : Table D) : Type 0 where
  pub handle : HandleValue
  pub outcome_is : outcome ≡ Transaction handle.tid
  pub restarts : Restarts state h credits old.client.journal new.client.journal
  pub next : IsNextHandle old.client.journal.journal.front credits handle
  pub names : new.names ≡ set old.names name (Open handle)

-- the restart was refused, and the name stands for the stopped handle's ticket
pub record RestartsNone {D : Type 0} (state : D → DeviceState) (name credits : ℕ) (h : HandleValue) (old new : Table D) (e : JournalError) : Type 0 where
  pub why : RestartRefused state h credits old.client.journal new.client.journal e
  pub names : new.names ≡ set old.names name (Stopped (ticket_of h))

abbrev pub HasRestarted : {D : Type 0} → (D → DeviceState) → (name credits : ℕ) → Slot → OperationOutcome → Table D → Table D → Type 0
HasRestarted state name credits (Open h) outcome old new = OrRefused outcome (RestartsNamed state name credits outcome h old new) (RestartsNone state name credits h old new)
HasRestarted state name credits Empty outcome old new = Skips outcome old new
HasRestarted state name credits (Stopped ticket) outcome old new = Skips outcome old new
HasRestarted state name credits (Waited receipt) outcome old new = Skips outcome old new

-- the handle that the name stands for was stopped
abbrev pub HasStopped : {D : Type 0} → (D → DeviceState) → (name : ℕ) → Slot → OperationOutcome → Table D → Table D → Type 0
HasStopped state name (Open h) outcome old new =
    (outcome ≡ Transaction h.tid) × EndsHandle state h old.client.journal new.client.journal × (new.names ≡ set old.names name (Stopped (ticket_of h)))
HasStopped state name Empty outcome old new = Skips outcome old new
HasStopped state name (Stopped ticket) outcome old new = Skips outcome old new
HasStopped state name (Waited receipt) outcome old new = Skips outcome old new

-- a commit was requested; a receipt's transaction already has it. Once the device has failed, both are refused
abbrev pub HasRequested : {D : Type 0} → (D → DeviceState) → Slot → OperationOutcome → Table D → Table D → Type 0
HasRequested state (Stopped ticket) outcome old new = (new.names ≡ old.names) × OrRefused outcome
    ((outcome ≡ Done) × Requests state ticket.tid old.client.journal new.client.journal)
    (λ e. IsRefusedAborted old.client e × (new.client.journal ≡ old.client.journal))
HasRequested state (Waited receipt) outcome old new = (new.names ≡ old.names) × (new.client ≡ old.client) × OrRefused outcome
    ((outcome ≡ Done) × (old.client.journal.journal.engine.aborted ≡ false))
    (λ e. (e ≡ Aborted) × (old.client.journal.journal.engine.aborted ≡ true))
HasRequested state Empty outcome old new = Skips outcome old new
HasRequested state (Open h) outcome old new = Skips outcome old new

-- the running transaction was locked if a handle had joined it, and its number answered; or the device has failed
abbrev pub Locks : {D : Type 0} → (D → DeviceState) → OperationOutcome → JournalValue D → JournalValue D → Type 0
Locks state outcome old new = OrRefused outcome
    ((outcome ≡ Transaction old.journal.front.running.tid) × Requests state old.journal.front.running.tid old new)
    (λ e. (e ≡ Aborted) × (old.journal.front.aborted ≡ true) × (new ≡ old))

-- the most turns that one operation takes
abbrev pub most_turns : ℕ
most_turns = 2000000

-- a commit turn had nothing to do, or waits for a handle to stop
abbrev pub IsIdle : CommitTurn → Type 0
IsIdle turn = (turn ≡ IdleTurn) ⊎ (turn ≡ WaitingTurn)

abbrev pub WasIdle : {D : Type 0} → (D → DeviceState) → JournalValue D → JournalValue D → Type 0
WasIdle state old new = (turn : CommitTurn) × IsIdle turn × TurnDid state turn old new

-- one turn that had something to do
abbrev pub TakesTurn : {D : Type 0} → (D → DeviceState) → JournalValue D → JournalValue D → Type 0
TakesTurn state old new = (turn : CommitTurn) × (IsIdle turn → ⊥) × TurnDid state turn old new

abbrev pub TakesCheckTurn : {D : Type 0} → (D → DeviceState) → JournalValue D → JournalValue D → Type 0
TakesCheckTurn state old new = (turn : CheckTurn) × (turn ≢ IdleCheck) × CheckTurnDid state turn old new

-- turns were taken up to the first that had nothing to do or was refused
pub record TakesTurns {D : Type 0} (state : D → DeviceState) (outcome : OperationOutcome) (old new : JournalValue D) : Type 0 where
  pub count : ℕ
  pub before : JournalValue D
  pub turns : Steps (λ i. TakesTurn state) count old before
  pub last : OrRefused outcome
      ((outcome ≡ Transaction new.journal.front.mark) × (WasIdle state before new ⊎ ((count ≡ most_turns) × (new ≡ before))))
      (TurnRefused state before new)

pub record TakesCheckTurns {D : Type 0} (state : D → DeviceState) (outcome : OperationOutcome) (old new : JournalValue D) : Type 0 where
  pub count : ℕ
  pub before : JournalValue D
  pub turns : Steps (λ i. TakesCheckTurn state) count old before
  pub last : OrRefused outcome
      ((outcome ≡ CameToCheckTurn IdleCheck) × (CheckTurnDid state IdleCheck before new ⊎ ((count ≡ most_turns) × (new ≡ before))))
      (CheckTurnRefused state before new)

-- a ticket's status as an outcome
abbrev pub told_of : ℕ → TicketStatus → OperationOutcome
told_of tid IsCommitted = Committed tid
told_of tid IsOpen = StillOpen

-- the transaction is committed, and that is noted; or it is still open
abbrev pub Tells : {D : Type 0} → (committed : OperationOutcome) → (tid : ℕ) → OperationOutcome → ClientValue D → ClientValue D → Type 0
Tells committed tid outcome old new =
    ((outcome ≡ committed) × (tid ≤ old.journal.journal.front.mark) × (new ≡ record old { shown = with_told tid old.shown }))
    ⊎ ((outcome ≡ StillOpen) × (old.journal.journal.front.mark < tid) × (new ≡ old))

-- the status of the name's ticket or receipt
abbrev pub HasStatus : {D : Type 0} → Slot → OperationOutcome → Table D → Table D → Type 0
HasStatus (Stopped ticket) outcome old new = (new.names ≡ old.names) × Tells (Committed ticket.tid) ticket.tid outcome old.client new.client
HasStatus (Waited receipt) outcome old new = (new.names ≡ old.names) × Tells (Committed receipt.tid) receipt.tid outcome old.client new.client
HasStatus Empty outcome old new = Skips outcome old new
HasStatus (Open h) outcome old new = Skips outcome old new

-- a wait for a ticket: a committed transaction gives its receipt, an open one is not awaited. Once the device has failed, the wait for a
-- committed one is refused
abbrev pub WaitsFor : {D : Type 0} → TicketValue → OperationOutcome → Slot → ClientValue D → ClientValue D → Type 0
WaitsFor ticket outcome behind old new =
    ((outcome ≡ Transaction ticket.tid) × IsReceiptTaken ticket old new × (behind ≡ Waited ticket))
    ⊎ (((outcome ≡ StillOpen) × (old.journal.journal.front.mark < ticket.tid) × (new ≡ old) × (behind ≡ Stopped ticket))
    ⊎ ((e : JournalError) × (outcome ≡ Refused e) × (ticket.tid ≤ old.journal.journal.front.mark) × IsRefusedAborted old e × (new ≡ old) × (behind ≡ Stopped ticket)))

-- a wait for a receipt: its transaction is answered again, unless the device has failed
abbrev pub TellsAgain : {D : Type 0} → ℕ → OperationOutcome → ClientValue D → ClientValue D → Type 0
TellsAgain tid outcome old new =
    (Tells (Transaction tid) tid outcome old new × (old.journal.journal.engine.aborted ≡ false))
    ⊎ ((outcome ≡ Refused Aborted) × (old.journal.journal.engine.aborted ≡ true) × (new ≡ old))

-- a wait for what the name stands for
abbrev pub HasWaited : {D : Type 0} → (name : ℕ) → Slot → OperationOutcome → Table D → Table D → Type 0
HasWaited name (Stopped ticket) outcome old new = (behind : Slot) × WaitsFor ticket outcome behind old.client new.client × (new.names ≡ set old.names name behind)
HasWaited name (Waited receipt) outcome old new = TellsAgain receipt.tid outcome old.client new.client × (new.names ≡ set old.names name (Waited receipt))
HasWaited name Empty outcome old new = Skips outcome old new
HasWaited name (Open h) outcome old new = Skips outcome old new

-- a block was written directly, these bytes and then zeros, or that was refused
abbrev pub WritesDirectly : {D : Type 0} → (D → DeviceState) → ℕ → List ℕ → OperationOutcome → JournalValue D → JournalValue D → Type 0
WritesDirectly state b bytes outcome old new =
    let block = block_from (state old.device).shape.block_size bytes in
    OrRefused outcome
    ((outcome ≡ Done) × Does state old (DirectWrite b block) new)
    (λ e. DirectWriteRefused state old b block new e ⊎ ((e ≡ Memory) × (new ≡ old)))

-- direct writes were made durable, or that was refused
abbrev pub SyncsDirectly : {D : Type 0} → (D → DeviceState) → OperationOutcome → JournalValue D → JournalValue D → Type 0
SyncsDirectly state outcome old new = OrRefused outcome ((outcome ≡ Done) × Does state old DirectSync new) (DirectSyncRefused state old new)

-- one turn was taken, or refused
abbrev pub TakesOneTurn : {D : Type 0} → (D → DeviceState) → OperationOutcome → JournalValue D → JournalValue D → Type 0
TakesOneTurn state outcome old new = OrRefused outcome ((turn : CommitTurn) × (outcome ≡ CameToTurn turn) × TurnDid state turn old new) (TurnRefused state old new)

abbrev pub TakesOneCheckTurn : {D : Type 0} → (D → DeviceState) → OperationOutcome → JournalValue D → JournalValue D → Type 0
TakesOneCheckTurn state outcome old new = OrRefused outcome ((turn : CheckTurn) × (outcome ≡ CameToCheckTurn turn) × CheckTurnDid state turn old new) (CheckTurnRefused state old new)

-- only the journal changed, by `Did`
abbrev pub OnJournal : {D : Type 0} → (JournalValue D → JournalValue D → Type 0) → Table D → Table D → Type 0
OnJournal Did old new = Did old.client.journal new.client.journal × (new.names ≡ old.names)

-- the outcome of an operation, and what it did to the journal and to the names
abbrev pub HasDone : {D : Type 0} → (D → DeviceState) → (honest : D → Type 0) → Operation → OperationOutcome → Table D → Table D → Type 0
HasDone state honest (Start name credits) outcome old new =
    IsSameButJournal old.client new.client × HasStarted state name credits outcome old new
HasDone state honest (Write name b bytes) outcome old new =
    IsSameButJournal old.client new.client × HasTouched state honest (Write name b bytes) name (stands_for old.names name) outcome old new
HasDone state honest (Revoke name b) outcome old new =
    IsSameButJournal old.client new.client × HasTouched state honest (Revoke name b) name (stands_for old.names name) outcome old new
HasDone state honest (Read name b) outcome old new =
    IsSameButJournal old.client new.client × HasTouched state honest (Read name b) name (stands_for old.names name) outcome old new
HasDone state honest (Extend name credits) outcome old new =
    IsSameButJournal old.client new.client × HasTouched state honest (Extend name credits) name (stands_for old.names name) outcome old new
HasDone state honest (Restart name credits) outcome old new =
    IsSameButJournal old.client new.client × HasRestarted state name credits (stands_for old.names name) outcome old new
HasDone state honest (Stop name) outcome old new =
    IsSameButJournal old.client new.client × HasStopped state name (stands_for old.names name) outcome old new
HasDone state honest (Request name) outcome old new =
    IsSameButJournal old.client new.client × HasRequested state (stands_for old.names name) outcome old new
HasDone state honest Lock outcome old new = IsSameButJournal old.client new.client × OnJournal (Locks state outcome) old new
HasDone state honest Turn outcome old new = IsSameButJournal old.client new.client × OnJournal (TakesOneTurn state outcome) old new
HasDone state honest Commit outcome old new = IsSameButJournal old.client new.client × OnJournal (TakesTurns state outcome) old new
HasDone state honest CheckpointTurn outcome old new = IsSameButJournal old.client new.client × OnJournal (TakesOneCheckTurn state outcome) old new
HasDone state honest Check outcome old new = IsSameButJournal old.client new.client × OnJournal (TakesCheckTurns state outcome) old new
HasDone state honest (Status name) outcome old new = HasStatus (stands_for old.names name) outcome old new
HasDone state honest (Wait name) outcome old new = HasWaited name (stands_for old.names name) outcome old new
HasDone state honest (WriteDirect b bytes) outcome old new = IsSameButJournal old.client new.client × OnJournal (WritesDirectly state b bytes.items outcome) old new
HasDone state honest SyncDirect outcome old new = IsSameButJournal old.client new.client × OnJournal (SyncsDirectly state outcome) old new

-- Checkpoint turns were taken for an operation, up to the first that had nothing to do, and it was performed; or the turns were refused, and
-- it came to that.
pub data HasDoneAfterRound {D : Type 0} (state : D → DeviceState) (honest : D → Type 0) (operation : Operation) (outcome : OperationOutcome) (old new : Table D) : Type 0 where
  DoneAfter : (roomy : Table D) → HasDone state honest Check (CameToCheckTurn IdleCheck) old roomy → HasDone state honest operation outcome roomy new →
      HasDoneAfterRound state honest operation outcome old new
  RoundRefused : HasDone state honest Check outcome old new → outcome ≢ CameToCheckTurn IdleCheck → HasDoneAfterRound state honest operation outcome old new

-- the ring had no room for an operation, and so it was performed once more, after a round
pub record HasMadeRoom {D : Type 0} (state : D → DeviceState) (honest : D → Type 0) (operation : Operation) (outcome : OperationOutcome) (old new : Table D) : Type 0 where
  pub refused : Table D
  pub none : HasDone state honest operation (Refused NeedSpace) old refused
  pub again : HasDoneAfterRound state honest operation outcome refused new

-- an operation was performed, and where room is made a second time, if the ring had none for it
abbrev pub HasDoneAs : {D : Type 0} → (makes_room : Bool) → (D → DeviceState) → (honest : D → Type 0) → Operation → OperationOutcome → Table D → Table D → Type 0
HasDoneAs false state honest operation outcome old new = HasDone state honest operation outcome old new
HasDoneAs true state honest operation outcome old new =
    (HasDone state honest operation outcome old new × (outcome ≢ Refused NeedSpace)) ⊎ HasMadeRoom state honest operation outcome old new
