-- What a journal's calls do, each as a step of the pure machine, and why they are refused.
use Rattle.std.specs.Prelude.{◌≡◌, ◌≢◌, ⊤, ℕ, ◌+◌, ◌/◌, ◌<◌, ◌≤◌, Bool, true, false, List, [], length, Ok, Option, Some, None}
use Rattle.std.specs.List.{AllByRecursion}
use Rattle.journal_model.specs.declared.entry.Entry.TheVariants.{Copy, Revoke as RevokeEntry}
use Rattle.journal_model.specs.declared.refusal.JournalError.{JournalError}
use Rattle.journal_model.specs.declared.refusal.JournalError.TheVariants.{Aborted, BadBlock, Device, Memory, NeedSpace, Revoked}
use Rattle.journal_model.specs.declared.transaction.Op.{Op}
use Rattle.journal_model.specs.declared.transaction.Op.TheVariants.{Write, Revoke, Read}
use Rattle.journal_model.specs.declared.transaction.Step.{Step as HandleStep}
use Rattle.journal_model.specs.Block.{IsAllowedBlock}
use Rattle.journal_model.specs.Disk.{Disk, Image, Leaves, Shape}
use Rattle.journal_model.specs.Layout.{Layout}
use Rattle.journal_model.specs.Reading.{seen}
use Rattle.journal_model.specs.declared.number.Area.TheVariants.{Home}
use Rattle.log_model.specs.Opening.{Opens, IsCountOf, greatest_number}
use Rattle.log_model.specs.Room.{IsCapacity, need}
use Rattle.journal_model.specs.Transaction.{History, Transaction, copied, entries, last_effect, revoked}
use Rattle.block_device.specs.State.{DeviceState, Stays, one_more_fault}
use Rattle.journal_world.specs.declared.round.Round.TheVariants.{Idle as NoRound}
use Rattle.journal_world.specs.declared.stage.Stage.TheVariants.{Idle}
use Rattle.journal_world.specs.Checkpoint.{IsPending}
use Rattle.journal_world.specs.Engine.{AreBatchesOf, Engine}
use Rattle.journal_world.specs.Front.{Front, finished_count, held, reading_block, transactions, unfinished}
use Rattle.journal_world.specs.Front.FrontEvent.{Lock, Raise}
use Rattle.journal_world.specs.Journal.{Event, Happens, Journal}
use Rattle.journal_world.specs.Journal.Event.{AbortMark, CheckpointFault, CheckpointStep, CommitFault, CommitStep, Finish, FrontStep, ReadFault, Seal}
use Rattle.journal_world.specs.Sound.{CopiesHome, KeepsHome}
use Rattle.journal_steps.specs.declared.turn.CheckTurn.{CheckTurn}
use Rattle.journal_steps.specs.declared.turn.CheckTurn.TheVariants.{Idle as IdleCheck, Step as StepCheck, Released}
use Rattle.journal_steps.specs.declared.turn.Turn.{Turn}
use Rattle.journal_steps.specs.declared.turn.Turn.TheVariants.{Idle as IdleTurn, Waiting, Step, Sealed, Committed}
use Rattle.log_engine.specs.Left.{round_calls}
use Rattle.journal_front.specs.Front.{IsKeptOut, MayStep, MayTouch}
use Rattle.journal_front.specs.Values.{HandleValue}
use Rattle.journal_steps.specs.Handles.{KeepsHandles}
use Rattle.journal_steps.specs.Values.{JournalValue}

-- this one step leads from the old journal and disk to the new ones
abbrev pub Does : {D : Type 0} → (D → DeviceState) → JournalValue D → Event → JournalValue D → Type 0
Does state old event new = Happens old.journal (state old.device).disk event new.journal (state new.device).disk

-- a whole block is written or read
abbrev pub IsWhole : ℕ → Op → Type 0
IsWhole size (Write v) = length v ≡ size
IsWhole size Revoke = ⊤
IsWhole size (Read v) = length v ≡ size

-- the step is of a whole block that may be touched
pub record IsGoodStep (l : Layout) (shape : Shape) (s : HandleStep) : Type 0 where
  pub whole : IsWhole shape.block_size s.op
  pub allowed : IsAllowedBlock l shape.home_blocks s.block

-- Front and engine agree. The sealed transactions are the accepted batches; the finished and acknowledged ones are the committed ones;
-- the front knows the layouts and whether the device has failed; credits are within this log's capacity; and its handles are as an audit
-- needs them.
pub record Agrees (j : Journal) : Type 0 where
  pub layout : j.front.layout ≡ j.engine.layout
  pub home_blocks : j.front.home_blocks ≡ j.engine.shape.home_blocks
  pub aborted : j.front.aborted ≡ j.engine.aborted
  pub batches : AreBatchesOf j.front.sealed j.engine.accepted
  pub number : j.front.running.tid ≡ j.engine.first + length j.engine.accepted
  pub finished : j.front.finished + 1 ≡ j.engine.first + j.engine.committed
  pub mark : j.front.mark ≡ j.front.finished
  pub steps : AllByRecursion (IsGoodStep j.engine.layout j.engine.shape) j.front.running.steps
  pub joined : 0 < length j.front.running.handles → j.front.running.tid ≤ greatest_number
  pub locked : j.front.locked ≡ true → 0 < length j.front.running.handles
  pub capacity : IsCapacity j.front.layout j.engine.ring.blocks j.front.capacity
  pub credits : held j.front ≤ j.front.capacity
  pub handles : KeepsHandles j.front

-- why the front has no copy of the block to hand out
pub data NoCopy (f : Front) (b : ℕ) (e : JournalError) : Type 0 where
  OfRevoke : last_effect b (unfinished f) ≡ Some RevokeEntry → e ≡ Revoked → NoCopy f b e
  OfMemory : (last_effect b (unfinished f) ≡ Some RevokeEntry → ⊥) → e ≡ Memory → NoCopy f b e

-- the front holds a copy of the block
pub record HoldsCopy (f : Front) (b : ℕ) : Type 0 where
  pub copy : List ℕ
  pub last : last_effect b (unfinished f) ≡ Some (Copy copy)

-- a copy of the block is kept: as the last entry of the unfinished transactions, or pending
pub data HasCopyKept (j : Journal) (b : ℕ) : Type 0 where
  OfUnfinished : (v : List ℕ) → last_effect b (unfinished j.front) ≡ Some (Copy v) → HasCopyKept j b
  OfPending : (i : ℕ) (v : List ℕ) → IsPending j.engine i b v → HasCopyKept j b

-- a read by this handle saw these bytes, which is one more step; the engine is unchanged, and the device too if a copy is kept
pub record RegistersRead {D : Type 0} (state : D → DeviceState) (old : JournalValue D) (h : HandleValue) (b : ℕ) (v : List ℕ) (new : JournalValue D) : Type 0 where
  pub may : MayStep old.journal.front h b
  pub front : new.journal.front ≡ reading_block old.journal.front h.number b v
  pub engine : new.journal.engine ≡ old.journal.engine
  pub kept : HasCopyKept old.journal b → new.device ≡ old.device

-- why a read is refused; only a device failure changes the journal
pub data ReadRefused {D : Type 0} (state : D → DeviceState) (old : JournalValue D) (h : HandleValue) (b : ℕ) (new : JournalValue D) (e : JournalError) : Type 0 where
  ReadKeptOut : IsKeptOut old.journal.front h b e → new ≡ old → ReadRefused state old h b new e
  ReadRevoked : MayStep old.journal.front h b → last_effect b (unfinished old.journal.front) ≡ Some RevokeEntry → new ≡ old → e ≡ Revoked →
      ReadRefused state old h b new e
  ReadUnnoted : MayStep old.journal.front h b → (last_effect b (unfinished old.journal.front) ≡ Some RevokeEntry → ⊥) → new.journal ≡ old.journal →
      (state new.device).faults ≡ (state old.device).faults → e ≡ Memory → ReadRefused state old h b new e
  ReadFailed : MayStep old.journal.front h b → last_effect b (unfinished old.journal.front) ≡ None → (HasCopyKept old.journal b → ⊥) → Does state old ReadFault new →
      (state new.device).faults ≡ one_more_fault (state old.device).faults → e ≡ Device → ReadRefused state old h b new e

-- what the front puts in a buffer: the copy that is the block's last unfinished entry, or nothing if there is none
abbrev pub HandsOut : Front → ℕ → (buffer : List ℕ) → Bool → List ℕ → Type 0
HandsOut f b buffer true v = last_effect b (unfinished f) ≡ Some (Copy v)
HandsOut f b buffer false v = (last_effect b (unfinished f) ≡ None) × (v ≡ buffer)

-- a read without a handle saw what a handle's read would see, and left the journal; a kept copy leaves the device too
pub record NewestDid {D : Type 0} (state : D → DeviceState) (honest : D → Type 0) (old : JournalValue D) (b : ℕ) (v : List ℕ) (new : JournalValue D) : Type 0 where
  pub running : old.journal.front.aborted ≡ false
  pub allowed : MayTouch old.journal.front b
  pub same : new.journal ≡ old.journal
  pub sees : honest new.device → seen (transactions old.journal.front) (finished_count old.journal.front) b ((state old.device).disk Home b).reads ≡ Ok v
  pub copied : (w : List ℕ) → last_effect b (unfinished old.journal.front) ≡ Some (Copy w) → (v ≡ w) × (new ≡ old)
  pub pending : last_effect b (unfinished old.journal.front) ≡ None → (i : ℕ) (w : List ℕ) → IsPending old.journal.engine i b w → (v ≡ w) × (new ≡ old)

-- why a read without a handle is refused; only a device failure changes the journal
pub data NewestRefused {D : Type 0} (state : D → DeviceState) (old : JournalValue D) (b : ℕ) (new : JournalValue D) (e : JournalError) : Type 0 where
  NewestAborted : old.journal.front.aborted ≡ true → new ≡ old → e ≡ Aborted → NewestRefused state old b new e
  NewestOutside : old.journal.front.aborted ≡ false → (MayTouch old.journal.front b → ⊥) → new ≡ old → e ≡ BadBlock → NewestRefused state old b new e
  NewestRevoked : old.journal.front.aborted ≡ false → MayTouch old.journal.front b → last_effect b (unfinished old.journal.front) ≡ Some RevokeEntry → new ≡ old →
      e ≡ Revoked → NewestRefused state old b new e
  NewestFailed : old.journal.front.aborted ≡ false → MayTouch old.journal.front b → last_effect b (unfinished old.journal.front) ≡ None →
      (HasCopyKept old.journal b → ⊥) → Does state old ReadFault new → (state new.device).faults ≡ one_more_fault (state old.device).faults → e ≡ Device →
      NewestRefused state old b new e

-- a request locks the ticket's transaction, if it is running and a handle has joined it; else nothing changes
pub record Requests {D : Type 0} (state : D → DeviceState) (tid : ℕ) (old new : JournalValue D) : Type 0 where
  pub running : old.journal.front.aborted ≡ false
  pub same : tid ≡ old.journal.front.running.tid → 0 < length old.journal.front.running.handles → Does state old (FrontStep Lock) new
  pub other : (tid ≢ old.journal.front.running.tid) → new ≡ old
  pub empty : length old.journal.front.running.handles ≡ 0 → new ≡ old

-- the log blocks that a transaction needs
abbrev pub need_of : Layout → Transaction → ℕ
need_of l t = need l (length (copied (entries t.steps))) (length (revoked (entries t.steps)))

-- the ring has that many free blocks for the running transaction
abbrev pub HasRoomFor : Journal → Type 0
HasRoomFor j =
    j.engine.start + need_of j.engine.layout j.front.running ≤ j.engine.tail + j.engine.ring.blocks

-- the running transaction needs at most a quarter of the ring
abbrev pub FitsQuarter : Journal → Type 0
FitsQuarter j = need_of j.engine.layout j.front.running ≤ j.engine.ring.blocks / 4

-- no commit is under way, and the running transaction is locked and has no open handle
pub record SealIsDue (j : Journal) : Type 0 where
  pub running : j.engine.aborted ≡ false
  pub idle : j.engine.stage ≡ Idle
  pub locked : j.front.locked ≡ true
  pub stopped : j.front.open_handles ≡ []

-- The last commit step of its transaction: it is committed, the front records it, then acknowledges it.
pub record FinishesCommit {D : Type 0} (state : D → DeviceState) (tid : ℕ) (old new : JournalValue D) : Type 0 where
  pub mid : Journal
  pub done : Journal
  pub commits : Happens old.journal (state old.device).disk CommitStep mid (state new.device).disk
  pub idle : mid.engine.stage ≡ Idle
  pub finishes : Happens mid (state new.device).disk Finish done (state new.device).disk
  pub number : tid ≡ done.front.finished
  pub raises : Happens done (state new.device).disk (FrontStep (Raise tid)) new.journal (state new.device).disk
  pub told : new.journal.front.mark ≡ tid

-- The device failed in the first step, then the front is notified, with nothing between.
pub record FailsAndNotifies {D : Type 0} (state : D → DeviceState) (fault : Event) (old new : JournalValue D) : Type 0 where
  pub mid : Journal
  pub fails : Happens old.journal (state old.device).disk fault mid (state new.device).disk
  pub notifies : Happens mid (state new.device).disk AbortMark new.journal (state new.device).disk

-- a commit step that is not the last one
pub record StepsCommit {D : Type 0} (state : D → DeviceState) (old new : JournalValue D) : Type 0 where
  pub commits : Does state old CommitStep new
  pub busy : new.journal.engine.stage ≢ Idle

-- no commit is under way, and the running transaction is not locked
pub record NothingIsDue (j : Journal) : Type 0 where
  pub running : j.engine.aborted ≡ false
  pub idle : j.engine.stage ≡ Idle
  pub unlocked : j.front.locked ≡ false

-- no commit is under way; the running transaction is locked and has an open handle
pub record StopIsAwaited (j : Journal) : Type 0 where
  pub running : j.engine.aborted ≡ false
  pub idle : j.engine.stage ≡ Idle
  pub locked : j.front.locked ≡ true
  pub open_handle : 0 < length j.front.open_handles

-- what a commit turn did
abbrev pub TurnDid : {D : Type 0} → (D → DeviceState) → Turn → JournalValue D → JournalValue D → Type 0
TurnDid state IdleTurn old new = NothingIsDue old.journal × (new ≡ old)
TurnDid state Waiting old new = StopIsAwaited old.journal × (new ≡ old)
TurnDid state Step old new = StepsCommit state old new
TurnDid state (Sealed tid) old new = Does state old Seal new × (tid ≡ old.journal.front.running.tid) × FitsQuarter old.journal
TurnDid state (Committed tid) old new = FinishesCommit state tid old new

-- a transaction is being committed, and the device has not failed
pub record IsCommitting (j : Journal) : Type 0 where
  pub running : j.engine.aborted ≡ false
  pub busy : j.engine.stage ≢ Idle

-- what a seal did: nothing if another transaction is being committed; else what a commit turn does without a device call
abbrev pub SealDid : {D : Type 0} → (D → DeviceState) → Option Turn → JournalValue D → JournalValue D → Type 0
SealDid state None old new = IsCommitting old.journal × (new ≡ old)
SealDid state (Some turn) old new = (old.journal.engine.stage ≡ Idle) × TurnDid state turn old new

-- why a commit turn is refused
pub data TurnRefused {D : Type 0} (state : D → DeviceState) (old new : JournalValue D) : JournalError → Type 0 where
  WasAborted : old.journal.engine.aborted ≡ true → new ≡ old → TurnRefused state old new Aborted
  RingIsShort : SealIsDue old.journal → (HasRoomFor old.journal → ⊥) → new ≡ old → TurnRefused state old new NeedSpace
  MemoryIsShort : SealIsDue old.journal → HasRoomFor old.journal → new ≡ old → TurnRefused state old new Memory
  DeviceFailed : FailsAndNotifies state CommitFault old new → (state new.device).faults ≡ one_more_fault (state old.device).faults →
      TurnRefused state old new Device

-- no round is under way, and every committed transaction is released
pub record NothingToRelease (e : Engine) : Type 0 where
  pub running : e.aborted ≡ false
  pub idle : e.round ≡ NoRound
  pub released : e.released ≡ e.committed

-- what a checkpoint turn did; its last step ends the round
abbrev pub CheckTurnDid : {D : Type 0} → (D → DeviceState) → CheckTurn → JournalValue D → JournalValue D → Type 0
CheckTurnDid state IdleCheck old new =
    NothingToRelease old.journal.engine × (new.journal ≡ old.journal) × ((state new.device).disk ≡ (state old.device).disk)
CheckTurnDid state StepCheck old new = Does state old CheckpointStep new × (new.journal.engine.round ≢ NoRound)
CheckTurnDid state (Released tid) old new =
    Does state old CheckpointStep new × (new.journal.engine.round ≡ NoRound) × (tid + 1 ≡ new.journal.engine.first + new.journal.engine.released)

-- why a checkpoint turn is refused
pub data CheckTurnRefused {D : Type 0} (state : D → DeviceState) (old new : JournalValue D) : JournalError → Type 0 where
  CheckAborted : old.journal.engine.aborted ≡ true → new.journal ≡ old.journal → Stays (state old.device) (state new.device) →
      (state new.device).faults ≡ (state old.device).faults → CheckTurnRefused state old new Aborted
  CheckFailed : FailsAndNotifies state CheckpointFault old new → (state new.device).faults ≡ one_more_fault (state old.device).faults →
      CheckTurnRefused state old new Device

-- every crash image of the disk opens, to a number of these transactions from low to high
pub record OpensOver (shape : Shape) (ts : History) (low high : ℕ) (disk : Disk) : Type 0 where
  pub each : (image : Image) → Leaves disk image → (n : ℕ) × (low ≤ n) × (n ≤ high) × Opens shape ts n image × IsCountOf shape image ts n

-- so for a journal, from its committed to its sealed transactions
abbrev pub OpensNow : Journal → Disk → Type 0
OpensNow j disk = OpensOver j.engine.shape j.front.sealed j.engine.committed (length j.front.sealed) disk

-- a moment of a turn: home is as it was, and each crash image opens
pub record IsDuringTurn (j : Journal) (old disk : Disk) : Type 0 where
  pub home : KeepsHome old disk
  pub opens : OpensNow j disk

-- a moment of a checkpoint turn: home gained newest committed copies alone, and each crash image opens
pub record IsDuringCheckTurn (j : Journal) (old disk : Disk) : Type 0 where
  pub home : CopiesHome j.engine old disk
  pub opens : OpensNow j disk

-- a checkpoint turn that made a call leaves fewer to make
abbrev pub LeavesFewerRounds : CheckTurn → Engine → Engine → Type 0
LeavesFewerRounds IdleCheck old new = ⊤
LeavesFewerRounds StepCheck old new = round_calls new < round_calls old
LeavesFewerRounds (Released tid) old new = round_calls new < round_calls old
