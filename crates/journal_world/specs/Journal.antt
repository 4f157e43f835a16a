-- Which atomic steps a journal, a front with an engine, may take.
-- Source: journalling.rst, fs/jbd2 by behaviour.
use Rattle.std.specs.Prelude.{◌≡◌, ℕ, ◌+◌, ◌<◌, ◌≤◌, nat_eq, true, false, List, [], length, map, Contains, Ok}
use Rattle.std.specs.List.{AllByRecursion, IsDistinct}
use Rattle.journal_model.specs.declared.entry.Batch.{Batch}
use Rattle.journal_model.specs.declared.number.Area.TheVariants.{Home}
use Rattle.journal_model.specs.Block.{IsAllowedBlock}
use Rattle.journal_model.specs.Disk.{Disk, Shape}
use Rattle.journal_model.specs.Reading.{seen}
use Rattle.log_model.specs.Opening.{layout_of, ring_of}
use Rattle.log_model.specs.Room.{IsCapacity}
use Rattle.log_model.specs.Superblock.{Super, super_in}
use Rattle.journal_model.specs.Transaction.{Transaction, entries}
use Rattle.journal_world.specs.declared.round.Round.TheVariants.{Idle as NoRound}
use Rattle.journal_world.specs.declared.stage.Stage.TheVariants.{Idle}
use Rattle.journal_world.specs.Call.Call.{Write, Flush}
use Rattle.journal_world.specs.Checkpoint.{RoundFaults, RoundSteps}
use Rattle.journal_world.specs.Direct.{DirectFaults, DirectSteps}
use Rattle.journal_world.specs.Engine.{AreBatchesOf, Engine, Accepts, CommitSteps, CommitFaults}
use Rattle.journal_world.specs.Front.{Front, FrontEvent, FrontHappens, IsOpen, IsUntouched, MaySeal, aborting, finished_count, finishing, fresh_front, held, reading_block, sealing, transactions}

pub record Journal : Type 0 where
  pub front : Front
  pub engine : Engine

pub data Event : Type 0 where
  FrontStep : (event : FrontEvent) → Event
  Seal : Event
  CommitStep : Event
  CommitFault : Event
  CheckpointStep : Event
  CheckpointFault : Event
  ReadBlock : (handle block : ℕ) → (bytes : List ℕ) → Event
  ReadFault : Event
  DirectWrite : (block : ℕ) → (bytes : List ℕ) → Event
  DirectWriteFault : (block : ℕ) → (bytes : List ℕ) → Event
  DirectSync : Event
  DirectSyncFault : Event
  Finish : Event
  AbortMark : Event

abbrev pub batch_of : Transaction → Batch
batch_of t = record { tid = t.tid; entries = entries t.steps }

-- A step of the front alone neither reads nor changes engine and disk.
pub record StepsFront (old : Journal) (disk : Disk) (event : FrontEvent) (new : Journal) (after : Disk) : Type 0 where
  pub front : FrontHappens old.front event new.front
  pub engine : new.engine ≡ old.engine
  pub disk_is : after ≡ disk

-- The transaction is sealed, and the engine takes its entries.
pub record Seals (old : Journal) (disk : Disk) (new : Journal) (after : Disk) : Type 0 where
  pub may : MaySeal old.front
  pub front : new.front ≡ sealing old.front
  pub engine : Accepts old.engine (batch_of old.front.running) new.engine
  pub disk_is : after ≡ disk

pub record Commits (old : Journal) (disk : Disk) (new : Journal) (after : Disk) : Type 0 where
  pub front : new.front ≡ old.front
  pub engine : CommitSteps old.engine disk new.engine after

-- A failed call aborts the engine; another step notifies the front.
pub record CommitFails (old : Journal) (disk : Disk) (new : Journal) (after : Disk) : Type 0 where
  pub front : new.front ≡ old.front
  pub engine : CommitFaults old.engine disk new.engine after

pub record Checkpoints (old : Journal) (disk : Disk) (new : Journal) (after : Disk) : Type 0 where
  pub front : new.front ≡ old.front
  pub engine : RoundSteps old.engine disk new.engine after

pub record CheckpointFails (old : Journal) (disk : Disk) (new : Journal) (after : Disk) : Type 0 where
  pub front : new.front ≡ old.front
  pub engine : RoundFaults old.engine disk new.engine after

-- An open handle reads an allowed block and sees these bytes, without a credit.
pub record ReadsBlock (old : Journal) (disk : Disk) (h b : ℕ) (v : List ℕ) (new : Journal) (after : Disk) : Type 0 where
  pub running : old.front.aborted ≡ false
  pub handle : IsOpen old.front h
  pub allowed : IsAllowedBlock old.front.layout old.front.home_blocks b
  pub sees : seen (transactions old.front) (finished_count old.front) b (disk Home b).reads ≡ Ok v
  pub front : new.front ≡ reading_block old.front h b v
  pub engine : new.engine ≡ old.engine
  pub disk_is : after ≡ disk

-- A failed read of home aborts the journal.
pub record ReadFails (old : Journal) (disk : Disk) (new : Journal) (after : Disk) : Type 0 where
  pub running : old.engine.aborted ≡ false
  pub front : new.front ≡ aborting old.front
  pub engine : new.engine ≡ record old.engine { aborted = true }
  pub disk_is : after ≡ disk

-- No unfinished transaction has an entry of the block.
pub record WritesDirect (old : Journal) (disk : Disk) (b : ℕ) (v : List ℕ) (new : Journal) (after : Disk) : Type 0 where
  pub untouched : IsUntouched old.front b
  pub front : new.front ≡ old.front
  pub engine : DirectSteps old.engine disk (Write Home b v) new.engine after

pub record DirectWriteFails (old : Journal) (disk : Disk) (b : ℕ) (v : List ℕ) (new : Journal) (after : Disk) : Type 0 where
  pub untouched : IsUntouched old.front b
  pub front : new.front ≡ aborting old.front
  pub engine : DirectFaults old.engine disk (Write Home b v) new.engine after

-- A flush of home makes direct writes durable.
pub record SyncsDirect (old : Journal) (disk : Disk) (new : Journal) (after : Disk) : Type 0 where
  pub front : new.front ≡ old.front
  pub engine : DirectSteps old.engine disk (Flush Home) new.engine after

pub record DirectSyncFails (old : Journal) (disk : Disk) (new : Journal) (after : Disk) : Type 0 where
  pub front : new.front ≡ aborting old.front
  pub engine : DirectFaults old.engine disk (Flush Home) new.engine after

-- The front is notified of one more committed transaction.
pub record Finishes (old : Journal) (disk : Disk) (new : Journal) (after : Disk) : Type 0 where
  pub committed : old.front.finished + 1 < old.engine.first + old.engine.committed
  pub front : new.front ≡ finishing old.front
  pub engine : new.engine ≡ old.engine
  pub disk_is : after ≡ disk

-- The front is notified that the device has failed.
pub record MarksAbort (old : Journal) (disk : Disk) (new : Journal) (after : Disk) : Type 0 where
  pub failed : old.engine.aborted ≡ true
  pub front : new.front ≡ aborting old.front
  pub engine : new.engine ≡ old.engine
  pub disk_is : after ≡ disk

-- the step of each event
abbrev pub Happens : Journal → Disk → Event → Journal → Disk → Type 0
Happens old disk (FrontStep event) new after = StepsFront old disk event new after
Happens old disk Seal new after = Seals old disk new after
Happens old disk CommitStep new after = Commits old disk new after
Happens old disk CommitFault new after = CommitFails old disk new after
Happens old disk CheckpointStep new after = Checkpoints old disk new after
Happens old disk CheckpointFault new after = CheckpointFails old disk new after
Happens old disk (ReadBlock h b v) new after = ReadsBlock old disk h b v new after
Happens old disk ReadFault new after = ReadFails old disk new after
Happens old disk (DirectWrite b v) new after = WritesDirect old disk b v new after
Happens old disk (DirectWriteFault b v) new after = DirectWriteFails old disk b v new after
Happens old disk DirectSync new after = SyncsDirect old disk new after
Happens old disk DirectSyncFault new after = DirectSyncFails old disk new after
Happens old disk Finish new after = Finishes old disk new after
Happens old disk AbortMark new after = MarksAbort old disk new after

-- What a front keeps beside its engine. It knows the log's layout and the number of home blocks; if it is aborted, so is the
-- engine. The engine has accepted the sealed transactions, and the running one has the next number. Finished transactions
-- are committed, acknowledged ones finished. The credits held are within the capacity. Open handles differ, and joined the
-- running transaction.
pub record KeepsFront (f : Front) (e : Engine) : Type 0 where
  pub layout : f.layout ≡ e.layout
  pub home_blocks : f.home_blocks ≡ e.shape.home_blocks
  pub aborted : f.aborted ≡ true → e.aborted ≡ true
  pub accepted : AreBatchesOf f.sealed e.accepted
  pub number : f.running.tid ≡ e.first + length e.accepted
  pub committed : 0 < length e.accepted → f.finished < e.first + e.committed
  pub marked : f.mark ≤ f.finished
  pub capacity : IsCapacity f.layout e.ring.blocks f.capacity
  pub credits : held f ≤ f.capacity
  pub joined : AllByRecursion (λ h. Contains f.running.handles h.0) f.open_handles
  pub once : IsDistinct nat_eq (map (λ h. h.0) f.open_handles)

abbrev pub fresh_engine : Shape → List ℕ → ℕ → Engine
fresh_engine shape superblock next =
    let s : Super = super_in superblock in
    record {
      shape = shape;
      layout = layout_of s;
      ring = ring_of s;
      uuid = s.s_uuid;
      superblock = superblock;
      started = false;
      first = next;
      accepted = [];
      committed = 0;
      start = 0;
      released = 0;
      tail = 0;
      bound = 0;
      bound_position = 0;
      stage = Idle;
      round = NoRound;
      aborted = false;
    }

pub record IsFresh (shape : Shape) (superblock : List ℕ) (next : ℕ) (journal : Journal) : Type 0 where
  pub engine : journal.engine ≡ fresh_engine shape superblock next
  pub front : journal.front ≡ fresh_front journal.engine.layout journal.engine.shape.home_blocks journal.front.capacity next
  pub capacity : IsCapacity journal.engine.layout journal.engine.ring.blocks journal.front.capacity
