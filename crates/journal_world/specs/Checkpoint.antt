-- Which copies are pending, and which device call of a checkpoint round is due.
-- Source: journal.rst (checkpointing), fs/jbd2/checkpoint.c by behaviour; that each step is one device call is
-- this project's own.
use Rattle.std.specs.Prelude.{◌≡◌, ◌⊎◌, ℕ, ◌+◌, ◌<◌, ◌≤◌, true, false, List, Some, map, slice_get, Contains}
use Rattle.journal_model.specs.declared.entry.Batch.{Batch}
use Rattle.journal_model.specs.declared.entry.Entry.TheVariants.{Copy}
use Rattle.journal_model.specs.declared.number.Area.TheVariants.{Log, Home}
use Rattle.log_model.specs.Chain.{ring_place}
use Rattle.journal_model.specs.Disk.{Disk}
use Rattle.log_model.specs.Superblock.{with_tail}
use Rattle.journal_world.specs.declared.round.Round.{Round}
use Rattle.journal_world.specs.declared.round.Round.TheVariants.{Idle, Copies, TailWrite, TailFlush}
use Rattle.journal_world.specs.Call.{Call, after_success, IsAfterFault}
use Rattle.journal_world.specs.Call.Call.{Write, Flush}
use Rattle.journal_world.specs.Engine.{Engine}

-- transaction i (from 0 since the opening) is committed and copies block b as v
pub record HasCommittedCopy (e : Engine) (i b : ℕ) (v : List ℕ) : Type 0 where
  pub batch : Batch
  pub committed : i < e.committed
  pub stands : slice_get e.accepted i ≡ Some batch
  pub copy : Contains batch.entries (b, Copy v)

-- no later committed transaction has an entry of block b
abbrev pub HasNoLaterEntry : Engine → ℕ → ℕ → Type 0
HasNoLaterEntry e i b = (j : ℕ) (later : Batch) → i < j → j < e.committed → slice_get e.accepted j ≡ Some later → Contains (map (λ p. p.0) later.entries) b → ⊥

-- no later committed transaction copies or revokes the block
pub record IsNewestCopy (e : Engine) (i b : ℕ) (v : List ℕ) : Type 0 where
  pub copy : HasCommittedCopy e i b v
  pub last : HasNoLaterEntry e i b

-- the newest copy, not released
pub record IsPending (e : Engine) (i b : ℕ) (v : List ℕ) : Type 0 where
  pub newest : IsNewestCopy e i b v
  pub unreleased : e.released ≤ i

-- a read gives the newest committed copy, else what home reads
pub record IsRead (e : Engine) (disk : Disk) (b : ℕ) (v : List ℕ) : Type 0 where
  pub copied : (i : ℕ) (w : List ℕ) → IsNewestCopy e i b w → v ≡ w
  pub other : ((i : ℕ) (w : List ℕ) → IsNewestCopy e i b w → ⊥) → v ≡ (disk Home b).reads

-- copy (j, c) is (i, b) or after it, by transaction and then block
abbrev pub IsFrom : ℕ → ℕ → ℕ → ℕ → Type 0
IsFrom i b j c = (i < j) ⊎ ((i ≡ j) × (b ≤ c))

-- a pending copy that the round has still to write home
pub record IsUnwritten (e : Engine) (transaction block i b : ℕ) (v : List ℕ) : Type 0 where
  pub pending : IsPending e i b v
  pub due : i < e.bound
  pub from : IsFrom transaction block i b

pub record IsNextCopy (e : Engine) (transaction block i b : ℕ) (v : List ℕ) : Type 0 where
  pub unwritten : IsUnwritten e transaction block i b v
  pub first : (j c : ℕ) (w : List ℕ) → IsUnwritten e transaction block j c w → IsFrom i b j c

-- the superblock with the round's new tail
abbrev pub tail_superblock : Engine → List ℕ
tail_superblock e = with_tail e.superblock (e.first + e.bound) (ring_place e.ring e.bound_position)

-- the round's due call, and the engine after it succeeded
pub data RoundCall (e : Engine) : Round → Call → Engine → Type 0 where
  CopyHome : (transaction block i b : ℕ) (v : List ℕ) → IsNextCopy e transaction block i b v →
      RoundCall e (Copies transaction block) (Write Home b v) (record e { round = Copies i (b + 1) })
  FlushHome : (transaction block : ℕ) → ((i b : ℕ) (v : List ℕ) → IsUnwritten e transaction block i b v → ⊥) →
      RoundCall e (Copies transaction block) (Flush Home) (record e { round = TailWrite })
  WriteTail : RoundCall e TailWrite (Write Log 0 (tail_superblock e)) (record e { superblock = tail_superblock e; round = TailFlush })
  FlushTail : RoundCall e TailFlush (Flush Log) (record e { released = e.bound; tail = e.bound_position; round = Idle })

-- some committed transaction is not released
abbrev pub HasRound : Engine → Type 0
HasRound e = e.released < e.committed

-- the engine with its round under way; a new one will release all committed by now
abbrev pub begun_from : Engine → Round → Engine
begun_from e Idle = record e { bound = e.committed; bound_position = e.start; round = Copies 0 0 }
begun_from e (Copies transaction block) = e
begun_from e TailWrite = e
begun_from e TailFlush = e

abbrev pub begun : Engine → Engine
begun e = begun_from e e.round

pub record RoundSteps (old : Engine) (disk : Disk) (new : Engine) (after : Disk) : Type 0 where
  pub running : old.aborted ≡ false
  pub round : HasRound old
  pub call : Call
  pub due : RoundCall (begun old) (begun old).round call new
  pub disk_is : after ≡ after_success call disk

-- a failed call of a round aborts the journal
pub record RoundFaults (old : Engine) (disk : Disk) (new : Engine) (after : Disk) : Type 0 where
  pub running : old.aborted ≡ false
  pub round : HasRound old
  pub call : Call
  pub stepped : Engine
  pub due : RoundCall (begun old) (begun old).round call stepped
  pub engine : new ≡ record (begun old) { aborted = true }
  pub disk_is : IsAfterFault call disk after
