-- What the engine keeps true of itself and of the disk, from one device call to the next.
-- Source: journal.rst (the order of the blocks of a transaction); write-ahead logging: nothing is relied on before it is
-- durable.
use Rattle.std.specs.Prelude.{◌≡◌, ◌⊎◌, ⊤, ℕ, suc, ◌+◌, ◌-◌, ◌*◌, ◌<◌, ◌≤◌, min, Bool, true, false, List, [], ◌∷◌, length, map, take, Some, slice_get}
use Rattle.std.specs.List.{AllByRecursion}
use Rattle.journal_model.specs.declared.entry.Batch.{Batch}
use Rattle.journal_model.specs.declared.number.Area.TheVariants.{Log, Home}
use Rattle.log_model.specs.Chain.{Ring, texts_blocks, ring_place}
use Rattle.journal_model.specs.Disk.{Disk, Cell, Image, IsOneOf, Leaves, held, Shape}
use Rattle.log_model.specs.HomeChange.{HomeAddsOnly, IsCommittedCopy}
use Rattle.journal_model.specs.Layout.{IsLayout, Layout, uuid_bytes}
use Rattle.log_model.specs.Opening.{Opens, IsCountOf, greatest_number}
use Rattle.log_model.specs.Superblock.{super_in}
use Rattle.journal_model.specs.Transaction.{History}
use Rattle.journal_world.specs.declared.round.Round.{Round}
use Rattle.journal_world.specs.declared.round.Round.TheVariants.{Idle as NoRound, Copies, TailWrite, TailFlush}
use Rattle.journal_world.specs.declared.stage.Stage.{Stage}
use Rattle.journal_world.specs.declared.stage.Stage.TheVariants.{Idle, SuperblockWrite, SuperblockFlush, Blocks, CommitWrite, CommitFlush}
use Rattle.journal_world.specs.Checkpoint.{IsFrom, IsNewestCopy, IsPending}
use Rattle.journal_world.specs.Engine.{Engine, AreBatchesOf, IsBatch, block_at, committed_texts, due_blocks, text_of}
use Rattle.journal_world.specs.Opening.{IsBehind, IsSuperblock, NamesNothing}

-- the log begins with this transaction number, at this position
pub record BeginsAt (shape : Shape) (l : Layout) (ring : Ring) (number position : ℕ) (block : List ℕ) : Type 0 where
  pub is_superblock : IsSuperblock shape l ring block
  pub start : (super_in block).s_start ≡ ring_place ring position
  pub sequence : (super_in block).s_sequence ≡ number

-- it names the first unreleased transaction
abbrev pub NamesTail : Engine → List ℕ → Type 0
NamesTail e v = BeginsAt e.shape e.layout e.ring (e.first + e.released) e.tail v

-- it names the first transaction that the round does not release
abbrev pub NamesNewTail : Engine → List ℕ → Type 0
NamesNewTail e v = BeginsAt e.shape e.layout e.ring (e.first + e.bound) e.bound_position v

-- by its last write it names the tail, or the new one once a round has written it
abbrev pub NamesStarted : Engine → Round → List ℕ → Type 0
NamesStarted e NoRound v = NamesTail e v
NamesStarted e (Copies transaction block) v = NamesTail e v
NamesStarted e TailWrite v = NamesTail e v
NamesStarted e TailFlush v = NamesNewTail e v

-- a clean log's superblock names no transaction
abbrev pub Names : Engine → Bool → List ℕ → Type 0
Names e true v = NamesStarted e e.round v
Names e false v = NamesNothing e.shape e.layout e.ring e.first v

abbrev pub AreNumberedFrom : ℕ → List Batch → Type 0
AreNumberedFrom first [] = ⊤
AreNumberedFrom first (b ∷ bs) = (b.tid ≡ first) × AreNumberedFrom (suc first) bs

-- at most one transaction is being committed; the stage agrees with the counts
abbrev pub StageAgrees : Engine → Stage → Type 0
StageAgrees e Idle = (length e.accepted ≡ e.committed) × (e.started ≡ false → e.committed ≡ 0)
StageAgrees e SuperblockWrite = (length e.accepted ≡ e.committed + 1) × (e.started ≡ false) × (e.committed ≡ 0)
StageAgrees e SuperblockFlush = (length e.accepted ≡ e.committed + 1) × (e.started ≡ true) × (e.committed ≡ 0)
StageAgrees e (Blocks k) = (length e.accepted ≡ e.committed + 1) × (e.started ≡ true) × (k < length (due_blocks e))
StageAgrees e CommitWrite = (length e.accepted ≡ e.committed + 1) × (e.started ≡ true)
StageAgrees e CommitFlush = (length e.accepted ≡ e.committed + 1) × (e.started ≡ true)

-- a round under way will release some transaction
abbrev pub RoundAgrees : Engine → Round → Type 0
RoundAgrees e NoRound = e.bound ≡ e.released
RoundAgrees e (Copies transaction block) = e.released < e.bound
RoundAgrees e TailWrite = e.released < e.bound
RoundAgrees e TailFlush = e.released < e.bound

-- ring blocks taken by the first n transactions, over all laps
abbrev pub position : Engine → ℕ → ℕ
position e n = length (texts_blocks (map (text_of e) (take n e.accepted)))

-- what the engine keeps true of itself alone
pub record IsPlain (e : Engine) : Type 0 where
  pub layout : IsLayout e.layout × (e.layout.block_size ≡ e.shape.block_size)
  pub names : Names e e.started e.superblock
  pub uuid : length e.uuid ≡ uuid_bytes
  pub batches : AllByRecursion (IsBatch e.layout e.shape) e.accepted
  pub numbered : AreNumberedFrom e.first e.accepted
  pub numbers : e.first + length e.accepted ≤ greatest_number + 1
  pub start : e.start ≡ position e e.committed
  pub tail : e.tail ≡ position e e.released
  pub bound_position : e.bound_position ≡ position e e.bound
  pub order : (e.released ≤ e.bound) × (e.bound ≤ e.committed)
  -- the unreleased transactions fit the ring
  pub room : e.start + length (due_blocks e) ≤ e.tail + e.ring.blocks
  -- positions stay small: no transaction takes more than a lap
  pub laps : e.start + length (due_blocks e) ≤ length e.accepted * e.ring.blocks
  pub stage : StageAgrees e e.stage
  pub round : RoundAgrees e e.round

-- the log is not started, or its first superblock is not flushed
abbrev pub MayBeClean : Engine → Type 0
MayBeClean e = (e.started ≡ false) ⊎ (e.stage ≡ SuperblockFlush)

-- a round is about to write the superblock with its tail, or has written it
abbrev pub MovesTail : Engine → Type 0
MovesTail e = (e.round ≡ TailWrite) ⊎ (e.round ≡ TailFlush)

-- what a crash may leave of block 0
pub data MayBeSuperblock (e : Engine) (v : List ℕ) : Type 0 where
  Clean : MayBeClean e → NamesNothing e.shape e.layout e.ring e.first v → MayBeSuperblock e v
  Old : NamesTail e v → MayBeSuperblock e v
  New : MovesTail e → NamesNewTail e v → MayBeSuperblock e v

-- log blocks that may have been handed over; the commit block only once the others are durable
abbrev pub handed : Stage → ℕ → ℕ
handed Idle blocks = 0
handed SuperblockWrite blocks = 0
handed SuperblockFlush blocks = 0
handed (Blocks k) blocks = min (k + 1) (blocks - 1)
handed CommitWrite blocks = blocks
handed CommitFlush blocks = blocks

-- v belongs at position k, in the transaction being committed, and may have been handed over
pub record IsOwnBlock (e : Engine) (k : ℕ) (v : List ℕ) : Type 0 where
  pub index : ℕ
  pub place : k ≡ e.start + index
  pub block : slice_get (due_blocks e) index ≡ Some v
  pub handed_over : index < handed e.stage (length (due_blocks e))

abbrev pub durable_cell : List ℕ → Cell
durable_cell v = record { reads = v; others = [] }

abbrev pub IsDurable : Engine → Disk → ℕ → List ℕ → Type 0
IsDurable e disk k v = disk Log (ring_place e.ring k) ≡ durable_cell v

-- what is written and durable at each stage
abbrev pub StageHolds : Engine → Disk → Stage → Type 0
StageHolds e disk Idle = ⊤
StageHolds e disk SuperblockWrite = ⊤
StageHolds e disk SuperblockFlush = (disk Log 0).reads ≡ e.superblock
StageHolds e disk (Blocks k) = (j : ℕ) → j < k → (disk Log (ring_place e.ring (e.start + j))).reads ≡ block_at (due_blocks e) j
StageHolds e disk CommitWrite = (j : ℕ) → j + 1 < length (due_blocks e) → IsDurable e disk (e.start + j) (block_at (due_blocks e) j)
StageHolds e disk CommitFlush =
    ((j : ℕ) → j + 1 < length (due_blocks e) → IsDurable e disk (e.start + j) (block_at (due_blocks e) j))
    × ((disk Log (ring_place e.ring (e.start + (length (due_blocks e) - 1)))).reads ≡ block_at (due_blocks e) (length (due_blocks e) - 1))

-- the newest committed copies of the first n transactions are durable at home
abbrev pub HomeHas : Engine → Disk → ℕ → Type 0
HomeHas e disk n = (i b : ℕ) (v : List ℕ) → IsNewestCopy e i b v → i < n → disk Home b ≡ durable_cell v

-- a round wrote its copies up to one of them, then flushed them all
abbrev pub RoundHolds : Engine → Disk → Round → Type 0
RoundHolds e disk NoRound = ⊤
RoundHolds e disk (Copies transaction block) =
    (i b : ℕ) (v : List ℕ) → IsPending e i b v → i < e.bound → (IsFrom transaction block i b → ⊥) → (disk Home b).reads ≡ v
RoundHolds e disk TailWrite = HomeHas e disk e.bound
RoundHolds e disk TailFlush = HomeHas e disk e.bound × ((disk Log 0).reads ≡ e.superblock)

-- The disk is as the engine relies on it. Committed unreleased transactions are durable in the log. No other ring block could
-- be taken for a further transaction until all but the next commit block is durable. Released copies are durable at home.
pub record Sound (e : Engine) (disk : Disk) : Type 0 where
  pub plain : IsPlain e
  pub superblock : (v : List ℕ) → IsOneOf (held (disk Log 0)) v → MayBeSuperblock e v
  pub durable : (k : ℕ) → e.tail ≤ k → k < e.start → IsDurable e disk k (block_at (texts_blocks (committed_texts e)) k)
  pub behind : (k : ℕ) (v : List ℕ) → e.start ≤ k → k < e.tail + e.ring.blocks → IsOneOf (held (disk Log (ring_place e.ring k))) v →
      IsBehind (e.first + e.committed) v ⊎ IsOwnBlock e k v
  pub stage : StageHolds e disk e.stage
  pub home : HomeHas e disk e.released
  pub round : RoundHolds e disk e.round

-- the image opens to n for any transactions of these batches, and n is their count by its log
pub record OpensTo (shape : Shape) (accepted : List Batch) (image : Image) (n : ℕ) : Type 0 where
  pub opens : (ts : History) → AreBatchesOf ts accepted → Opens shape ts n image
  pub count : (ts : History) → AreBatchesOf ts accepted → IsCountOf shape image ts n

-- every crash image opens, to a number from low to high
pub record OpensBetween (shape : Shape) (accepted : List Batch) (low high : ℕ) (disk : Disk) : Type 0 where
  pub each : (image : Image) → Leaves disk image → (n : ℕ) × (low ≤ n) × (n ≤ high) × OpensTo shape accepted image n

pub record KeepsHome (old new : Disk) : Type 0 where
  pub same : (b : ℕ) → new Home b ≡ old Home b

-- home changed by copies alone, each the one that the committed transactions leave of its block
pub record CopiesHome (e : Engine) (old new : Disk) : Type 0 where
  pub adds : (ts : History) → AreBatchesOf ts e.accepted → HomeAddsOnly (IsCommittedCopy ts e.committed) old new
