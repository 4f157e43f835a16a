-- Which transactions the engine has, how far they are committed and released, and which device call of a commit is
-- due.
-- Source: fs/jbd2/commit.c by behaviour; that each step is one device call is this project's own.
use Rattle.std.specs.Prelude.{◌≡◌, ℕ, ◌+◌, ◌-◌, ◌≤◌, nat_lt, nat_eq, Bool, true, false, if◌then◌else◌, List, [], ◌∷◌, ◌++◌, length, map, take, unwrap_or, slice_get, Option, Some, None, All}
use Rattle.std.specs.List.{IsDistinct}
use Rattle.journal_model.specs.declared.entry.Batch.{Batch}
use Rattle.log_model.specs.declared.log.Text.{Text}
use Rattle.journal_model.specs.declared.number.Area.TheVariants.{Log}
use Rattle.journal_model.specs.Block.{IsAllowedBlock}
use Rattle.log_model.specs.Chain.{Ring, ring_place}
use Rattle.journal_model.specs.Disk.{Disk, Shape}
use Rattle.journal_model.specs.Layout.{Layout}
use Rattle.log_model.specs.Opening.{greatest_number}
use Rattle.log_model.specs.OwnText.{own_text}
use Rattle.log_model.specs.Superblock.{with_tail}
use Rattle.log_model.specs.Text.{text_blocks}
use Rattle.journal_model.specs.Transaction.{History, copied, entries}
use Rattle.journal_world.specs.declared.round.Round.{Round}
use Rattle.journal_world.specs.declared.stage.Stage.{Stage}
use Rattle.journal_world.specs.declared.stage.Stage.TheVariants.{Idle, SuperblockWrite, SuperblockFlush, Blocks, CommitWrite, CommitFlush}
use Rattle.journal_world.specs.Call.{Call, after_success, IsAfterFault}
use Rattle.journal_world.specs.Call.Call.{Write, Flush}

pub record Engine : Type 0 where
  pub shape : Shape  -- of the device
  pub layout : Layout  -- of the log, as the opening found it
  pub ring : Ring
  pub uuid : List ℕ  -- the journal's, after the first tag of each descriptor
  pub superblock : List ℕ  -- block 0 of the log, by its last write that succeeded
  pub started : Bool  -- `superblock` names the log's first transaction
  pub first : ℕ  -- the number of the first transaction since the opening
  pub accepted : List Batch  -- the transactions handed over since then, by number
  pub committed : ℕ  -- how many of `accepted` are committed
  pub start : ℕ  -- ring blocks that these have taken, over all laps: the next transaction begins there
  pub released : ℕ  -- how many are home for good, their ring blocks free
  pub tail : ℕ  -- how many ring blocks these have taken
  pub bound : ℕ  -- how many are released after the checkpoint round; without a round `released`
  pub bound_position : ℕ  -- how many ring blocks these have taken
  pub stage : Stage  -- of the next commit
  pub round : Round  -- of the checkpoint round
  pub aborted : Bool  -- the device has failed

abbrev pub text_of : Engine → Batch → Text
text_of e b = own_text e.layout e.uuid b.tid b.entries

abbrev pub committed_texts : Engine → List Text
committed_texts e = map (text_of e) (take e.committed e.accepted)

abbrev pub blocks_if : Engine → Option Batch → List (List ℕ)
blocks_if e None = []
blocks_if e (Some b) = text_blocks (text_of e b)

-- the log blocks of the transaction being committed, the commit block last
abbrev pub due_blocks : Engine → List (List ℕ)
due_blocks e = blocks_if e (slice_get e.accepted e.committed)

abbrev pub block_at : List (List ℕ) → ℕ → List ℕ
block_at blocks k = unwrap_or (slice_get blocks k) []

abbrev pub write_block : Engine → ℕ → Call
write_block e k = Write Log (ring_place e.ring (e.start + k)) (block_at (due_blocks e) k)

-- it names that transaction as the log's first
abbrev pub started_superblock : Engine → List ℕ
started_superblock e = with_tail e.superblock (e.first + e.committed) (ring_place e.ring e.start)

abbrev pub call_in : Engine → Stage → Option Call
call_in e Idle = None
call_in e SuperblockWrite = Some (Write Log 0 (started_superblock e))
call_in e SuperblockFlush = Some (Flush Log)
call_in e (Blocks k) = Some (if nat_lt (k + 1) (length (due_blocks e)) then write_block e k else Flush Log)
call_in e CommitWrite = Some (write_block e (length (due_blocks e) - 1))
call_in e CommitFlush = Some (Flush Log)

abbrev pub call_due : Engine → Option Call
call_due e = call_in e e.stage

-- the engine after the due call succeeded
abbrev pub stepped_from : Engine → Stage → Engine
stepped_from e Idle = e
stepped_from e SuperblockWrite = record e { stage = SuperblockFlush; superblock = started_superblock e; started = true }
stepped_from e SuperblockFlush = record e { stage = Blocks 0 }
stepped_from e (Blocks k) = record e { stage = if nat_lt (k + 1) (length (due_blocks e)) then Blocks (k + 1) else CommitWrite }
stepped_from e CommitWrite = record e { stage = CommitFlush }
stepped_from e CommitFlush = record e { stage = Idle; committed = e.committed + 1; start = e.start + length (due_blocks e) }

abbrev pub stepped : Engine → Engine
stepped e = stepped_from e e.stage

-- entries of different allowed blocks, with copies of one block each
pub record IsBatch (l : Layout) (shape : Shape) (b : Batch) : Type 0 where
  pub once : IsDistinct nat_eq (map (λ p. p.0) b.entries)
  pub allowed : All (λ p. IsAllowedBlock l shape.home_blocks p.0) b.entries
  pub whole : All (λ c. length c.1 ≡ shape.block_size) (copied b.entries)

-- all ring blocks are free but those of unreleased transactions
abbrev pub HasRoom : Engine → Batch → Type 0
HasRoom e b = e.start + length (text_blocks (text_of e b)) ≤ e.tail + e.ring.blocks

abbrev pub accepting : Engine → Batch → Engine
accepting e b = record e { accepted = e.accepted ++ b ∷ []; stage = if e.started then Blocks 0 else SuperblockWrite }

-- a batch is taken when nothing is being committed, with the next number, and if there is room
pub record Accepts (old : Engine) (b : Batch) (new : Engine) : Type 0 where
  pub running : old.aborted ≡ false
  pub idle : old.stage ≡ Idle
  pub number : b.tid ≡ old.first + old.committed
  pub left : b.tid ≤ greatest_number
  pub batch : IsBatch old.layout old.shape b
  pub room : HasRoom old b
  pub after : new ≡ accepting old b

pub record CommitSteps (old : Engine) (disk : Disk) (new : Engine) (after : Disk) : Type 0 where
  pub running : old.aborted ≡ false
  pub call : Call
  pub due : call_due old ≡ Some call
  pub engine : new ≡ stepped old
  pub disk_is : after ≡ after_success call disk

-- a failed call of a commit aborts the journal
pub record CommitFaults (old : Engine) (disk : Disk) (new : Engine) (after : Disk) : Type 0 where
  pub running : old.aborted ≡ false
  pub call : Call
  pub due : call_due old ≡ Some call
  pub engine : new ≡ record old { aborted = true }
  pub disk_is : IsAfterFault call disk after

-- the batches have the transactions' numbers and entries, in order
abbrev pub AreBatchesOf : History → List Batch → Type 0
AreBatchesOf [] [] = Unit {0}
AreBatchesOf (t ∷ ts) (b ∷ bs) = (b.tid ≡ t.tid) × (b.entries ≡ entries t.steps) × AreBatchesOf ts bs
AreBatchesOf [] (b ∷ bs) = ⊥
AreBatchesOf (t ∷ ts) [] = ⊥
