-- The engine that a ledger stands for in the pure machine, and what the ledger keeps.
use Rattle.std.specs.Prelude.{◌≡◌, ◌⊎◌, ⊤, ℕ, ◌+◌, ◌<◌, ◌≤◌, nat_le, List, length, drop, filter, Some, slice_get, Contains}
use Rattle.journal_model.specs.declared.entry.Batch.{Batch}
use Rattle.journal_model.specs.declared.entry.Entry.TheVariants.{Copy}
use Rattle.journal_model.specs.Disk.{Shape}
use Rattle.checkpoint.specs.declared.version.Version.{Version}
use Rattle.checkpoint.specs.Pending.{ArePending, PendingValue, newest_of}
use Rattle.journal_world.specs.declared.round.Round.{Round}
use Rattle.journal_world.specs.declared.round.Round.TheVariants.{Idle as NoRound, Copies, TailWrite, TailFlush}
use Rattle.journal_world.specs.Checkpoint.{IsFrom, IsPending}
use Rattle.journal_world.specs.Engine.{Engine, due_blocks}
use Rattle.journal_world.specs.Sound.{IsPlain, position}
use Rattle.log_ledger.specs.declared.ledger.Ledger.{Ledger}
use Rattle.log_ledger.specs.declared.plan.LogPlan.{LogPlan}
use Rattle.log_ledger.specs.Text.{IsPlanOf}

abbrev pub engine_of : Shape → Ledger → Engine
engine_of shape l = record {
  shape = shape;
  layout = l.layout;
  ring = l.ring.ring;
  uuid = l.uuid;
  superblock = l.superblock.items;
  started = l.started;
  first = l.first;
  accepted = l.accepted.items;
  committed = l.committed;
  start = l.start;
  released = l.released;
  tail = l.ring.tail;
  bound = l.bound;
  bound_position = l.bound_position;
  stage = l.stage;
  round = l.round;
  aborted = l.aborted;
}

-- the ring is taken up to the end of the transaction being committed
pub record HasTaken (shape : Shape) (l : Ledger) : Type 0 where
  pub head : l.ring.head ≡ l.start + length (due_blocks (engine_of shape l))

-- the plan of the transaction being committed, if any
abbrev pub HasPlan : Engine → LogPlan → Type 0
HasPlan e plan = (b : Batch) → slice_get e.accepted e.committed ≡ Some b → IsPlanOf b.entries plan

-- entry k of transaction i is a pending copy of block b
pub record IsPlaced (e : Engine) (i b k : ℕ) : Type 0 where
  pub bytes : List ℕ
  pub pending : IsPending e i b bytes
  pub batch : Batch
  pub stands : slice_get e.accepted i ≡ Some batch
  pub entry : slice_get batch.entries k ≡ Some (b, Copy bytes)

-- still to be written home, by the current round or a later one
abbrev pub IsStillUnwritten : Engine → Round → ℕ → ℕ → Type 0
IsStillUnwritten e NoRound i b = ⊤
IsStillUnwritten e (Copies transaction block) i b = (e.bound ≤ i) ⊎ IsFrom transaction block i b
IsStillUnwritten e TailWrite i b = e.bound ≤ i
IsStillUnwritten e TailFlush i b = e.bound ≤ i

-- the pending copies are the machine's, with their places, and whether they are written; those queued from a
-- transaction on need no more room than its and later log blocks
pub record KeepsPending (e : Engine) (p : PendingValue) : Type 0 where
  pub kept : ArePending p
  pub room : p.room ≡ e.ring.blocks
  pub placed : (b : ℕ) (v : Version) → newest_of p b ≡ Some v → (i : ℕ) × (v.tid ≡ e.first + i) × IsPlaced e i b v.place
  pub all : (i b : ℕ) (bytes : List ℕ) → IsPending e i b bytes → (v : Version) × (newest_of p b ≡ Some v) × (v.tid ≡ e.first + i)
  pub unwritten_only : (i b : ℕ) → Contains p.unwritten (e.first + i, b) → IsStillUnwritten e e.round i b
  pub unwritten_all : (i b : ℕ) (bytes : List ℕ) → IsPending e i b bytes → IsStillUnwritten e e.round i b → Contains p.unwritten (e.first + i, b)
  pub numbers : (t b : ℕ) → Contains p.queue (t, b) → (e.first + e.released ≤ t) × (t < e.first + e.committed)
  pub used : (i : ℕ) → e.released ≤ i → i ≤ e.committed → length (filter (λ x. nat_le (e.first + i) x.0) p.queue) + position e i ≤ e.start

abbrev pub HasKept : Ledger → Type 0
HasKept l = l.kept.items ≡ drop l.released l.accepted.items

pub record Runs (shape : Shape) (l : Ledger) : Type 0 where
  pub plain : IsPlain (engine_of shape l)
  pub taken : HasTaken shape l
  pub pending : KeepsPending (engine_of shape l) l.pending
  pub kept : HasKept l

-- it can run on some device with blocks of this size
pub record CanRunOn (l : Ledger) (size : ℕ) : Type 0 where
  pub shape : Shape
  pub runs : Runs shape l
  pub size_is : size ≡ shape.block_size
