-- The round's due call is unique, and a ledger can run after it.
use Rattle.std.proofs.Common.{refl, sym, ap, ap₂, subst, ◌∙◌, arith, inl, inr}
use Rattle.std.specs.Prelude.{◌≡◌, ◌≢◌, ℕ, ◌+◌, ◌-◌, ◌<◌, ◌≤◌, List, length, Option, Some, None, slice_get}
use Rattle.std.proofs.lemmas.Bool.{cases_lt}
use Rattle.std.proofs.lemmas.List.Elements.{recursion_from_All}
use Rattle.journal_model.specs.declared.entry.Batch.{Batch}
use Rattle.journal_model.specs.declared.entry.Entry.{Entry}
use Rattle.journal_model.specs.declared.entry.Entry.TheVariants.{Copy}
use Rattle.journal_model.specs.declared.number.Area.TheVariants.{Log, Home}
use Rattle.journal_model.specs.Block.{IsAllowedBlock}
use Rattle.log_model.specs.Chain.{ring_place}
use Rattle.journal_model.specs.Layout.{Layout}
use Rattle.log_model.specs.OwnText.{own_text}
use Rattle.journal_model.specs.Disk.{Shape}
use Rattle.log_model.specs.Superblock.{super_in, with_tail}
use Rattle.log_model.specs.Text.{text_blocks}
use Rattle.log_format.specs.Size.{IsBlockSize}
use Rattle.checkpoint.specs.declared.version.HomeCopy.{HomeCopy}
use Rattle.checkpoint.specs.Pending.{PendingValue}
use Rattle.journal_world.specs.declared.round.Round.{Round}
use Rattle.journal_world.specs.declared.round.Round.TheVariants.{Idle as NoRound, Copies, TailWrite, TailFlush}
use Rattle.journal_world.specs.Call.{Call}
use Rattle.journal_world.specs.Call.Call.{Write}
use Rattle.journal_world.specs.Checkpoint.{HasRound, IsFrom, IsNextCopy, IsUnwritten, RoundCall, begun, begun_from}
use Rattle.journal_world.specs.Checkpoint.RoundCall.{CopyHome, FlushHome, WriteTail, FlushTail}
use Rattle.journal_world.specs.Engine.{Engine, IsBatch, blocks_if, due_blocks}
use Rattle.journal_world.specs.Opening.{IsSuperblock}
use Rattle.journal_world.specs.Sound.{IsPlain, RoundAgrees}
use Rattle.journal_world.proofs.Elements.{all-at}
use Rattle.journal_world.proofs.Pending.{newest-bytes}
use Rattle.journal_world.proofs.RoundPlain.{round-plain}
use Rattle.journal_world.proofs.Rounds.{begun-plain}
use Rattle.journal_world.proofs.Superblocks.{accepted-first, accepted-ring, accepted-size, accepted-within, names-superblock}
use Rattle.log_ledger.specs.declared.ledger.Ledger.{Ledger}
use Rattle.log_ledger.specs.Ledger.{CanRunOn, HasKept, HasTaken, IsPlaced, KeepsPending, Runs, engine_of}
use Rattle.log_ledger.specs.declared.due.Due.{Due}
use Rattle.log_ledger.specs.declared.due.Due.TheVariants.{Write as WriteDue, Flush as FlushDue}
use Rattle.log_ledger.specs.Due.{call_of}
use Rattle.log_ledger.specs.Rounds.{HasDue, HasGone, IsDueHome}
use Rattle.log_ledger.proofs.Copies.{copy-size}
use Rattle.log_ledger.proofs.Ledgers.{kept-alike}
use Rattle.log_ledger.proofs.Pendings.{begun-keeps, next-copy}

-- the superblock is one
superblock-here : (e : Engine) → IsPlain e → IsSuperblock e.shape e.layout e.ring e.superblock
superblock-here e plain = names-superblock e e.started e.superblock plain.names

module _ (l : Ledger) (size : ℕ) (on : CanRunOn l size) where
  -- as many bytes as the superblock has
  pub round-superblock : length l.superblock.items ≡ size
  round-superblock = (superblock-here (engine_of on.shape l) on.runs.plain).size ∙ sym on.size_is

  -- a block has an allowed size
  pub round-size : IsBlockSize size
  round-size =
      subst IsBlockSize (on.runs.plain.layout.1 ∙ sym on.size_is) on.runs.plain.layout.0.0

  -- the superblock is long enough for all its fields
  pub round-long : 32 ≤ length l.superblock.items
  round-long =
      let is = superblock-here (engine_of on.shape l) on.runs.plain in
      let size = accepted-size on.shape l.superblock.items is.accepted in
      let same = is.size in
      omega arith

-- blocks have this size on each device on which it can run
pub round-same : (shape : Shape) (l : Ledger) (size : ℕ) → CanRunOn l size → Runs shape l → size ≡ shape.block_size
round-same shape l size on runs = sym (round-superblock l size on) ∙ (superblock-here (engine_of shape l) runs.plain).size

-- the log has a block 0
pub round-log : (e : Engine) → IsPlain e → 0 < e.shape.log_blocks
round-log e plain =
    let accepted = (superblock-here e plain).accepted in
    let above : 0 < (super_in e.superblock).s_first = accepted-first e.shape e.superblock accepted in
    let some : 16 ≤ (super_in e.superblock).s_maxlen - (super_in e.superblock).s_first = accepted-ring e.shape e.superblock accepted in
    let inside : (super_in e.superblock).s_maxlen ≤ e.shape.log_blocks = accepted-within e.shape e.superblock accepted in
    omega arith

-- a round that is under way stays
begun-self : (e : Engine) (round : Round) → round ≢ NoRound → begun_from e round ≡ e
begun-self e NoRound busy = absurd (busy refl)
begun-self e (Copies transaction block) busy = refl
begun-self e TailWrite busy = refl
begun-self e TailFlush busy = refl

-- it releases some of the committed transactions
under-way : (e : Engine) (round : Round) → RoundAgrees e round → round ≢ NoRound → e.released < e.bound
under-way e NoRound agrees busy = absurd (busy refl)
under-way e (Copies transaction block) agrees busy = agrees
under-way e TailWrite agrees busy = agrees
under-way e TailFlush agrees busy = agrees

-- two copies, each from the other on, are the same
from-both : (i b j c : ℕ) → IsFrom i b j c → IsFrom j c i b → (i ≡ j) × (b ≡ c)
from-both i b j c (inl before) (inl behind) = absurd (omega arith)
from-both i b j c (inl before) (inr same) = let at = same.0 in absurd (omega arith)
from-both i b j c (inr same) (inl behind) = let at = same.0 in absurd (omega arith)
from-both i b j c (inr same) (inr other) = let low = same.1 in let high = other.1 in (same.0, omega arith)

-- the next copy is unique
one-copy : (e : Engine) (t k i b j c : ℕ) (v w : List ℕ) → IsPlain e → IsNextCopy e t k i b v → IsNextCopy e t k j c w → (i ≡ j) × (b ≡ c) × (v ≡ w)
one-copy e t k i b j c v w plain one other =
    let same = from-both i b j c (one.first j c w other.unwritten) (other.first i b v one.unwritten) in
    let there = subst (λ n. IsNextCopy e t k j n w) (sym same.1) other in
    (same.0, same.1, newest-bytes e i j b v w plain one.unwritten.pending.newest there.unwritten.pending.newest)

-- the round's due call is unique, and so is the engine after it
pub one-call : (e : Engine) (round : Round) (call other : Call) (new next : Engine) → IsPlain e → RoundCall e round call new →
    RoundCall e round other next → (call ≡ other) × (new ≡ next)
one-call e round call other new next plain (CopyHome t k i b v one) (CopyHome _ _ j c w two) =
    let same = one-copy e t k i b j c v w plain one two in (
      ap₂ (λ (n : ℕ) (bytes : List ℕ). Write Home n bytes) same.1 same.2,
      ap₂ (λ (m n : ℕ). record e { round = Copies m (n + 1) }) same.0 same.1,
    )
one-call e round call other new next plain (CopyHome t k i b v one) (FlushHome _ _ none) = absurd (none i b v one.unwritten)
one-call e round call other new next plain (FlushHome t k none) (CopyHome _ _ j c w two) = absurd (none j c w two.unwritten)
one-call e round call other new next plain (FlushHome t k none) (FlushHome _ _ none-2) = (refl, refl)
one-call e round call other new next plain WriteTail WriteTail = (refl, refl)
one-call e round call other new next plain FlushTail FlushTail = (refl, refl)

-- what a call of a round leaves of the engine
pub record KeepsCommit (e new : Engine) : Type 0 where
  pub shape : new.shape ≡ e.shape
  pub layout : new.layout ≡ e.layout
  pub uuid : new.uuid ≡ e.uuid
  pub accepted : new.accepted ≡ e.accepted
  pub committed : new.committed ≡ e.committed
  pub start : new.start ≡ e.start

pub call-keeps : (e : Engine) (round : Round) (call : Call) (new : Engine) → RoundCall e round call new → KeepsCommit e new
call-keeps e round call new (CopyHome t k i b v next) = record { shape = refl; layout = refl; uuid = refl; accepted = refl; committed = refl; start = refl }
call-keeps e round call new (FlushHome t k none) = record { shape = refl; layout = refl; uuid = refl; accepted = refl; committed = refl; start = refl }
call-keeps e round call new WriteTail = record { shape = refl; layout = refl; uuid = refl; accepted = refl; committed = refl; start = refl }
call-keeps e round call new FlushTail = record { shape = refl; layout = refl; uuid = refl; accepted = refl; committed = refl; start = refl }

-- the blocks of the transaction being committed do not depend on the round
pub due-alike : (e new : Engine) → KeepsCommit e new → due_blocks new ≡ due_blocks e
due-alike e new keeps =
    ap₂ (λ (bs : List Batch) (n : ℕ). blocks_if new (slice_get bs n)) keeps.accepted keeps.committed ∙ alike (slice_get e.accepted e.committed)
  where
    alike : (o : Option Batch) → blocks_if new o ≡ blocks_if e o
    alike None = refl
    alike (Some b) =
        ap₂ (λ (l : Layout) (u : List ℕ). text_blocks (own_text l u b.tid b.entries)) keeps.layout keeps.uuid

-- what is taken of the ring does not depend on the round
round-taken : (shape : Shape) (l new : Ledger) → KeepsCommit (engine_of shape l) (engine_of shape new) → new.ring.head ≡ l.ring.head →
    HasTaken shape l → HasTaken shape new
round-taken shape l new keeps head taken =
    let due = due-alike (engine_of shape l) (engine_of shape new) keeps in record {
      head = head ∙ taken.head ∙ ap₂ (λ (m n : ℕ). m + n) (sym keeps.start) (ap length (sym due));
    }

-- an engine that can run can run after the call
gone-runs : (e : Engine) (call : Call) (new : Engine) → IsPlain e → e.round ≢ NoRound → RoundCall e e.round call new → IsPlain new
gone-runs e call new plain busy due =
    let same : begun e ≡ e = begun-self e e.round busy in
    let more : e.released < e.bound = under-way e e.round plain.round busy in
    let least : e.bound ≤ e.committed = plain.order.1 in
    round-plain e call new plain (omega arith) (subst (λ (x : Engine). RoundCall x x.round call new) (sym same) due)

-- a ledger went on by the due call
pub gone : (shape : Shape) (l new : Ledger) (round : Round) (call : Call) (stepped : Engine) → Runs shape l → l.round ≡ round → round ≢ NoRound →
    RoundCall (engine_of shape l) round call stepped → engine_of shape new ≡ stepped → new.ring.head ≡ l.ring.head →
    KeepsPending stepped new.pending → HasKept new → HasGone shape l new
gone shape l new round call stepped runs at busy due is head pending kept =
    let e : Engine = engine_of shape l in
    let there : RoundCall e l.round call (engine_of shape new) =
    subst (λ (r : Round). RoundCall e r call (engine_of shape new)) (sym at) (subst (RoundCall e round call) (sym is) due) in
    record {
      call = call;
      round = there;
      runs = record {
        plain = gone-runs e call (engine_of shape new) runs.plain (λ none. busy (sym at ∙ none)) there;
        taken = round-taken shape l new (call-keeps e l.round call (engine_of shape new) there) head runs.taken;
        pending = subst (λ (x : Engine). KeepsPending x new.pending) (sym is) pending;
        kept = kept;
      };
    }

-- some committed transaction is not released
below : (released bound committed : ℕ) → released ≤ bound → bound ≤ committed → released ≢ committed → released < committed
below released bound committed low high apart =
    elim (cases_lt released committed) [
      | inl less ↦ less
      | inr more ↦ absurd (apart (omega arith))
    ]

-- the ledger with a round that has just begun
pub begins : (shape : Shape) (l new : Ledger) → Runs shape l → l.round ≡ NoRound → l.released ≢ l.committed →
    engine_of shape new ≡ begun_from (engine_of shape l) NoRound → new.ring.head ≡ l.ring.head → new.pending ≡ l.pending →
    new.kept.items ≡ l.kept.items → HasRound (engine_of shape l) × (engine_of shape new ≡ begun (engine_of shape l)) × Runs shape new
begins shape l new runs at more is head pending same =
    let e : Engine = engine_of shape l in
    let plain = runs.plain in
    let low : l.released ≤ l.bound = plain.order.0 in
    let high : l.bound ≤ l.committed = plain.order.1 in
    let has : HasRound e = below l.released l.bound l.committed low high more in
    let under : begun_from e NoRound ≡ begun e = ap (begun_from e) (sym at) in
    let can : IsPlain (begun_from e NoRound) = subst IsPlain (sym under) (begun-plain e plain has) in
    let keeps : KeepsCommit e (begun_from e NoRound) = record { shape = refl; layout = refl; uuid = refl; accepted = refl; committed = refl; start = refl } in
    let kept : KeepsPending (begun_from e NoRound) new.pending =
    subst (KeepsPending (begun_from e NoRound)) (sym pending) (begun-keeps e l.pending at runs.pending) in (
      has,
      is ∙ under,
      record {
        plain = subst IsPlain (sym is) can;
        taken = round-taken shape l new (subst (KeepsCommit e) (sym is) keeps) head runs.taken;
        pending = subst (λ (x : Engine). KeepsPending x new.pending) (sym is) kept;
        kept = kept-alike l new same (ap (λ (x : Engine). x.released) is) (ap (λ (x : Engine). x.accepted) is) runs.kept;
      },
    )

-- the next copy, by the machine and by the ledger
pub record NextHome (e : Engine) (p : PendingValue) (transaction block : ℕ) (copy : HomeCopy) : Type 0 where
  pub index : ℕ
  pub number : copy.version.tid ≡ e.first + index
  pub placed : IsPlaced e index copy.block copy.version.place
  pub next : IsNextCopy e transaction block index copy.block placed.bytes
  pub waits : slice_get p.unwritten 0 ≡ Some (e.first + index, copy.block)

-- the ledger keeps the machine's bytes
same-place : (e : Engine) (t k i j b n : ℕ) (v : List ℕ) → IsPlain e → i ≡ j → IsNextCopy e t k i b v → (placed : IsPlaced e j b n) →
    (here : IsPlaced e i b n) × IsNextCopy e t k i b here.bytes
same-place e t k i j b n v plain same next placed =
    let here = subst (λ m. IsPlaced e m b n) (sym same) placed in
    (here, subst (IsNextCopy e t k i b) (newest-bytes e i i b v here.bytes plain next.unwritten.pending.newest here.pending.newest) next)

-- the ledger's next copy is the machine's
pub next-home : (shape : Shape) (l : Ledger) (copy : HomeCopy) → Runs shape l → (due : IsDueHome l copy) →
    NextHome (engine_of shape l) l.pending due.transaction due.block copy
next-home shape l copy runs due =
    let e : Engine = engine_of shape l in
    let plain = runs.plain in
    let one = next-copy e l.pending due.transaction due.block copy plain due.round runs.pending due.first due.due due.newest in
    let other = runs.pending.placed copy.block copy.version due.newest in
    let number : copy.version.tid ≡ e.first + one.0 = one.2 in
    let number-2 : copy.version.tid ≡ e.first + other.0 = other.1 in
    let same : one.0 ≡ other.0 = omega arith in
    let placed = same-place e due.transaction due.block one.0 other.0 copy.block copy.version.place one.1 plain same one.3 other.2 in
    record {
      index = one.0;
      number = number;
      placed = placed.0;
      next = placed.1;
      waits = due.first ∙ ap (λ (n : ℕ). let k : ℕ × ℕ = (n, copy.block) in Some k) number;
    }

-- a copy in a transaction is one block
pub placed-size : (e : Engine) (i b k : ℕ) → IsPlain e → (placed : IsPlaced e i b k) → length placed.bytes ≡ e.shape.block_size
placed-size e i b k plain placed =
    let batch = all-at (IsBatch e.layout e.shape) e.accepted i placed.batch plain.batches placed.stands in
    copy-size e.shape.block_size placed.batch.entries k b placed.bytes batch.whole placed.entry

-- it is of an allowed block
pub placed-allowed : (e : Engine) (i b k : ℕ) → IsPlain e → IsPlaced e i b k → IsAllowedBlock e.layout e.shape.home_blocks b
placed-allowed e i b k plain placed =
    let batch = all-at (IsBatch e.layout e.shape) e.accepted i placed.batch plain.batches placed.stands in
    let allowed = recursion_from_All (λ p. IsAllowedBlock e.layout e.shape.home_blocks p.0) placed.batch.entries batch.allowed in
    all-at (λ (p : ℕ × Entry). IsAllowedBlock e.layout e.shape.home_blocks p.0) placed.batch.entries k (b, Copy placed.bytes) allowed placed.entry

-- the write of that copy is the due call
pub due-copy : (e : Engine) (p : PendingValue) (t k : ℕ) (copy : HomeCopy) (block : ℕ) (bytes : List ℕ) → e.round ≡ Copies t k →
    (n : NextHome e p t k copy) → block ≡ copy.block → bytes ≡ n.placed.bytes → HasDue e (WriteDue Home block) bytes
due-copy e p t k copy block bytes at n same made = record {
  call = Write Home copy.block n.placed.bytes;
  is = ap₂ (λ (m : ℕ) (v : List ℕ). Some (Write Home m v)) same made;
  stepped = _;
  round = subst (λ (r : Round). RoundCall e r (Write Home copy.block n.placed.bytes) (record e { round = Copies n.index (copy.block + 1) })) (sym at)
      (CopyHome t k n.index copy.block n.placed.bytes n.next);
}

-- a call of the machine is due
due-at : (e : Engine) (due : Due) (bytes : List ℕ) (round : Round) (call : Call) (stepped : Engine) → e.round ≡ round → call_of due bytes ≡ Some call →
    RoundCall e round call stepped → HasDue e due bytes
due-at e due bytes round call stepped at is there = record {
  call = call;
  is = is;
  stepped = stepped;
  round = subst (λ (r : Round). RoundCall e r call stepped) (sym at) there;
}

-- if no copy is left, the flush of home is due
pub due-flush : (e : Engine) (t k : ℕ) (bytes : List ℕ) → e.round ≡ Copies t k → ((i b : ℕ) (v : List ℕ) → IsUnwritten e t k i b v → ⊥) →
    HasDue e (FlushDue Home) bytes
due-flush e t k bytes at none = due-at e (FlushDue Home) bytes (Copies t k) _ _ at refl (FlushHome t k none)

-- then the write of the superblock is due
pub due-tail : (e : Engine) (block : List ℕ) (sequence start : ℕ) → e.round ≡ TailWrite → block ≡ with_tail e.superblock sequence start →
    sequence ≡ e.first + e.bound → start ≡ ring_place e.ring e.bound_position → HasDue e (WriteDue Log 0) block
due-tail e block sequence start at made number place =
    due-at e (WriteDue Log 0) block TailWrite _ _ at
    (ap (λ (v : List ℕ). Some (Write Log 0 v)) (made ∙ ap₂ (with_tail e.superblock) number place)) WriteTail

-- then its flush is due
pub due-release : (e : Engine) (bytes : List ℕ) → e.round ≡ TailFlush → HasDue e (FlushDue Log) bytes
due-release e bytes at = due-at e (FlushDue Log) bytes TailFlush _ _ at refl FlushTail
