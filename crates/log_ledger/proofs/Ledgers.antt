-- What a ledger that can run on some device knows.
use Rattle.std.proofs.Common.{arith, refl, sym, ap, ap₂, subst, ◌∙◌}
use Rattle.std.proofs.lemmas.Bool.Decides.{nat_tests}
use Rattle.std.proofs.lemmas.List.Elements.{All-weaker}
use Rattle.std.proofs.lemmas.List.{drop-append-le, drop-drop, get_or-drop, length-drop}
use Rattle.std.proofs.lemmas.Option.{slice_get_past, slice_get_read}
use Rattle.std.specs.Prelude.{◌≡◌, ◌≢◌, ℕ, ◌+◌, ◌-◌, ◌^◌, ◌<◌, Bool, false, true, ◌≤◌, List, [], ◌∷◌, ◌++◌, length, drop, get_or, Option, Some, None, Result, Ok, Err, IfOk, IfErr, slice_get, All, map, nat_eq, nat_le, nat_lt, if◌then◌else◌, IsTrue, ◌↔◌}
use Rattle.journal_model.specs.declared.entry.Batch.{Batch}
use Rattle.journal_model.specs.declared.refusal.JournalError.{JournalError}
use Rattle.journal_model.specs.declared.refusal.JournalError.TheVariants.{NeedSpace}
use Rattle.log_model.specs.Chain.{ring_place}
use Rattle.journal_model.specs.Block.{IsAllowedBlock}
use Rattle.journal_model.specs.Layout.{IsLayout, Layout, every_number}
use Rattle.log_model.specs.Opening.{greatest_number}
use Rattle.journal_model.specs.Transaction.{copied}
use Rattle.log_model.specs.OwnText.{own_text}
use Rattle.journal_model.specs.declared.number.Area.TheVariants.{Log}
use Rattle.journal_model.specs.Disk.{Shape}
use Rattle.log_model.specs.Superblock.{with_tail}
use Rattle.log_model.specs.Text.{text_blocks}
use Rattle.log_format.specs.Size.{IsBlockSize}
use Rattle.journal_world.specs.declared.stage.Stage.TheVariants.{Idle, Blocks, CommitFlush, CommitWrite, SuperblockWrite}
use Rattle.journal_world.specs.Call.Call.{Write, Flush}
use Rattle.std.specs.List.{AllByRecursion, IsDistinct}
use Rattle.log_ledger.proofs.Pendings.{may-commit}
use Rattle.journal_world.specs.Engine.{Engine, HasRoom, IsBatch, blocks_if, call_due, call_in, due_blocks, write_block}
use Rattle.journal_world.specs.Sound.{IsPlain, StageAgrees}
use Rattle.log_ring.specs.Ring.{RingValue, free}
use Rattle.log_ledger.specs.declared.ledger.Ledger.{Ledger}
use Rattle.log_ledger.specs.Steps.{MayHandOver}
use Rattle.log_ledger.specs.Ledger.{CanRunOn, HasKept, HasTaken, Runs, engine_of}
use Rattle.journal_world.proofs.Elements.{all-at, get-last}
use Rattle.journal_world.proofs.Positions.{committed-few, tail-start}
use Rattle.journal_world.proofs.Superblocks.{accepted-size}
use Rattle.journal_world.proofs.Texts.{due-some}
use Rattle.log_ledger.proofs.Running.{HasRing, due-one, head-small, need-of, needed_by, runs-blocks, runs-few, runs-number, runs-ring, runs-size, superblock-of}

-- the due blocks depend on the block size alone
same-if : (l : Ledger) (shape other : Shape) (o : Option Batch) → shape.block_size ≡ other.block_size →
    blocks_if (engine_of shape l) o ≡ blocks_if (engine_of other l) o
same-if l shape other None same = refl
same-if l shape other (Some b) same = refl

pub same-due : (l : Ledger) (shape other : Shape) → shape.block_size ≡ other.block_size →
    due_blocks (engine_of shape l) ≡ due_blocks (engine_of other l)
same-due l shape other same = same-if l shape other (slice_get l.accepted.items l.committed) same

-- if nothing is being committed, no block is due
pub idle-due : (e : Engine) → IsPlain e → e.stage ≡ Idle → due_blocks e ≡ []
idle-due e plain idle =
    let agrees : StageAgrees e Idle = subst (StageAgrees e) idle plain.stage in
    let past : length e.accepted ≤ e.committed = (let all = agrees.0 in omega arith) in
    ap (blocks_if e) (slice_get_past e.accepted e.committed past)

-- needed room within the free room is a sum within all
pub room-test : (needed free sum all : ℕ) → (needed ≤ free → sum ≤ all) → (sum ≤ all → needed ≤ free) → IsTrue (nat_le needed free) ↔ (sum ≤ all)
room-test needed free sum all there back = grind (arith, nat_tests)

-- what is taken depends neither on the stage nor on the superblock
pub taken-alike : (shape : Shape) (l new : Ledger) → new.ring ≡ l.ring → new.layout ≡ l.layout → new.start ≡ l.start → new.uuid ≡ l.uuid → new.accepted.items ≡ l.accepted.items →
    new.committed ≡ l.committed → HasTaken shape l → HasTaken shape new
taken-alike shape l new ring layout start uuid accepted committed taken =
    let due : due_blocks (engine_of shape new) ≡ due_blocks (engine_of shape l) =
    ap₂ (λ (bs : List Batch) (n : ℕ). blocks_if (engine_of shape new) (slice_get bs n)) accepted committed
    ∙ alike (slice_get l.accepted.items l.committed) in
    record { head = ap (λ (r : RingValue). r.head) ring ∙ taken.head ∙ ap₂ (λ (m n : ℕ). m + n) (sym start) (ap length (sym due)) }
  where
    alike : (o : Option Batch) → blocks_if (engine_of shape new) o ≡ blocks_if (engine_of shape l) o
    alike None = refl
    alike (Some b) = ap₂ (λ (x : Layout) (u : List ℕ). text_blocks (own_text x u b.tid b.entries)) layout uuid

-- nor on a fault, on a device of the same shape
pub fault-taken : (shape after : Shape) (l : Ledger) → after ≡ shape → HasTaken shape l → HasTaken after (record l { aborted = true })
fault-taken shape after l same taken =
    subst (λ (s : Shape). HasTaken s (record l { aborted = true })) (sym same) (taken-alike shape l (record l { aborted = true }) refl refl refl refl refl refl taken)

-- without transactions nothing is taken
pub fresh-taken : (shape : Shape) (l : Ledger) → l.accepted.items ≡ [] → l.ring.head ≡ 0 → l.start ≡ 0 → HasTaken shape l
fresh-taken shape l none head start =
    let due : length (due_blocks (engine_of shape l)) ≡ 0 =
    ap (λ (bs : List Batch). length (blocks_if (engine_of shape l) (slice_get bs l.committed))) none in
    record { head = omega arith }

-- if nothing is being committed, all that is taken is committed
pub idle-head : (shape : Shape) (l : Ledger) → Runs shape l → l.stage ≡ Idle → l.ring.head ≡ l.start
idle-head shape l runs idle =
    let none = ap length (idle-due (engine_of shape l) runs.plain idle) in
    let head = runs.taken.head in
    omega arith

-- the ring has the blocks that an allowed batch needs
pub room-there : (shape : Shape) (l : Ledger) (b : Batch) (count : ℕ) → Runs shape l → MayHandOver (engine_of shape l) b →
    HasRoom (engine_of shape l) b → count ≡ needed_by l.layout b → free l.ring < count → ⊥
room-there shape l b count runs may room needed less =
    let head = idle-head shape l runs may.idle in
    let fits = need-of (engine_of shape l) b runs.plain room in
    let order : l.ring.tail ≤ l.start = tail-start (engine_of shape l) runs.plain in
    omega arith

-- if the ring has them, they are taken
pub took : (r : Result ℕ JournalError) (old new : RingValue) (count : ℕ) →
    IfOk r (λ position. (count ≤ free old) × (position ≡ old.head) × (new ≡ record old { head = old.head + count })) →
    IfErr r (λ e. (e ≡ NeedSpace) × (free old < count) × (new ≡ old)) → (free old < count → ⊥) → new ≡ record old { head = old.head + count }
took (Ok position) old new count ok err there = ok.2
took (Err e) old new count ok err there = absurd (there err.1)

-- the batch is the one that is to be committed
pub batch-there : (shape : Shape) (l : Ledger) (b : Batch) (accepted : List Batch) → Runs shape l → MayHandOver (engine_of shape l) b →
    accepted ≡ l.accepted.items ++ b ∷ [] → slice_get accepted l.committed ≡ Some b
batch-there shape l b accepted runs may taken =
    let agrees : StageAgrees (engine_of shape l) Idle = subst (StageAgrees (engine_of shape l)) may.idle runs.plain.stage in
    ap (λ (bs : List Batch). slice_get bs l.committed) taken ∙ get-last l.accepted.items b l.committed agrees.0

-- the ring blocks that a batch needs are taken for it
pub batch-taken : (shape : Shape) (new : Ledger) (b : Batch) → IsPlain (engine_of shape new) → slice_get new.accepted.items new.committed ≡ Some b →
    new.ring.head ≡ new.start + needed_by new.layout b → HasTaken shape new
batch-taken shape new b can stands head = record {
  head = head ∙ ap (λ (n : ℕ). new.start + n) (sym (runs-blocks (engine_of shape new) b can stands));
}

-- a committed transaction's blocks are before the start of the next one
pub done-taken : (shape : Shape) (l new : Ledger) → IsPlain (engine_of shape new) → new.stage ≡ Idle → new.ring ≡ l.ring → new.start ≡ l.ring.head →
    HasTaken shape new
done-taken shape l new plain idle ring start =
    let none = ap length (idle-due (engine_of shape new) plain idle) in
    let head = ap (λ (r : RingValue). r.head) ring in
    record { head = omega arith }

-- the write of a block before the commit block is the due call
pub call-block : (e : Engine) (k : ℕ) → e.stage ≡ Blocks k → k + 1 < length (due_blocks e) → Some (write_block e k) ≡ call_due e
call-block e k is below =
    let test : nat_lt (k + 1) (length (due_blocks e)) ≡ true = grind (arith, nat_tests) in
    ap (λ (b : Bool). Some (if b then write_block e k else Flush Log)) (sym test) ∙ ap (call_in e) (sym is)

-- the write of the commit block is the due call
pub call-commit : (e : Engine) (n : ℕ) → e.stage ≡ CommitWrite → n ≡ length (due_blocks e) → Some (write_block e (n - 1)) ≡ call_due e
call-commit e n is last = ap (λ (m : ℕ). Some (write_block e (m - 1))) last ∙ ap (call_in e) (sym is)

-- after the last but one of the blocks comes the commit block
pub last-block : (k n : ℕ) → n ≤ k + 1 → CommitWrite ≡ (if nat_lt (k + 1) n then Blocks (k + 1) else CommitWrite)
last-block k n last = let test : nat_lt (k + 1) n ≡ false = grind (arith, nat_tests) in rw test refl

-- the write of the superblock is the due call
pub call-superblock : (e : Engine) (block : List ℕ) (sequence start : ℕ) → e.stage ≡ SuperblockWrite → block ≡ with_tail e.superblock sequence start →
    sequence ≡ e.first + e.committed → start ≡ ring_place e.ring e.start → Some (Write Log 0 block) ≡ call_due e
call-superblock e block sequence start is made number place =
    ap (λ (v : List ℕ). Some (Write Log 0 v)) (made ∙ ap₂ (with_tail e.superblock) number place) ∙ ap (call_in e) (sym is)

-- the kept batches stay if none is handed over or released
pub kept-alike : (l new : Ledger) → new.kept.items ≡ l.kept.items → new.released ≡ l.released → new.accepted.items ≡ l.accepted.items →
    HasKept l → HasKept new
kept-alike l new kept released accepted has =
    kept ∙ has ∙ ap₂ (λ (n : ℕ) (bs : List Batch). drop n bs) (sym released) (sym accepted)

-- a batch that is handed over is the last kept one
pub kept-more : (shape : Shape) (l : Ledger) (b : Batch) (held kept accepted : List Batch) → Runs shape l → l.stage ≡ Idle →
    held ≡ l.kept.items → kept ≡ held ++ b ∷ [] → accepted ≡ l.accepted.items ++ b ∷ [] → kept ≡ drop l.released accepted
kept-more shape l b held kept accepted runs idle same more noted =
    let agrees : StageAgrees (engine_of shape l) Idle = subst (StageAgrees (engine_of shape l)) idle runs.plain.stage in
    let all : length l.accepted.items ≡ l.committed = agrees.0 in
    let low : l.released ≤ l.bound = runs.plain.order.0 in
    let high : l.bound ≤ l.committed = runs.plain.order.1 in
    more
    ∙ ap (λ (bs : List Batch). bs ++ b ∷ []) (same ∙ runs.kept)
    ∙ sym (drop-append-le l.released l.accepted.items (b ∷ []) (omega arith))
    ∙ ap (λ (bs : List Batch). drop l.released bs) (sym noted)

-- the batches that a round releases are the first kept ones
pub kept-fewer : (l : Ledger) → HasKept l → l.released ≤ l.bound → drop (l.bound - l.released) l.kept.items ≡ drop l.bound l.accepted.items
kept-fewer l has low =
    ap (λ (bs : List Batch). drop (l.bound - l.released) bs) has
    ∙ drop-drop (l.bound - l.released) l.released l.accepted.items
    ∙ ap (λ (n : ℕ). drop n l.accepted.items) {x = l.released + (l.bound - l.released)} {y = l.bound} (omega arith)

-- an unreleased batch is kept
pub kept-within : (l : Ledger) (i : ℕ) → HasKept l → l.released ≤ i → i < length l.accepted.items → i - l.released < l.kept.len
kept-within l i has low below =
    let count : l.kept.len ≡ length l.kept.items = l.kept.ok.0 in
    let same : length l.kept.items ≡ length (drop l.released l.accepted.items) = ap length has in
    omega (arith, length-drop l.released l.accepted.items)

-- it stands there as it was handed over
pub kept-stands : (l : Ledger) (i : ℕ) (b : Batch) → HasKept l → l.released ≤ i → b ≡ get_or l.kept.items (i - l.released) b →
    b ≡ get_or l.accepted.items i b
kept-stands l i b has low is =
    is
    ∙ ap (λ (bs : List Batch). get_or bs (i - l.released) b) has
    ∙ get_or-drop l.released l.accepted.items (i - l.released) b
    ∙ ap (λ (n : ℕ). get_or l.accepted.items n b) {x = l.released + (i - l.released)} {y = i} (omega arith)

module _ (l : Ledger) (size : ℕ) (on : CanRunOn l size) where
  -- its blocks have an allowed size
  pub on-size : IsBlockSize size
  on-size = subst IsBlockSize (sym on.size_is) (runs-size (engine_of on.shape l) on.runs.plain)

  -- its layout is an allowed one
  pub on-taken : IsLayout l.layout
  on-taken = on.runs.plain.layout.0

  pub on-layout : size ≡ l.layout.block_size
  on-layout = on.size_is ∙ sym on.runs.plain.layout.1

  -- its ring is after the superblock, and has not too many blocks
  pub on-ring : HasRing (engine_of on.shape l)
  on-ring = runs-ring (engine_of on.shape l) on.runs.plain

  -- the superblock has the size of a block
  pub on-superblock : length l.superblock.items ≡ size
  on-superblock = (superblock-of (engine_of on.shape l) on.runs.plain).size ∙ sym on.size_is

  -- that is enough for all fields
  pub on-long : 32 ≤ length l.superblock.items
  on-long =
      let is = superblock-of (engine_of on.shape l) on.runs.plain in
      let size = accepted-size on.shape l.superblock.items is.accepted in
      let same = is.size in
      omega arith

  -- a batch is there if a call is due
  pub on-due : l.stage ≢ Idle → l.committed < length l.accepted.items
  on-due busy = let one : length l.accepted.items ≡ l.committed + 1 = due-one (engine_of on.shape l) l.stage on.runs.plain.stage busy in omega arith

  -- it is not released
  pub on-unreleased : l.released ≤ l.committed
  on-unreleased =
      let low : l.released ≤ l.bound = on.runs.plain.order.0 in
      let high : l.bound ≤ l.committed = on.runs.plain.order.1 in
      omega arith

  -- so it is kept
  pub on-within : l.stage ≢ Idle → l.committed - l.released < l.kept.len
  on-within busy = kept-within l l.committed on.runs.kept on-unreleased (on-due busy)

  pub on-kept : (b : Batch) → l.stage ≢ Idle → b ≡ get_or l.kept.items (l.committed - l.released) b → slice_get l.accepted.items l.committed ≡ Some b
  on-kept b busy is =
      slice_get_read l.accepted.items (length l.accepted.items) l.committed b refl (on-due busy) (kept-stands l l.committed b on.runs.kept on-unreleased is)

  -- all batches that a round releases are kept
  pub on-bound : l.bound - l.released ≤ l.kept.len
  on-bound =
      let few : l.committed ≤ length l.accepted.items = committed-few (engine_of on.shape l) l.stage on.runs.plain.stage in
      let high : l.bound ≤ l.committed = on.runs.plain.order.1 in
      let count : l.kept.len ≡ length l.kept.items = l.kept.ok.0 in
      let same : length l.kept.items ≡ length (drop l.released l.accepted.items) = ap length on.runs.kept in
      omega (arith, length-drop l.released l.accepted.items)

  -- their numbers fit
  pub on-numbers : l.first + length l.accepted.items ≤ greatest_number + 1
  on-numbers = on.runs.plain.numbers

  -- if a call is due, some block is due
  pub on-some : (shape : Shape) → l.stage ≢ Idle → 0 < length (due_blocks (engine_of shape l))
  on-some shape busy = due-some (engine_of shape l) (due-one (engine_of on.shape l) l.stage on.runs.plain.stage busy)

  -- the batch being committed has few entries
  pub on-few : (b : Batch) → slice_get l.accepted.items l.committed ≡ Some b → length b.entries ≤ 2 ^ 32
  on-few b stands = runs-few (engine_of on.shape l) b on.runs.plain stands

  -- its copies are of one block each
  pub on-whole : (b : Batch) → slice_get l.accepted.items l.committed ≡ Some b → All (λ c. length c.1 ≡ l.layout.block_size) (copied b.entries)
  on-whole b stands =
      subst (λ (n : ℕ). All (λ c. length c.1 ≡ n) (copied b.entries)) (sym on.runs.plain.layout.1)
      (all-at (IsBatch l.layout on.shape) l.accepted.items l.committed b on.runs.plain.batches stands).whole

  -- a tag can spell its blocks
  pub on-spelled : (b : Batch) → slice_get l.accepted.items l.committed ≡ Some b → All (λ p. p.0 < every_number l.layout) b.entries
  on-spelled b stands =
      All-weaker (λ p. IsAllowedBlock l.layout on.shape.home_blocks p.0) (λ p. p.0 < every_number l.layout) (λ p allowed. allowed.spelled) b.entries
      (all-at (IsBatch l.layout on.shape) l.accepted.items l.committed b on.runs.plain.batches stands).allowed

  -- it has the due number
  pub on-number : (b : Batch) → slice_get l.accepted.items l.committed ≡ Some b → b.tid ≡ l.first + l.committed
  on-number b stands = runs-number (engine_of on.shape l) b on.runs.plain stands

  -- the due blocks are those taken after the committed ones
  pub on-blocks : (shape : Shape) → shape.block_size ≡ size → l.ring.head - l.start ≡ length (due_blocks (engine_of shape l))
  on-blocks shape same =
      let head = on.runs.taken.head in
      let alike = ap length (same-due l on.shape shape (sym on.size_is ∙ sym same)) in
      omega arith

  -- their positions are far below 2 ^ 64
  pub on-small : (shape : Shape) → shape.block_size ≡ size → l.start + length (due_blocks (engine_of shape l)) + l.ring.ring.blocks ≤ 2 ^ 64 - 1
  on-small shape same =
      let small : l.start + length (due_blocks (engine_of on.shape l)) + l.ring.ring.blocks ≤ 2 ^ 64 - 1 = head-small (engine_of on.shape l) on.runs.plain in
      let alike : length (due_blocks (engine_of shape l)) ≡ length (due_blocks (engine_of on.shape l)) =
      ap length (same-due l shape on.shape (same ∙ on.size_is)) in
      omega arith

  -- the committed transactions begin at the tail, which is not after their end
  pub on-tail : l.ring.tail ≤ l.start
  on-tail = tail-start (engine_of on.shape l) on.runs.plain

  -- if nothing is being committed, all that is taken is committed
  pub on-idle : l.stage ≡ Idle → l.ring.head ≡ l.start
  on-idle idle = idle-head on.shape l on.runs idle

  -- the number of the due block is one of theirs
  pub on-next : (k : ℕ) → l.stage ≡ Blocks k → k + 1 ≤ 2 ^ 64 - 1
  on-next k is =
      let agrees : StageAgrees (engine_of on.shape l) (Blocks k) = subst (StageAgrees (engine_of on.shape l)) is on.runs.plain.stage in
      let below : k < length (due_blocks (engine_of on.shape l)) = agrees.2 in
      let small = on-small on.shape (sym on.size_is) in
      omega arith

  -- the entries of the transaction being committed are of different blocks
  pub on-distinct : (b : Batch) → slice_get l.accepted.items l.committed ≡ Some b → IsDistinct nat_eq (map (λ e. e.0) b.entries)
  on-distinct b stands = (all-at (IsBatch l.layout on.shape) l.accepted.items l.committed b on.runs.plain.batches stands).once

  -- they may be committed
  pub on-commit : (b : Batch) → l.stage ≡ CommitFlush → slice_get l.accepted.items l.committed ≡ Some b →
      AllByRecursion (λ k. k.0 < l.first + l.committed) l.pending.queue × (length l.pending.queue + length (copied b.entries) ≤ l.pending.room)
  on-commit b last stands = may-commit (engine_of on.shape l) l.pending b on.runs.plain last stands on.runs.pending
