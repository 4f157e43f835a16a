-- What an engine that can run knows of sizes and of the transaction being committed.
use Rattle.std.proofs.Common.{arith, inl, inr, refl, sym, ap, subst, ◌∙◌, le_refl}
use Rattle.std.specs.Prelude.{◌≡◌, ◌≢◌, ◌⊎◌, ℕ, ◌+◌, ◌-◌, ◌*◌, ◌/◌, ◌^◌, ◌<◌, ◌≤◌, false, true, length, Some, slice_get}
use Rattle.journal_model.specs.declared.entry.Batch.{Batch}
use Rattle.log_model.specs.Chain.{Ring}
use Rattle.journal_model.specs.Layout.{IsLayout, Layout, numbers_of, tags_of}
use Rattle.journal_model.specs.Transaction.{copied, revoked}
use Rattle.log_model.specs.OwnText.{ceil_div}
use Rattle.log_model.specs.Room.{need}
use Rattle.journal_model.specs.Disk.{Shape}
use Rattle.log_model.specs.Superblock.{super_in}
use Rattle.log_model.specs.Text.{text_blocks}
use Rattle.log_model.proofs.OwnTextWhole.{length_own_text}
use Rattle.log_format.specs.Size.{IsBlockSize}
use Rattle.journal_world.specs.declared.stage.Stage.{Stage}
use Rattle.journal_world.specs.declared.stage.Stage.TheVariants.{Idle, SuperblockWrite, SuperblockFlush, Blocks, CommitWrite, CommitFlush}
use Rattle.journal_world.specs.Call.{Call}
use Rattle.journal_world.specs.Engine.{Accepts, Engine, HasRoom, accepting, call_due, due_blocks, stepped, text_of}
use Rattle.journal_world.specs.Opening.{IsSuperblock}
use Rattle.journal_world.specs.Sound.{IsPlain, StageAgrees}
use Rattle.journal_world.proofs.Batches.{number-at}
use Rattle.journal_world.proofs.Changes.{plain-at}
use Rattle.journal_world.proofs.Plain.{accepts-plain, step-plain}
use Rattle.journal_world.proofs.Positions.{tail-start}
use Rattle.std.proofs.lemmas.Nat.{mul-le}
use Rattle.log_model.proofs.OwnTextHeader.{measures, numbers_of-positive}
use Rattle.journal_world.proofs.Superblocks.{accepted-first, accepted-length, accepted-ring, accepted-within, names-superblock}
use Rattle.journal_world.proofs.Texts.{due-of}
use Rattle.log_ledger.specs.Steps.{MayHandOver}
use Rattle.log_ledger.proofs.Copies.{counted}

-- the superblock is one
pub superblock-of : (e : Engine) → IsPlain e → IsSuperblock e.shape e.layout e.ring e.superblock
superblock-of e plain = names-superblock e e.started e.superblock plain.names

-- the block size is allowed
pub runs-size : (e : Engine) → IsPlain e → IsBlockSize e.shape.block_size
runs-size e plain = subst IsBlockSize plain.layout.1 plain.layout.0.0

-- the ring is after the superblock, within the log area, and has a few blocks
pub record HasRing (e : Engine) : Type 0 where
  pub behind : 0 < e.ring.first
  pub some : 16 ≤ e.ring.blocks
  pub few : e.ring.first + e.ring.blocks ≤ 1048576
  pub within : e.ring.first + e.ring.blocks ≤ e.shape.log_blocks

pub runs-ring : (e : Engine) → IsPlain e → HasRing e
runs-ring e plain =
    let is = superblock-of e plain in
    let first : (super_in e.superblock).s_first ≡ e.ring.first = ap (λ (r : Ring). r.first) is.ring_is in
    let blocks : (super_in e.superblock).s_maxlen - (super_in e.superblock).s_first ≡ e.ring.blocks = ap (λ (r : Ring). r.blocks) is.ring_is in
    let above : 0 < (super_in e.superblock).s_first = accepted-first e.shape e.superblock is.accepted in
    let some : 16 ≤ (super_in e.superblock).s_maxlen - (super_in e.superblock).s_first = accepted-ring e.shape e.superblock is.accepted in
    let most : (super_in e.superblock).s_maxlen ≤ 1048576 = accepted-length e.shape e.superblock is.accepted in
    let inside : (super_in e.superblock).s_maxlen ≤ e.shape.log_blocks = accepted-within e.shape e.superblock is.accepted in
    record { behind = omega arith; some = omega arith; few = omega arith; within = omega arith }

-- the ring has few blocks
pub ring-few : (e : Engine) → IsPlain e → e.ring.blocks ≤ 1048576
ring-few e plain = let few = (runs-ring e plain).few in omega arith

-- if a call is due, one more transaction is accepted than is committed
pub due-one : (e : Engine) (stage : Stage) → StageAgrees e stage → stage ≢ Idle → length e.accepted ≡ e.committed + 1
due-one e Idle agrees busy = absurd (busy refl)
due-one e SuperblockWrite agrees busy = agrees.0
due-one e SuperblockFlush agrees busy = agrees.0
due-one e (Blocks k) agrees busy = agrees.0
due-one e CommitWrite agrees busy = agrees.0
due-one e CommitFlush agrees busy = agrees.0

-- the log blocks that a batch needs
abbrev pub needed_by : Layout → Batch → ℕ
needed_by l b = need l (length (copied b.entries)) (length (revoked b.entries))

-- its text takes as many
length-text : (e : Engine) (b : Batch) → IsPlain e → length (text_blocks (text_of e b)) ≡ needed_by e.layout b
length-text e b plain = length_own_text e.layout e.uuid b.tid b.entries plain.layout.0

-- there are as many due blocks as the transaction needs
pub runs-blocks : (e : Engine) (b : Batch) → IsPlain e → slice_get e.accepted e.committed ≡ Some b → length (due_blocks e) ≡ needed_by e.layout b
runs-blocks e b plain stands = ap length (due-of e b stands) ∙ length-text e b plain

-- a block has no more than 1020 numbers
most-numbers : (k size : ℕ) → (k ≡ 4) ⊎ (k ≡ 8) → size ≤ 4096 → (size - 16) / k ≤ 1020
most-numbers k size (inl four) most = rw four (omega arith)
most-numbers k size (inr eight) most = rw eight (omega arith)

-- a revoke block has at most 1020 numbers
few-revokes : (l : Layout) (r : ℕ) → IsLayout l → r ≤ 1020 * ceil_div r (numbers_of l)
few-revokes l r taken =
    let m = measures l taken in
    let some : 0 < numbers_of l = numbers_of-positive l m in
    let most : numbers_of l ≤ 1020 = most-numbers l.number_bytes l.block_size taken.1 m.most in
    let blocks = enough r (numbers_of l) some in
    let product = mul-le (numbers_of l) (ceil_div r (numbers_of l)) 1020 (ceil_div r (numbers_of l)) most (le_refl (ceil_div r (numbers_of l))) in
    omega arith
  where
    -- a count rounded up to groups is no less
    enough : (c n : ℕ) → 0 < n → c ≤ n * ceil_div c n
    enough c n positive = omega arith

-- a need of few blocks is one of few copies and few revokes
pub few-needed : (l : Layout) (c r most : ℕ) → IsLayout l → need l c r ≤ most → most ≤ 1048576 → (c ≤ most) × (c + r ≤ 2 ^ 32)
few-needed l c r most taken fits small =
    let revokes : r ≤ 1020 * ceil_div r (numbers_of l) = few-revokes l r taken in
    few-sum c r (ceil_div c (tags_of l)) (ceil_div r (numbers_of l)) most revokes fits small
  where
    -- a sum is small if its parts are
    few-sum : (c r x y most : ℕ) → r ≤ 1020 * y → c + x + y + 1 ≤ most → most ≤ 1048576 → (c ≤ most) × (c + r ≤ 2 ^ 32)
    few-sum c r x y most revokes fits small = (omega arith, omega arith)

-- the blocks of a transaction fit the ring, so it has few entries
pub runs-few : (e : Engine) (b : Batch) → IsPlain e → slice_get e.accepted e.committed ≡ Some b → length b.entries ≤ 2 ^ 32
runs-few e b plain stands =
    let blocks = runs-blocks e b plain stands in
    let room = plain.room in
    let order : e.tail ≤ e.start = tail-start e plain in
    let ring : e.ring.blocks ≤ 1048576 = ring-few e plain in
    let fits : needed_by e.layout b ≤ e.ring.blocks = omega arith in
    let few = few-needed e.layout (length (copied b.entries)) (length (revoked b.entries)) e.ring.blocks plain.layout.0 fits ring in
    subst (λ (n : ℕ). n ≤ 2 ^ 32) (counted b.entries) few.1

-- the transaction being committed has the due number
pub runs-number : (e : Engine) (b : Batch) → IsPlain e → slice_get e.accepted e.committed ≡ Some b → b.tid ≡ e.first + e.committed
runs-number e b plain stands = number-at e.first e.committed e.accepted b plain.numbered stands

-- what its text takes is what it needs
pub need-of : (e : Engine) (b : Batch) → IsPlain e → HasRoom e b → e.start + needed_by e.layout b ≤ e.tail + e.ring.blocks
need-of e b plain room = subst (λ (n : ℕ). e.start + n ≤ e.tail + e.ring.blocks) (length-text e b plain) room

-- an engine takes an allowed batch that there is room for
pub takes : (e new : Engine) (b : Batch) → e.aborted ≡ false → MayHandOver e b → HasRoom e b → new ≡ accepting e b → Accepts e b new
takes e new b running may room after = record {
  running = running;
  idle = may.idle;
  number = may.number;
  left = may.left;
  batch = may.batch;
  room = room;
  after = after;
}

-- it can run with that batch
pub takes-runs : (e new : Engine) (b : Batch) → IsPlain e → MayHandOver e b → Accepts e b new → IsPlain new
takes-runs e new b plain may accepts = accepts-plain e b new plain accepts

-- the head of the ring is far below 2 ^ 64
pub head-small : (e : Engine) → IsPlain e → e.start + length (due_blocks e) + e.ring.blocks ≤ 2 ^ 64 - 1
head-small e plain =
    let few : e.ring.blocks ≤ 1048576 = ring-few e plain in
    let many : length e.accepted ≤ 4294967296 = (let numbers = plain.numbers in omega arith) in
    let laps : e.start + length (due_blocks e) ≤ length e.accepted * e.ring.blocks = plain.laps in
    let product : length e.accepted * e.ring.blocks ≤ 4294967296 * 1048576 = mul-le (length e.accepted) e.ring.blocks 4294967296 1048576 many few in
    omega arith

-- an aborted engine can run, on a device of the same shape
pub fault-runs : (e : Engine) (shape : Shape) → IsPlain e → shape ≡ e.shape → IsPlain (record e { shape = shape; aborted = true })
fault-runs e shape plain same =
    let here : IsPlain (record e { aborted = true }) = plain-at e e.stage e.stage e.aborted true plain plain.stage in
    subst (λ (s : Shape). IsPlain (record e { shape = s; aborted = true })) (sym same) here

-- an engine that can run can run after a step
pub step-runs : (e new : Engine) (call : Call) → IsPlain e → call_due e ≡ Some call → new ≡ stepped e → IsPlain new
step-runs e new call plain due is = subst IsPlain (sym is) (step-plain e call plain due)
