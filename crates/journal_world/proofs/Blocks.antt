-- The blocks of a transaction before its commit block, their flush, and the commit block.
use Rattle.std.proofs.Common.{◌∙◌, ap, arith, inl, inr}
use Rattle.std.specs.Prelude.{◌≡◌, ℕ, ◌+◌, ◌-◌, ◌<◌, ◌≤◌, nat_lt, Bool, true, false, if◌then◌else◌, length}
use Rattle.std.proofs.lemmas.Bool.{cases_eq, ltb-true}
use Rattle.std.proofs.lemmas.Bool.Decides.{nat_tests}
use Rattle.journal_model.specs.declared.number.Area.TheVariants.{Log}
use Rattle.log_model.specs.Chain.{ring_place}
use Rattle.journal_model.specs.Disk.{Cell, Disk, flushed, written}
use Rattle.journal_world.specs.declared.stage.Stage.TheVariants.{Blocks, CommitFlush, CommitWrite}
use Rattle.journal_world.specs.Call.{after_success}
use Rattle.journal_world.specs.Call.Call.{Flush}
use Rattle.journal_world.specs.Engine.{Engine, block_at, due_blocks, write_block}
use Rattle.journal_world.specs.Sound.{IsDurable, IsPlain, Sound}
use Rattle.journal_world.proofs.Changes.{IsDueWrite, at, due-other, due-sound, flush-sound, may-at, read-flushed}
use Rattle.journal_world.proofs.Places.{is_write-written, written-there}
use Rattle.journal_world.proofs.Positions.{tail-start}
use Rattle.journal_world.proofs.Texts.{due-some}

-- the disk after the write of block i of those that are due
abbrev pub due_written : Engine → Disk → ℕ → Disk
due_written e disk i = written disk Log (ring_place e.ring (e.start + i)) (block_at (due_blocks e) i)

-- that is a write of that block
pub due-written : (e : Engine) (disk : Disk) (i : ℕ) → i < length (due_blocks e) → IsDueWrite e disk (due_written e disk i) i
due-written e disk i within = record { write = is_write-written disk (ring_place e.ring (e.start + i)) (block_at (due_blocks e) i); within = within }

-- the block is read there then
due-read : (e : Engine) (disk : Disk) (i : ℕ) → (due_written e disk i Log (ring_place e.ring (e.start + i))).reads ≡ block_at (due_blocks e) i
due-read e disk i = ap (λ (c : Cell). c.reads) (written-there disk (ring_place e.ring (e.start + i)) (block_at (due_blocks e) i))

-- such a write leaves the cells of the other due blocks
pub due-apart : (e : Engine) (old new : Disk) (i j : ℕ) → IsPlain e → IsDueWrite e old new i → j < length (due_blocks e) → (j ≡ i → ⊥) →
    new Log (ring_place e.ring (e.start + j)) ≡ old Log (ring_place e.ring (e.start + j))
due-apart e old new i j plain due below other =
    let room : e.start + length (due_blocks e) ≤ e.tail + e.ring.blocks = plain.room in
    let order : e.tail ≤ e.start = tail-start e plain in
    due-other e old new i (e.start + j) plain due (omega arith) (omega arith) (λ same. other (omega arith))

-- the blocks up to the one that was written are read
blocks-read : (e : Engine) (a : Bool) (disk : Disk) (k j : ℕ) → Sound (at e (Blocks k) a) disk → k + 1 < length (due_blocks e) → j < k + 1 →
    (due_written e disk k Log (ring_place e.ring (e.start + j))).reads ≡ block_at (due_blocks e) j
blocks-read e a disk k j sound more below =
    elim (cases_eq j k) [
      | inl same ↦ rw same (due-read e disk k)
      | inr other ↦
          let due : IsDueWrite (at e (Blocks k) a) disk (due_written e disk k) k = due-written (at e (Blocks k) a) disk k (omega arith) in
          ap (λ (c : Cell). c.reads) (due-apart (at e (Blocks k) a) disk (due_written e disk k) k j sound.plain due (omega arith) other)
          ∙ sound.stage j (omega arith)
    ]

-- the engine stays sound over the write of a block before the commit block
block-sound : (e : Engine) (a : Bool) (disk : Disk) (k : ℕ) → Sound (at e (Blocks k) a) disk → k + 1 < length (due_blocks e) →
    Sound (at e (Blocks (k + 1)) a) (due_written e disk k)
block-sound e a disk k sound more =
    due-sound e (Blocks k) (Blocks (k + 1)) a a disk (due_written e disk k) k sound (due-written (at e (Blocks k) a) disk k (omega arith))
    (omega arith) (omega arith) (λ flush. cc) (sound.plain.stage.0, sound.plain.stage.1, more) (λ j below. blocks-read e a disk k j sound more below)

-- the engine stays sound if that write fails
pub block-fails : (e : Engine) (a b : Bool) (disk after : Disk) (k : ℕ) → Sound (at e (Blocks k) a) disk → k + 1 < length (due_blocks e) →
    IsDueWrite (at e (Blocks k) a) disk after k → Sound (at e (Blocks k) b) after
block-fails e a b disk after k sound more due =
    due-sound e (Blocks k) (Blocks k) a b disk after k sound due
    (omega arith) (omega arith) (λ flush. cc) sound.plain.stage
    (λ j below. ap (λ (c : Cell). c.reads) (due-apart (at e (Blocks k) a) disk after k j sound.plain due (omega arith) (λ same. omega arith))
    ∙ sound.stage j below)

-- the engine stays sound over the flush of these blocks
all-flushed : (e : Engine) (a : Bool) (disk : Disk) (k : ℕ) → Sound (at e (Blocks k) a) disk → length (due_blocks e) ≤ k + 1 →
    Sound (at e CommitWrite a) (flushed disk Log)
all-flushed e a disk k sound last =
    let below : k < length (due_blocks e) = sound.plain.stage.2 in
    flush-sound e (Blocks k) CommitWrite a a disk sound (omega arith)
    (λ v is. may-at e (Blocks k) CommitWrite a a v (λ flush. cc) (sound.superblock v (inl is)))
    (sound.plain.stage.0, sound.plain.stage.1)
    (λ j below. read-flushed e disk (e.start + j) (block_at (due_blocks e) j) (sound.stage j (omega arith)))

-- the engine stays sound, whichever of the two is due
pub blocks-sound : (e : Engine) (a : Bool) (disk : Disk) (k : ℕ) (b : Bool) → Sound (at e (Blocks k) a) disk →
    nat_lt (k + 1) (length (due_blocks e)) ≡ b →
    Sound (at e (if b then Blocks (k + 1) else CommitWrite) a) (after_success (if b then write_block e k else Flush Log) disk)
blocks-sound e a disk k true sound test = block-sound e a disk k sound (ltb-true _ _ test)
blocks-sound e a disk k false sound test = all-flushed e a disk k sound (grind (arith, nat_tests))

-- the write of the commit block leaves the others durable
commit-durable : (e : Engine) (a : Bool) (disk after : Disk) (j : ℕ) → Sound (at e CommitWrite a) disk →
    IsDueWrite (at e CommitWrite a) disk after (length (due_blocks e) - 1) → j + 1 < length (due_blocks e) →
    IsDurable e after (e.start + j) (block_at (due_blocks e) j)
commit-durable e a disk after j sound due below =
    due-apart (at e CommitWrite a) disk after (length (due_blocks e) - 1) j sound.plain due (omega arith) (λ same. omega arith) ∙ sound.stage j below

-- the engine stays sound over the write of the commit block
pub commit-sound : (e : Engine) (a : Bool) (disk : Disk) → Sound (at e CommitWrite a) disk →
    Sound (at e CommitFlush a) (due_written e disk (length (due_blocks e) - 1))
commit-sound e a disk sound =
    let i : ℕ = length (due_blocks e) - 1 in
    let some : 0 < length (due_blocks e) = due-some e sound.plain.stage.0 in
    let due : IsDueWrite (at e CommitWrite a) disk (due_written e disk i) i = due-written (at e CommitWrite a) disk i (omega arith) in
    due-sound e CommitWrite CommitFlush a a disk (due_written e disk i) i sound due (omega arith) (omega arith) (λ flush. cc) sound.plain.stage
    (λ j below. commit-durable e a disk (due_written e disk i) j sound due below, due-read e disk i)

-- the engine stays sound if that write fails
pub commit-fails : (e : Engine) (a b : Bool) (disk after : Disk) → Sound (at e CommitWrite a) disk →
    IsDueWrite (at e CommitWrite a) disk after (length (due_blocks e) - 1) → Sound (at e CommitWrite b) after
commit-fails e a b disk after sound due =
    let some : 0 < length (due_blocks e) = due-some e sound.plain.stage.0 in
    due-sound e CommitWrite CommitWrite a b disk after (length (due_blocks e) - 1) sound due (omega arith) (omega arith) (λ flush. cc) sound.plain.stage
    (λ j below. commit-durable e a disk after j sound due below)
