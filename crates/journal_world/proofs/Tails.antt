-- The superblock with a new tail.
use Rattle.std.proofs.Common.{◌∙◌, ap, ap₂, arith, inr, length-append, length-take, length-drop}
use Rattle.std.specs.Prelude.{◌≡◌, ℕ, ◌+◌, ◌-◌, ◌==◌, ◌<◌, ◌≤◌, if◌then◌else◌, List, length}
use Rattle.log_model.specs.Chain.{Ring, ring_place}
use Rattle.journal_model.specs.Layout.{Layout}
use Rattle.log_model.specs.Opening.{greatest_number, layout_of, ring_of}
use Rattle.journal_model.specs.Disk.{Shape}
use Rattle.log_model.specs.Superblock.{greatest_length, super_in, wide_features, with_tail}
use Rattle.log_format.proofs.Accepting.{tail_accepted}
use Rattle.log_format.proofs.Superblocks.{before_tail, behind_tail, sequence_of_tail, start_of_tail}
use Rattle.journal_world.specs.Opening.{IsSuperblock}
use Rattle.journal_world.specs.Sound.{BeginsAt}
use Rattle.journal_world.proofs.Places.{place-within}
use Rattle.journal_world.proofs.Superblocks.{accepted-length, accepted-size, blocks-some, first-is}

-- a new tail leaves the length of the block
pub length-tail : (block : List ℕ) (sequence start : ℕ) → 32 ≤ length block → length (with_tail block sequence start) ≡ length block
unfolding with_tail
length-tail block sequence start long =
    simp (length-append, length-take, length-drop) (omega arith)

-- a new tail leaves the ring
ring-tail : (block : List ℕ) (sequence start : ℕ) → 24 ≤ length block → ring_of (super_in (with_tail block sequence start)) ≡ ring_of (super_in block)
ring-tail block sequence start long =
    ap₂ (λ (first blocks : ℕ). let r : Ring = record { first = first; blocks = blocks - first } in r)
    (before_tail 0x14 block sequence start (omega arith) long)
    (before_tail 0x10 block sequence start (omega arith) long)

-- a new tail leaves the layout
pub layout-tail : (block : List ℕ) (sequence start : ℕ) → 24 ≤ length block → layout_of (super_in (with_tail block sequence start)) ≡ layout_of (super_in block)
layout-tail block sequence start long =
    ap₂ (λ (size features : ℕ). let l : Layout = record { block_size = size; number_bytes = 4 + (if features == wide_features then 4 else 0) } in l)
    (before_tail 0x0c block sequence start (omega arith) long)
    (behind_tail 8 block sequence start long)

-- the place of a position is one that a superblock may name
place-names : {l : Layout} (shape : Shape) (ring : Ring) (block : List ℕ) (position : ℕ) → IsSuperblock shape l ring block →
    ((super_in block).s_first ≤ ring_place ring position) × (ring_place ring position < (super_in block).s_maxlen)
place-names shape ring block position is =
    let first : (super_in block).s_first ≡ ring.first = first-is shape ring block is in
    let same : (super_in block).s_maxlen - (super_in block).s_first ≡ ring.blocks = ap (λ (r : Ring). r.blocks) is.ring_is in
    let some : 16 ≤ ring.blocks = blocks-some shape ring block is in
    let within : ring_place ring position < ring.first + ring.blocks = place-within ring position (omega arith) in
    (omega arith, omega arith)

-- a superblock with a position's place as its tail has the same ring
tail-superblock : {l : Layout} (shape : Shape) (ring : Ring) (block : List ℕ) (sequence position : ℕ) → IsSuperblock shape l ring block →
    IsSuperblock shape l ring (with_tail block sequence (ring_place ring position))
tail-superblock shape ring block sequence position is =
    let size : length block ≡ shape.block_size = is.size in
    let large : 1024 ≤ shape.block_size = accepted-size shape block is.accepted in
    record {
      accepted =
          tail_accepted shape block sequence (ring_place ring position) (omega arith) is.accepted (inr (place-names shape ring block position is));
      size = length-tail block sequence (ring_place ring position) (omega arith) ∙ size;
      layout_is = layout-tail block sequence (ring_place ring position) (omega arith) ∙ is.layout_is;
      ring_is = ring-tail block sequence (ring_place ring position) (omega arith) ∙ is.ring_is;
    }

-- it names the transaction of this number, at that position, as the first
pub tail-names : {l : Layout} (shape : Shape) (ring : Ring) (block : List ℕ) (number position : ℕ) → IsSuperblock shape l ring block →
    number ≤ greatest_number + 1 → BeginsAt shape l ring number position (with_tail block number (ring_place ring position))
tail-names shape ring block number position is small =
    let size : length block ≡ shape.block_size = is.size in
    let large : 1024 ≤ shape.block_size = accepted-size shape block is.accepted in
    let most : (super_in block).s_maxlen ≤ greatest_length = accepted-length shape block is.accepted in
    let within : ring_place ring position < (super_in block).s_maxlen = (place-names shape ring block position is).1 in
    record {
      is_superblock = tail-superblock shape ring block number position is;
      start = start_of_tail block number (ring_place ring position) (omega arith) (omega arith);
      sequence = sequence_of_tail block number (ring_place ring position) (omega arith) (omega arith);
    }
