-- An accepted superblock stays so with a new tail.
use Rattle.std.proofs.Common.{arith, inl, inr}
use Rattle.std.specs.Prelude.{◌≡◌, ◌⊎◌, ℕ, ◌^◌, ◌<◌, ◌≤◌, ◌==◌, ◌&&◌, ◌||◌, nat_le, nat_lt, true, List, length, None}
use Rattle.std.proofs.lemmas.Bool.Decides.{nat_tests}
use Rattle.journal_model.specs.Disk.{Shape}
use Rattle.log_model.specs.Superblock.{greatest_length, super_in, super_refusal, with_tail}
use Rattle.log_format.proofs.Superblocks.{before_tail, behind_tail, magic_of_tail, start_of_tail}

-- an accepted superblock has no more blocks than a log may have
greatest_is : (shape : Shape) (block : List ℕ) → super_refusal shape block ≡ None → (super_in block).s_maxlen ≤ greatest_length
greatest_is shape block accepted = grind (arith, nat_tests)

-- a start that is none or in the ring passes its test
start_passes : (first maxlen start : ℕ) → (start ≡ 0) ⊎ ((first ≤ start) × (start < maxlen)) →
    ((start == 0) || (nat_le first start && nat_lt start maxlen)) ≡ true
start_passes first maxlen start (inl clean) = grind (arith, nat_tests)
start_passes first maxlen start (inr within) = grind (arith, nat_tests)

-- a start below 2^32 is read back
starts : (shape : Shape) (block : List ℕ) (start : ℕ) → super_refusal shape block ≡ None →
    (start ≡ 0) ⊎ (((super_in block).s_first ≤ start) × (start < (super_in block).s_maxlen)) → start < 2 ^ 32
starts shape block start accepted (inl clean) = omega arith
starts shape block start accepted (inr within) = let small = greatest_is shape block accepted in omega arith

-- an accepted superblock is accepted with a new tail
pub tail_accepted : (shape : Shape) (block : List ℕ) (sequence start : ℕ) →
    24 ≤ length block → super_refusal shape block ≡ None →
    (start ≡ 0) ⊎ (((super_in block).s_first ≤ start) × (start < (super_in block).s_maxlen)) →
    super_refusal shape (with_tail block sequence start) ≡ None
tail_accepted shape block sequence start long accepted within =
    rw (
      magic_of_tail block sequence start long,
      before_tail 4 block sequence start (omega arith) long,
      before_tail 0x0c block sequence start (omega arith) long,
      before_tail 0x10 block sequence start (omega arith) long,
      before_tail 0x14 block sequence start (omega arith) long,
      start_of_tail block sequence start long (starts shape block start accepted within),
      behind_tail 0 block sequence start long,
      behind_tail 4 block sequence start long,
      behind_tail 8 block sequence start long,
      behind_tail 12 block sequence start long,
      behind_tail 32 block sequence start long,
    ) (let passes = start_passes (super_in block).s_first (super_in block).s_maxlen start within in grind arith)
