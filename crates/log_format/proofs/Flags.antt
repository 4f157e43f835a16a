-- The flags of a tag, as the bits of a number.
use Rattle.std.proofs.Common.{refl, arith, bit_and}
use Rattle.std.proofs.lemmas.Bool.Decides.{nat_tests}
use Rattle.std.specs.Prelude.{◌≡◌, ℕ, zero, suc, ◌+◌, ◌*◌, ◌/◌, ◌%◌, ◌^◌, ◌<◌, not, nat_eq, if◌then◌else◌}
use Rattle.std.proofs.lemmas.Nat.{and_shr, and_mask}
use Rattle.std.proofs.lemmas.Nat.Bits.{and_pow, bit_at_and}
use Rattle.std.specs.Int.{bit_at}

-- flags without a bit outside 1, 2 and 8 are below 16
small_flags : (w : ℕ) → w < 2 ^ 16 → bit_and w 65524 ≡ 0 → w < 16
small_flags w small none =
    let high = and_shr w 65524 4 in
    let mask = and_mask (w / 16) 12 in
    let zero : bit_and w 65524 / 16 ≡ 0 = rw none refl in
    omega arith

-- they have no bit 4
no_deleted : (w : ℕ) → bit_and w 65524 ≡ 0 → w / 4 % 2 ≡ 0
no_deleted w none =
    let both = bit_at_and w 65524 2 in
    let zero : bit_at (bit_and w 65524) 2 ≡ 0 = rw none refl in
    omega arith

-- a flag that is not set, as a number
unset : (m p : ℕ) → m ≡ 0 → (if not (nat_eq m 0) then p else 0) ≡ m
unset m p none = rw none refl

-- a flag that is set
set : (m p : ℕ) → 0 < p → m ≡ p → (if not (nat_eq m 0) then p else 0) ≡ m
set m p some is = grind (arith, nat_tests)

-- the value of a flag by its bit
flag_is : (bit m p : ℕ) → 0 < p → bit < 2 → m ≡ bit * p → (if not (nat_eq m 0) then p else 0) ≡ m
flag_is zero m p some below is = unset m p (omega arith)
flag_is (suc zero) m p some below is = set m p some (omega arith)
flag_is (suc (suc bit)) m p some below is = absurd (omega arith)

-- flags within 1, 2 and 8 are the sum of those set
pub flags_are : (w : ℕ) → w < 2 ^ 16 → bit_and w 65524 ≡ 0 →
    w ≡ (if not (nat_eq (bit_and w 1) 0) then 1 else 0) + (if not (nat_eq (bit_and w 2) 0) then 2 else 0) + (if not (nat_eq (bit_and w 8) 0) then 8 else 0)
flags_are w small none =
    let below = small_flags w small none in
    let gap = no_deleted w none in
    let one = and_pow w 0 in
    let two = and_pow w 1 in
    let eight = and_pow w 3 in
    rw (
      flag_is (w % 2) (bit_and w 1) 1 (omega arith) (omega arith) (omega arith),
      flag_is (w / 2 % 2) (bit_and w 2) 2 (omega arith) (omega arith) (omega arith),
      flag_is (w / 8 % 2) (bit_and w 8) 8 (omega arith) (omega arith) (omega arith),
    ) (omega arith)
