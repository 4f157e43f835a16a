-- How many tags and numbers fit a block, in both widths.
use Rattle.std.proofs.Common.{arith, inl, inr}
use Rattle.std.specs.Prelude.{◌≡◌, ◌⊎◌, ℕ, ◌+◌, ◌-◌, ◌*◌, ◌/◌, ◌%◌, ◌<◌, ◌≤◌, true, false, nat_le, Option, Some, None, unwrap_or}
use Rattle.std.proofs.Math.Nat.{div-lt_iff_lt-mul}
use Rattle.std.proofs.lemmas.Bool.{leb-true}
use Rattle.std.proofs.lemmas.Bool.Decides.{leb_tells}

-- once as many as fit are there, no more fit
pub no_more : (n d k : ℕ) → 0 < d → n / d ≤ k → n < k * d + d
no_more n d k some most = let below : n < (k + 1) * d = (div-lt_iff_lt-mul some).0 (omega arith) in omega arith

-- the used bytes of a revoke block with whole numbers
pub whole_numbers : (k used : ℕ) → (k ≡ 4) ⊎ (k ≡ 8) → 16 ≤ used → used % k ≡ 0 → used ≡ 16 + k * ((used - 16) / k)
whole_numbers k used (inl four) enough whole = rw four (let rest : used % 4 ≡ 0 = rw four at whole in omega arith)
whole_numbers k used (inr eight) enough whole = rw eight (let rest : used % 8 ≡ 0 = rw eight at whole in omega arith)

-- how many numbers these are
pub count_is : (k used n : ℕ) → (k ≡ 4) ⊎ (k ≡ 8) → used ≡ 16 + k * n → (used - 16) / k ≡ n
count_is k used n (inl four) is = rw four (let now : used ≡ 16 + 4 * n = rw four at is in omega arith)
count_is k used n (inr eight) is = rw eight (let now : used ≡ 16 + 8 * n = rw eight at is in omega arith)

-- they are no more than fit the block
pub count_most : (k used size : ℕ) → (k ≡ 4) ⊎ (k ≡ 8) → used ≤ size → (used - 16) / k ≤ (size - 16) / k
count_most k used size (inl four) within = rw four (omega arith)
count_most k used size (inr eight) within = rw eight (omega arith)

-- each of the numbers that fit has its place
pub place_fits : (k i n size : ℕ) → (k ≡ 4) ⊎ (k ≡ 8) → i < n → n * k + 16 ≤ size → 16 + k * i + k ≤ size
place_fits k i n size (inl four) here fits = rw four (let all : n * 4 + 16 ≤ size = rw four at fits in omega arith)
place_fits k i n size (inr eight) here fits = rw eight (let all : n * 8 + 16 ≤ size = rw eight at fits in omega arith)

-- a number at or above the count is outside, and no other; without a count, none
pub outside : (count : Option ℕ) (number every : ℕ) → number < every → nat_le (unwrap_or count (number + 1)) number ≡ true →
    unwrap_or count every ≤ number
outside (Some count) number every below is = leb-true count number is
outside None number every below is = absurd (let not : number + 1 ≤ number = leb-true (number + 1) number is in omega arith)

pub inside : (count : Option ℕ) (number every : ℕ) → number < every → nat_le (unwrap_or count (number + 1)) number ≡ false →
    number < unwrap_or count every
inside (Some count) number every below is = grind (arith, leb_tells count number)
inside None number every below is = below
