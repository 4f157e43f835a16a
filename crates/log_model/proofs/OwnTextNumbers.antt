-- A number written as bytes is read back, whatever stands before and after.
use Rattle.std.proofs.Common.{refl, ap, ap₂, sym, ◌∙◌, arith, add-suc}
use Rattle.std.specs.Prelude.{◌≡◌, ℕ, zero, suc, ◌+◌, ◌*◌, ◌/◌, ◌%◌, ◌^◌, ◌<◌, List, [], ◌∷◌, ◌++◌, length}
use Rattle.std.specs.Int.{byte_at}
use Rattle.std.proofs.lemmas.List.{get_or-append-add}
use Rattle.std.proofs.Math.Arith.{mod-mul}
use Rattle.std.proofs.Math.Nat.{pow-succ', one-le-pow, mod-eq_of_lt}
use Rattle.journal_model.specs.Layout.{big_endian, number_at}

-- `big_endian k` has k bytes
pub length-big_endian : (k n : ℕ) → length (big_endian k n) ≡ k
length-big_endian zero n = refl
length-big_endian (suc k) n = ap suc (length-big_endian k n)

-- a number after other bytes reads the same without them
pub number_behind : (xs ys : List ℕ) (at k : ℕ) → number_at (length xs + at) k (xs ++ ys) ≡ number_at at k ys
number_behind xs ys at zero = refl
number_behind xs ys at (suc k) =
    let next = ap (λ (i : ℕ). number_at i k (xs ++ ys)) (sym (add-suc (length xs) at)) ∙ number_behind xs ys (suc at) k in
    ap₂ (λ b m. b * 256 ^ k + m) (get_or-append-add xs ys at 0) next

-- byte k of a number, as a quotient and a remainder
byte_is : (k n : ℕ) → byte_at k n ≡ n / 256 ^ k % 256
byte_is zero n = omega arith
byte_is (suc k) n = refl

-- the highest byte before the lower ones
mod_more : (k n : ℕ) → n % 256 ^ suc k ≡ byte_at k n * 256 ^ k + n % 256 ^ k
mod_more k n =
    ap (λ m. n % m) (pow-succ' 256 k) ∙ mod-mul n (omega arith) (one-le-pow k 256 (omega arith))
    ∙ ap (λ b. b * 256 ^ k + n % 256 ^ k) (sym (byte_is k n))

-- k bytes read as the number's remainder by 256 ^ k
pub number_in_big_endian_mod : (k n : ℕ) (ys : List ℕ) → number_at 0 k (big_endian k n ++ ys) ≡ n % 256 ^ k
number_in_big_endian_mod zero n ys = omega arith
number_in_big_endian_mod (suc k) n ys =
    let lower = number_behind (byte_at k n ∷ []) (big_endian k n ++ ys) 0 k ∙ number_in_big_endian_mod k n ys in
    ap (λ m. byte_at k n * 256 ^ k + m) lower ∙ sym (mod_more k n)

-- a number below 256 ^ k is read back from k bytes
pub number_in_big_endian : (k n : ℕ) (ys : List ℕ) → n < 256 ^ k → number_at 0 k (big_endian k n ++ ys) ≡ n
number_in_big_endian k n ys below = number_in_big_endian_mod k n ys ∙ mod-eq_of_lt below

-- a number after other bytes is read back from k bytes
pub number_behind_bytes : (xs ys : List ℕ) (at k n : ℕ) →
    length xs ≡ at → n < 256 ^ k →
    number_at at k (xs ++ (big_endian k n ++ ys)) ≡ n
number_behind_bytes xs ys at k n here below =
    ap (λ i. number_at i k (xs ++ (big_endian k n ++ ys))) (omega arith)
    ∙ number_behind xs (big_endian k n ++ ys) 0 k ∙ number_in_big_endian k n ys below
