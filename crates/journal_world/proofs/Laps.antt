-- A lap of a log, block by block.
use Rattle.std.proofs.Common.{◌≡◌, ℕ, zero, suc, ◌+◌, ◌-◌, ◌<◌, ◌≤◌, List, [], ◌∷◌, ◌++◌, length, map, arith, ◌∙◌, ap, ap₂}
use Rattle.std.specs.List.{AllByRecursion, range_with_len, slice_get}
use Rattle.std.specs.Prelude.{unwrap_or}

-- what holds at each number of a range holds of each value
pub all-range : {X : Type 0} (P : X → Type 0) (f : ℕ → X) (a n : ℕ) → ((k : ℕ) → a ≤ k → k < a + n → P (f k)) → AllByRecursion P (map f (range_with_len a n))
all-range P f a zero each = tt
all-range P f a (suc n) each = (each a (omega arith) (omega arith), all-range P f (a + 1) n (λ k low high. each k (omega arith) (omega arith)))

-- values on a range begin with a list that has them at its places
pub range-front : {X : Type 0} (d : X) (f : ℕ → X) (xs : List X) (a n : ℕ) → length xs ≤ n →
    ((k : ℕ) → k < length xs → f (a + k) ≡ unwrap_or (slice_get xs k) d) →
    map f (range_with_len a n) ≡ xs ++ map f (range_with_len (a + length xs) (n - length xs))
range-front d f [] a n fits each = ap₂ (λ b m. map f (range_with_len b m)) (omega arith) (omega arith)
range-front d f (x ∷ xs) a zero fits each = absurd (omega arith)
range-front d f (x ∷ xs) a (suc n) fits each =
    let here : f a ≡ x = ap f (omega arith) ∙ each 0 (omega arith) in
    let next : (k : ℕ) → k < length xs → f (a + 1 + k) ≡ unwrap_or (slice_get xs k) d = λ k h. ap f (omega arith) ∙ each (suc k) (omega arith) in
    let there = range-front d f xs (a + 1) n (omega arith) next in
    let moved : map f (range_with_len (a + 1 + length xs) (n - length xs)) ≡ map f (range_with_len (a + suc (length xs)) (suc n - suc (length xs))) =
    ap₂ (λ b m. map f (range_with_len b m)) (omega arith) (omega arith) in
    ap₂ (λ y ys. y ∷ ys) here (there ∙ ap (λ ys. xs ++ ys) moved)
