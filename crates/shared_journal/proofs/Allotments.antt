-- The sum of the allotments of seats, with one more.
use Rattle.std.proofs.Common.{◌≡◌, ◌+◌, ◌++◌, ◌∷◌, [], List, ℕ, arith, sum_by}
use Rattle.std.proofs.lemmas.List.Sums.{sum_by-append, sum_by-cons}

-- One more item at the end adds its own.
pub sum-push : {A : Type 0} (f : A → ℕ) (xs : List A) (x : A) → sum_by f (xs ++ x ∷ []) ≡ sum_by f xs + f x
sum-push f xs x = omega (arith, sum_by-append f xs (x ∷ []), sum_by-cons f x [])
