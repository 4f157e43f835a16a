-- Elements of lists by place, of joined lists, and of a list with one more.
use Rattle.std.proofs.Common.{refl, sym, ◌∙◌, subst, arith}
use Rattle.std.specs.Prelude.{◌≡◌, ℕ, zero, suc, ◌+◌, ◌<◌, Bool, false, List, [], ◌∷◌, ◌++◌, length, map, take, unwrap_or, slice_get, Some}
use Rattle.std.specs.List.{AllByRecursion, list_any}
use Rattle.std.proofs.lemmas.List.Elements.{All-from_recursion}
use Rattle.std.proofs.lemmas.List.Folds.{list_any_none}
use Rattle.std.proofs.lemmas.Option.{get_or_from_slice_get, none-some, same_Some, slice_get_within}
use Rattle.std.proofs.Math.Seq.{take-append_seam, take-length}
use Rattle.journal_model.proofs.ListElements.{get-behind, take-more_read}

-- the element after a list
pub get-last : {X : Type 0} (xs : List X) (x : X) (k : ℕ) → length xs ≡ k → slice_get (xs ++ x ∷ []) k ≡ Some x
get-last xs x k size = get-behind xs (x ∷ []) k 0 (omega arith)

-- there is an element at each place below the length
pub get-within : {X : Type 0} (xs : List X) (d : X) (k : ℕ) → k < length xs → slice_get xs k ≡ Some (unwrap_or (slice_get xs k) d)
get-within [] d k below = absurd (omega arith)
get-within (x ∷ xs) d zero below = refl
get-within (x ∷ xs) d (suc k) below = get-within xs d k (omega arith)

-- one more place takes one more element
pub take-one_more : {X : Type 0} (xs : List X) (k : ℕ) (x : X) → slice_get xs k ≡ Some x → take (k + 1) xs ≡ take k xs ++ x ∷ []
take-one_more xs k x there = take-more_read xs k x (slice_get_within xs k x there) (sym (get_or_from_slice_get xs k x x there))

-- an added last element leaves the first ones as they are
pub take-before : {X : Type 0} (xs : List X) (x : X) (k : ℕ) → length xs ≡ k → take k (xs ++ x ∷ []) ≡ take k xs
take-before xs x k size = rw (← size) (take-append_seam xs (x ∷ []) ∙ sym (take-length xs))

-- a fact of each element holds of the one at a place
pub all-at : {X : Type 0} (P : X → Type 0) (xs : List X) (k : ℕ) (x : X) → AllByRecursion P xs → slice_get xs k ≡ Some x → P x
all-at P [] k x all stands = absurd (none-some x stands)
all-at P (y ∷ xs) zero x all stands = subst P (same_Some y x stands) all.0
all-at P (y ∷ xs) (suc k) x all stands = all-at P xs k x all.1 stands

-- a fact of each element but the last holds at a place before the last
pub all-before : {X : Type 0} (P : X → Type 0) (xs : List X) (last : X) (k : ℕ) (x : X) → AllByRecursion P xs →
    slice_get (xs ++ last ∷ []) k ≡ Some x → k + 1 < length (xs ++ last ∷ []) → P x
all-before P [] last k x all stands before = absurd (omega arith)
all-before P (y ∷ xs) last zero x all stands before = subst P (same_Some y x stands) all.0
all-before P (y ∷ xs) last (suc k) x all stands before = all-before P xs last k x all.1 stands (omega arith)

-- a weaker fact of each element
pub all-weaker : {X : Type 0} (P Q : X → Type 0) → ((x : X) → P x → Q x) → (xs : List X) → AllByRecursion P xs → AllByRecursion Q xs
all-weaker P Q step [] all = tt
all-weaker P Q step (x ∷ xs) all = (step x all.0, all-weaker P Q step xs all.1)

-- a fact of each value of f holds of each element of a map
pub all-map : {X Y : Type 0} (Q : Y → Type 0) (f : X → Y) → ((x : X) → Q (f x)) → (xs : List X) → AllByRecursion Q (map f xs)
all-map Q f each [] = tt
all-map Q f each (x ∷ xs) = (each x, all-map Q f each xs)

-- a fact of each element holds of each of the first
pub all-take : {X : Type 0} (P : X → Type 0) (n : ℕ) (xs : List X) → AllByRecursion P xs → AllByRecursion P (take n xs)
all-take P zero xs all = tt
all-take P (suc n) [] all = tt
all-take P (suc n) (x ∷ xs) all = (all.0, all-take P n xs all.1)

-- a test that no element passes finds none
pub none-passes : {X : Type 0} (test : X → Bool) (xs : List X) → AllByRecursion (λ x. test x ≡ false) xs → list_any test xs ≡ false
none-passes test xs none = list_any_none test xs (All-from_recursion (λ x. test x ≡ false) xs none)
