-- Tasks become clients, one after the other.
use Rattle.std.proofs.Common.{◌≡◌, ◌≢◌, ℕ, ◌+◌, ◌<◌, List, [], ◌∷◌, ◌++◌, length, length-append, get_or, sym, ◌∙◌, ap, arith, ⊎_elim}
use Rattle.std.proofs.lemmas.Bool.{cases_eq}
use Rattle.std.proofs.lemmas.List.{get_or_append_left, get_or_push}

-- If each item is made of the one at its place, so it is with one more.
pub one-more : {A T : Type 0} (f : A → T) (xs new : List A) (ts yielded rest : List T) (x : A) (y : T) → new ≡ xs ++ x ∷ [] → f x ≡ y → length xs ≡ length yielded →
    (yielded ++ y ∷ []) ++ rest ≡ ts → ((k : ℕ) (a : A) (t : T) → k < length xs → f (get_or xs k a) ≡ get_or ts k t) →
    (k : ℕ) (a : A) (t : T) → k < length xs + 1 → f (get_or new k a) ≡ get_or ts k t
one-more {A} {T} f xs new ts yielded rest x y is made long all before k a t less =
    ⊎_elim
    (λ (at : k ≡ length xs).
    let here : get_or (xs ++ x ∷ []) k a ≡ x = get_or_push xs x a k (sym at) in
    let sums : length (yielded ++ y ∷ []) ≡ length yielded + 1 = length-append yielded (y ∷ []) in
    let place : get_or ((yielded ++ y ∷ []) ++ rest) k t ≡ y =
    get_or_append_left (yielded ++ y ∷ []) rest t k (omega (arith, at, long, sums)) ∙ get_or_push yielded y t k (sym (at ∙ long)) in
    ap f (ap (λ (ys : List A). get_or ys k a) is ∙ here) ∙ (made ∙ (sym place ∙ ap (λ (ys : List T). get_or ys k t) all)))
    (λ (other : k ≢ length xs).
    let below : k < length xs = omega (arith, less, other) in
    ap f (ap (λ (ys : List A). get_or ys k a) is ∙ get_or_append_left xs (x ∷ []) a k below) ∙ before k a t below)
    (cases_eq k (length xs))
