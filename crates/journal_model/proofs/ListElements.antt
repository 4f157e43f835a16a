-- Elements of lists: of joined ones, of `filter`, and of `filter_map`.
use Rattle.std.proofs.Common.{◌≡◌, ◌⊎◌, inl, inr, ℕ, zero, suc, ◌<◌, Bool, true, false, cond, List, [], ◌∷◌, ◌++◌, length, map, slice_get, Option, Some, None, option_map, refl, sym, ◌∙◌, ap, arith, ◌||◌, ◌==◌, eq-eqb, true≢false, ◌+◌, take, get_or}
use Rattle.std.proofs.Math.Bool.{or-true}
use Rattle.std.proofs.lemmas.Bool.{cases_eq}
use Rattle.std.proofs.lemmas.Bool.Decides.{nat_tests}
use Rattle.std.proofs.lemmas.List.{take_more}
use Rattle.std.proofs.lemmas.List.Folds.{list_any-append}
use Rattle.std.specs.List.{flat_map, list_any, filter_map, cons_option, filter, Contains, IsDistinct, AllByRecursion}
use Rattle.std.proofs.lemmas.Map.Keys.{IsDistinct-head, IsDistinct-tail, IsDistinct-cons}

-- an `Option` is nothing or something
pub option-known : {X : Type 0} (o : Option X) → (o ≡ None) ⊎ ((x : X) × (o ≡ Some x))
option-known None = inl refl
option-known (Some x) = inr (x, refl)

-- an element of a list is the first, or one of the rest
pub contains-cases : {X : Type 0} (x : X) (xs : List X) (y : X) → Contains (x ∷ xs) y → (x ≡ y) ⊎ Contains xs y
contains-cases x xs y (zero, l, e) = inl e
contains-cases x xs y (suc k, l, e) = inr (k, omega arith, e)

-- the first is an element
pub contains-first : {X : Type 0} (x : X) (xs : List X) (y : X) → x ≡ y → Contains (x ∷ xs) y
contains-first x xs y e = (0, omega arith, e)

-- an element of the rest is an element
pub contains-behind : {X : Type 0} (x : X) (xs : List X) (y : X) → Contains xs y → Contains (x ∷ xs) y
contains-behind x xs y (k, l, e) = (suc k, omega arith, e)

-- the empty list has none
pub contains-none : {X : Type 0} (y : X) → Contains [] y → ⊥
contains-none y (k, l, e) = omega arith

-- an element stays one after an optional first element
contains-behind_option : {X : Type 0} (o : Option X) (xs : List X) (y : X) → Contains xs y → Contains (cons_option o xs) y
contains-behind_option None xs y m = m
contains-behind_option (Some x) xs y m = contains-behind x xs y m

-- an element of a list with an optional first one
contains-option_cases : {X : Type 0} (o : Option X) (xs : List X) (y : X) → Contains (cons_option o xs) y → (o ≡ Some y) ⊎ Contains xs y
contains-option_cases None xs y m = inr m
contains-option_cases (Some x) xs y m = elim (contains-cases x xs y m) [ inl e ↦ inl (ap Some e) | inr b ↦ inr b ]

-- what h gives of an element is an element
pub contains-filter_map : {X Y : Type 0} (h : X → Option Y) (xs : List X) (x : X) (y : Y) → Contains xs x → h x ≡ Some y → Contains (filter_map h xs) y
contains-filter_map h [] x y m e = absurd (contains-none x m)
contains-filter_map h (z ∷ xs) x y m e =
    elim (contains-cases z xs x m) [
      | inl same ↦ rw (ap h same ∙ e) (contains-first y (filter_map h xs) y refl)
      | inr behind ↦ contains-behind_option (h z) (filter_map h xs) y (contains-filter_map h xs x y behind e)
    ]

-- an element comes from one that h takes to it
pub contains-from_filter_map : {X Y : Type 0} (h : X → Option Y) (xs : List X) (y : Y) → Contains (filter_map h xs) y → (x : X) × (h x ≡ Some y)
contains-from_filter_map h [] y m = absurd (contains-none y m)
contains-from_filter_map h (x ∷ xs) y m =
    elim (contains-option_cases (h x) (filter_map h xs) y m) [
      | inl e ↦ (x, e)
      | inr behind ↦ contains-from_filter_map h xs y behind
    ]

-- a filter keeps an element that passes
pub contains-filter : {X : Type 0} (p : X → Bool) (xs : List X) (y : X) → Contains xs y → p y ≡ true → Contains (filter p xs) y
contains-filter p [] y m e = m
contains-filter p (x ∷ xs) y m e =
    elim (contains-cases x xs y m) [
      | inl same ↦ rw (ap p same ∙ e) (contains-first x (filter p xs) y same)
      | inr behind ↦
          let rest : Contains (filter p xs) y = contains-filter p xs y behind e in
          elim (p x) as (λ b. Contains (cond b (x ∷ filter p xs) (filter p xs)) y) [
            | true ↦ contains-behind x (filter p xs) y rest
            | false ↦ rest
          ]
    ]

-- what a filter keeps was there before
pub contains-from_filter : {X : Type 0} (p : X → Bool) (xs : List X) (y : X) → Contains (filter p xs) y → Contains xs y
contains-from_filter p [] y = λ m. m
contains-from_filter p (x ∷ xs) y =
    elim (p x) as (λ b. Contains (cond b (x ∷ filter p xs) (filter p xs)) y → Contains (x ∷ xs) y) [
      | true ↦ λ m. elim (contains-cases x (filter p xs) y m) [
        | inl same ↦ contains-first x xs y same
        | inr behind ↦ contains-behind x xs y (contains-from_filter p xs y behind)
      ]
      | false ↦ λ m. contains-behind x xs y (contains-from_filter p xs y m)
    ]

-- two functions that agree at each element give the same list
pub filter_map-agree : {X Y : Type 0} (g h : X → Option Y) (xs : List X) → ((x : X) → Contains xs x → g x ≡ h x) → filter_map g xs ≡ filter_map h xs
filter_map-agree g h [] same = refl
filter_map-agree g h (x ∷ xs) same =
    let here : g x ≡ h x = same x (contains-first x xs x refl) in
    let rest : filter_map g xs ≡ filter_map h xs = filter_map-agree g h xs (λ y m. same y (contains-behind x xs y m)) in
    rw (here, rest)

-- f of a list with an optional first element
map-cons_option : {Y Z : Type 0} (f : Z → Y) (o : Option Z) (zs : List Z) → map f (cons_option o zs) ≡ cons_option (option_map f o) (map f zs)
map-cons_option f None zs = refl
map-cons_option f (Some z) zs = refl

-- f of what h gives maps the list of h
pub filter_map-map : {X Y Z : Type 0} (g : X → Option Y) (h : X → Option Z) (f : Z → Y) → ((x : X) → g x ≡ option_map f (h x)) → (xs : List X) → filter_map g xs ≡ map f (filter_map h xs)
filter_map-map g h f same [] = refl
filter_map-map g h f same (x ∷ xs) =
    rw (same x, filter_map-map g h f same xs) (sym (map-cons_option f (h x) (filter_map h xs)))

-- a fact of each element holds of each that a filter keeps
filter-all : {X : Type 0} (P : X → Type 0) (p : X → Bool) (xs : List X) → AllByRecursion P xs → AllByRecursion P (filter p xs)
filter-all P p [] a = a
filter-all P p (x ∷ xs) a =
    elim (p x) as (λ b. AllByRecursion P (cond b (x ∷ filter p xs) (filter p xs))) [
      | true ↦ (a.0, filter-all P p xs a.1)
      | false ↦ filter-all P p xs a.1
    ]

-- distinct elements stay so under a filter
pub distinct-filter : {X : Type 0} (eq : X → X → Bool) (p : X → Bool) (xs : List X) → IsDistinct eq xs → IsDistinct eq (filter p xs)
distinct-filter eq p [] d = d
distinct-filter eq p (x ∷ xs) d =
    let rest : IsDistinct eq (filter p xs) = distinct-filter eq p xs (IsDistinct-tail eq x xs d) in
    elim (p x) as (λ b. IsDistinct eq (cond b (x ∷ filter p xs) (filter p xs))) [
      | true ↦ IsDistinct-cons eq x (filter p xs) (filter-all (λ y. eq x y ≡ false) p xs (IsDistinct-head eq x xs d)) rest
      | false ↦ rest
    ]

-- an element of the first of two joined lists
pub get-front : {X : Type 0} (xs ys : List X) (k : ℕ) → k < length xs → slice_get (xs ++ ys) k ≡ slice_get xs k
get-front [] ys k below = absurd (omega arith)
get-front (x ∷ xs) ys zero below = refl
get-front (x ∷ xs) ys (suc k) below = get-front xs ys k (omega arith)

-- an element of the second of two joined lists
pub get-behind : {X : Type 0} (xs ys : List X) (k j : ℕ) → k ≡ length xs + j → slice_get (xs ++ ys) k ≡ slice_get ys j
get-behind [] ys k j place = ap (slice_get ys) (omega arith)
get-behind (x ∷ xs) ys zero j place = absurd (omega arith)
get-behind (x ∷ xs) ys (suc k) j place = get-behind xs ys k j (omega arith)

-- the first i + 1 elements, if the one at i was read
pub take-more_read : {X : Type 0} (xs : List X) (i : ℕ) (x : X) → i < length xs → x ≡ get_or xs i x → take (i + 1) xs ≡ take i xs ++ x ∷ []
take-more_read xs i x below read = take_more xs i x below ∙ ap (λ y. take i xs ++ y ∷ []) (sym read)

-- a test finds an element in joined lists if it finds one in some list
pub any-flat_map : {X Y : Type 0} (p : Y → Bool) (f : X → List Y) (xs : List X) → list_any p (flat_map f xs) ≡ list_any (λ x. list_any p (f x)) xs
any-flat_map p f [] = refl
any-flat_map p f (x ∷ xs) = list_any-append p (f x) (flat_map f xs) ∙ ap (λ b. list_any p (f x) || b) (any-flat_map p f xs)

-- a number that a test finds is an element
pub contains-from_any : (x : ℕ) (xs : List ℕ) → list_any (λ y. y == x) xs ≡ true → Contains xs x
contains-from_any x [] found = absurd (true≢false (sym found))
contains-from_any x (y ∷ ys) found =
    elim (cases_eq y x) [
      | inl same ↦ contains-first y ys x same
      | inr other ↦
          let apart : (y == x) ≡ false = grind (arith, nat_tests) in
          contains-behind y ys x (contains-from_any x ys (rw apart at found))
    ]

-- a test finds each element
pub any-from_contains : (x : ℕ) (xs : List ℕ) → Contains xs x → list_any (λ y. y == x) xs ≡ true
any-from_contains x [] m = absurd (contains-none x m)
any-from_contains x (y ∷ ys) m =
    elim (contains-cases y ys x m) [
      | inl same ↦ rw (eq-eqb y x same)
      | inr behind ↦ rw (any-from_contains x ys behind, or-true)
    ]

-- a fact of each element becomes a fact of each value of f
pub each-map : {X Y : Type 0} (P : X → Type 0) (Q : Y → Type 0) (f : X → Y) →
    ((x : X) → P x → Q (f x)) → (xs : List X) → AllByRecursion P xs →
    AllByRecursion Q (map f xs)
each-map P Q f step [] each = tt
each-map P Q f step (x ∷ xs) each = (step x each.0, each-map P Q f step xs each.1)

-- a fact of each element of two lists holds of the joined list
pub each-append : {X : Type 0} (P : X → Type 0) (xs ys : List X) →
    AllByRecursion P xs → AllByRecursion P ys →
    AllByRecursion P (xs ++ ys)
each-append P [] ys each others = others
each-append P (x ∷ xs) ys each others = (each.0, each-append P xs ys each.1 others)
