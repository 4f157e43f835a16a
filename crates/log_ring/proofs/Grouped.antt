-- A list in groups with one element before each: where each element stands.
use Rattle.std.proofs.Common.{arith, refl, inl, inr, sym, ap, ◌∙◌, mul-zero, length-append, length-take, length-drop}
use Rattle.std.specs.Prelude.{◌≡◌, ℕ, zero, suc, ◌+◌, ◌-◌, ◌*◌, ◌/◌, ◌<◌, ◌≤◌, List, [], ◌∷◌, ◌++◌, length, map, take, drop, Some, slice_get}
use Rattle.std.specs.List.{flat_map, range_with_len}
use Rattle.std.specs.Option.{option_map}
use Rattle.std.proofs.lemmas.Bool.{cases_lt}
use Rattle.std.proofs.lemmas.List.{drop-drop, length-map}
use Rattle.std.proofs.lemmas.Option.{slice_get-map, slice_get_within}
use Rattle.std.proofs.Math.Nat.{add-div_right, div-lt_iff_lt-mul, div-eq_of_lt}
use Rattle.log_model.specs.OwnText.{ceil_div, groups}
use Rattle.journal_model.proofs.ListElements.{get-behind, get-front}

-- an element of the first of a list
get-take : {X : Type 0} (n k : ℕ) (xs : List X) → k < n → slice_get (take n xs) k ≡ slice_get xs k
get-take zero k xs below = absurd (omega arith)
get-take (suc n) k [] below = refl
get-take (suc n) zero (x ∷ xs) below = refl
get-take (suc n) (suc k) (x ∷ xs) below = get-take n k xs (omega arith)

-- an element after the first ones
get-drop : {X : Type 0} (n k at : ℕ) (xs : List X) → at ≡ n + k → slice_get (drop n xs) k ≡ slice_get xs at
get-drop zero k at xs place = ap (slice_get xs) (omega arith)
get-drop (suc n) k at [] place = refl
get-drop (suc n) k zero (x ∷ xs) place = absurd (omega arith)
get-drop (suc n) k (suc at) (x ∷ xs) place = get-drop n k at xs (omega arith)

-- the groups but the first are those of the rest
shifted : {X : Type 0} (n a m : ℕ) (xs : List X) →
    map (λ k. take n (drop (n * k) xs)) (range_with_len (a + 1) m) ≡ map (λ k. take n (drop (n * k) (drop n xs))) (range_with_len a m)
shifted n a zero xs = refl
shifted n a (suc m) xs =
    ap (λ (g : List _). take n g ∷ map (λ k. take n (drop (n * k) xs)) (range_with_len (a + 1 + 1) m))
    (ap (λ (k : ℕ). drop k xs) (omega arith) ∙ sym (drop-drop (n * a) n xs))
    ∙ ap (λ gs. take n (drop (n * a) (drop n xs)) ∷ gs) (shifted n (a + 1) m xs)

-- there are not more groups than elements
pub count-few : (c n : ℕ) → 0 < n → ceil_div c n ≤ c
count-few c n positive = let less : ceil_div c n < c + 1 = (div-lt_iff_lt-mul positive).1 (let enough = times c in omega arith) in omega arith
  where
    times : (c : ℕ) → c ≤ c * n
    times zero = omega arith
    times (suc c) = let enough = times c in omega arith

-- the empty list has no groups
pub count-none : (n : ℕ) → 0 < n → ceil_div 0 n ≡ 0
count-none n positive = div-eq_of_lt (omega arith)

-- a list has one group more than the rest
count-more : (c n : ℕ) → 0 < n → 0 < c → ceil_div c n ≡ suc (ceil_div (c - n) n)
count-more c n positive some =
    let one : ceil_div c n ≡ (c - 1) / n + 1 = ap (λ (k : ℕ). k / n) (omega arith) ∙ add-div_right (c - 1) positive in
    elim (cases_lt c n) [
      | inl less ↦
          let none : ceil_div (c - n) n ≡ 0 = ap (λ (k : ℕ). ceil_div k n) (omega arith) ∙ count-none n positive in
          let alone : (c - 1) / n ≡ 0 = div-eq_of_lt (omega arith) in
          omega arith
      | inr more ↦
          let same : ceil_div (c - n) n ≡ (c - 1) / n = ap (λ (k : ℕ). k / n) (omega arith) in
          omega arith
    ]

-- a list that is not empty has a first group
groups-some : {X : Type 0} (n : ℕ) (xs : List X) → 0 < n → 0 < length xs → groups n xs ≡ take n xs ∷ groups n (drop n xs)
unfolding groups
groups-some n xs positive some =
    let left : length xs - n ≡ length (drop n xs) = sym (length-drop n xs) in
    let count = count-more (length xs) n positive some ∙ ap (λ (c : ℕ). suc (ceil_div c n)) left in
    ap (λ (m : ℕ). map (λ k. take n (drop (n * k) xs)) (range_with_len 0 m)) count
    ∙ ap (λ (ys : List _). take n ys ∷ map (λ k. take n (drop (n * k) xs)) (range_with_len 1 (ceil_div (length (drop n xs)) n)))
    (ap (λ (k : ℕ). drop k xs) (mul-zero n))
    ∙ ap (λ gs. take n xs ∷ gs) (shifted n 0 (ceil_div (length (drop n xs)) n) xs)

-- an empty list has no group
pub groups-none : {X : Type 0} (n : ℕ) → 0 < n → groups {X = X} n [] ≡ []
unfolding groups
groups-none n positive = ap (λ (m : ℕ). map (λ k. take n (drop (n * k) [])) (range_with_len 0 m)) (count-none n positive)

module _ {X Y : Type 0} (first : List X → Y) (each : X → Y) (n : ℕ) where
  -- one element before those of each group
  abbrev pub with_first : List X → List Y
  with_first g = first g ∷ map each g

  abbrev pub grouped : List X → List Y
  grouped xs = flat_map with_first (groups n xs)

  module _ (positive : 0 < n) where
    -- the first group, then the rest
    grouped-some : (xs : List X) → 0 < length xs → grouped xs ≡ with_first (take n xs) ++ grouped (drop n xs)
    grouped-some xs some = ap (flat_map with_first) (groups-some n xs positive some)

    -- the empty list makes nothing
    grouped-none : (xs : List X) → length xs ≡ 0 → grouped xs ≡ []
    grouped-none [] none = ap (flat_map with_first) (groups-none n positive)
    grouped-none (x ∷ xs) none = absurd (omega arith)

    -- how many elements the first group makes
    length-first : (xs : List X) → length (with_first (take n xs)) ≡ suc (length (take n xs))
    length-first xs = ap (λ (m : ℕ). suc m) (length-map (take n xs) each)

    -- how many elements all groups make
    length-grouped : (xs : List X) → 0 < length xs → length (grouped xs) ≡ suc (length (take n xs)) + length (grouped (drop n xs))
    length-grouped xs some =
        ap length (grouped-some xs some) ∙ length-append (with_first (take n xs)) (grouped (drop n xs))
        ∙ ap (λ (m : ℕ). m + length (grouped (drop n xs))) (length-first xs)

    -- a place after the first group
    behind-first : (xs : List X) (k j : ℕ) → n ≤ length xs → k ≡ n + 1 + j → slice_get (grouped xs) k ≡ slice_get (grouped (drop n xs)) j
    behind-first xs k j more place =
        ap (λ (ys : List Y). slice_get ys k) (grouped-some xs (omega arith))
        ∙ get-behind (with_first (take n xs)) (grouped (drop n xs)) k j (omega (arith, length-first xs, length-take n xs))

    -- what stands in front of group g
    pub first-at : (g at k : ℕ) (xs : List X) → at ≡ g * n → k ≡ g * (n + 1) → at < length xs →
        slice_get (grouped xs) k ≡ Some (first (take n (drop at xs)))
    first-at zero at k xs begins place within =
        let none : 0 ≡ at = omega arith in
        ap (slice_get (grouped xs)) (omega arith)
        ∙ ap (λ (ys : List Y). slice_get ys 0) (grouped-some xs (omega arith))
        ∙ ap (λ (a : ℕ). Some (first (take n (drop a xs)))) none
    first-at (suc g) at k xs begins place within =
        behind-first xs k (k - (n + 1)) (omega arith) (omega arith)
        ∙ first-at g (at - n) (k - (n + 1)) (drop n xs) (omega arith) (omega arith) (omega (arith, length-drop n xs))
        ∙ ap (λ (ys : List X). Some (first (take n ys))) (drop-drop (at - n) n xs ∙ ap (λ (a : ℕ). drop a xs) (omega arith))

    -- what stands for element j of group g
    pub each-at : (g j at k : ℕ) (xs : List X) (x : X) → at ≡ g * n + j → k ≡ g * (n + 1) + 1 + j → j < n → slice_get xs at ≡ Some x →
        slice_get (grouped xs) k ≡ Some (each x)
    each-at zero j at k xs x begins place below there =
        let within : at < length xs = slice_get_within xs at x there in
        let same : at ≡ j = omega arith in
        let front : j < length (map each (take n xs)) = omega (arith, length-map (take n xs) each, length-take n xs) in
        ap (slice_get (grouped xs)) (omega arith)
        ∙ ap (λ (ys : List Y). slice_get ys (suc j)) (grouped-some xs (omega arith))
        ∙ get-front (map each (take n xs)) (grouped (drop n xs)) j front
        ∙ slice_get-map each (take n xs) j
        ∙ ap (option_map each) (get-take n j xs below ∙ ap (slice_get xs) (sym same) ∙ there)
    each-at (suc g) j at k xs x begins place below there =
        let within : at < length xs = slice_get_within xs at x there in
        behind-first xs k (k - (n + 1)) (omega arith) (omega arith)
        ∙ each-at g j (at - n) (k - (n + 1)) (drop n xs) x (omega arith) (omega arith) below (get-drop n (at - n) at xs (omega arith) ∙ there)

    -- if a place is below the length, the list is not empty
    some-there : (k : ℕ) (xs : List X) → k < length (grouped xs) → 0 < length xs
    some-there k [] within = absurd (omega (arith, ap length (grouped-none [] refl)))
    some-there k (x ∷ xs) within = omega arith

    -- a list of one group
    one-group : (xs : List X) → 0 < length xs → length xs ≤ n → length (grouped xs) ≡ suc (length xs)
    one-group xs some few =
        omega (arith, length-grouped xs some, length-take n xs, ap length (grouped-none (drop n xs) (length-drop n xs ∙ omega arith)))

    -- a list of more groups
    more-groups : (xs : List X) → n ≤ length xs → length (grouped xs) ≡ n + 1 + length (grouped (drop n xs))
    more-groups xs more = omega (arith, length-grouped xs (omega arith), length-take n xs)

    -- a place in a list of one group
    place-alone : (g j k : ℕ) (xs : List X) → k ≡ g * (n + 1) + j → j < n + 1 → k < length (grouped xs) → length xs ≤ n → g * n + (j - 1) < length xs
    place-alone zero j k xs place below within few =
        let some = some-there k xs within in
        let size = one-group xs some few in
        omega arith
    place-alone (suc g) j k xs place below within few =
        let size = one-group xs (some-there k xs within) few in absurd (omega arith)

    -- each place is that of a group, or of an element of one
    pub place-within : (g j k : ℕ) (xs : List X) → k ≡ g * (n + 1) + j → j < n + 1 → k < length (grouped xs) → g * n + (j - 1) < length xs
    place-within zero j k xs place below within = elim (cases_lt n (length xs)) [
      | inl more ↦ omega arith
      | inr few ↦ place-alone 0 j k xs place below within few
    ]
    place-within (suc g) j k xs place below within = elim (cases_lt n (length xs)) [
      | inl more ↦
          let size = more-groups xs (omega arith) in
          let rest = place-within g j (k - (n + 1)) (drop n xs) (omega arith) below (omega arith) in
          omega (arith, length-drop n xs)
      | inr few ↦ place-alone (suc g) j k xs place below within few
    ]
