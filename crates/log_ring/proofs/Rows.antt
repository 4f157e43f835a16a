-- Rows of consecutive numbers, and the part of a list that they number.
use Rattle.std.proofs.Common.{arith, refl, sym, ap, ap₂, ◌∙◌, length-drop}
use Rattle.std.specs.Prelude.{◌≡◌, ℕ, zero, suc, ◌+◌, ◌-◌, ◌*◌, ◌<◌, ◌≤◌, List, [], ◌∷◌, length, map, min, take, drop, unwrap_or, Some, slice_get, slice_index}
use Rattle.std.specs.List.{range_with_len}
use Rattle.std.proofs.lemmas.List.FromFn.{get_or-map-range_with_len, length-map-range_with_len, length-range_with_len}
use Rattle.std.proofs.lemmas.Option.{slice_get-get_or}
use Rattle.log_model.specs.OwnText.{ceil_div, groups}

-- rows with the same first number and length are equal
row-same : (a b m n : ℕ) → a ≡ b → m ≡ n → range_with_len a m ≡ range_with_len b n
row-same a b m n begins long = ap₂ range_with_len begins long

-- the rest of a row is a row
row-dropped : (b m a : ℕ) → drop a (range_with_len b m) ≡ range_with_len (b + a) (m - a)
row-dropped b m zero = row-same b (b + 0) m (m - 0) (omega arith) (omega arith)
row-dropped b zero (suc a) = row-same (b + suc a) (b + suc a) 0 (0 - suc a) refl (omega arith)
row-dropped b (suc m) (suc a) = row-dropped (b + 1) m a ∙ row-same (b + 1 + a) (b + suc a) (m - a) (suc m - suc a) (omega arith) (omega arith)

-- the front of a row is a row
take-row : (n b m : ℕ) → take n (range_with_len b m) ≡ range_with_len b (min n m)
take-row zero b m = row-same b b 0 (min 0 m) refl (omega arith)
take-row (suc n) b zero = row-same b b 0 (min (suc n) 0) refl (omega arith)
take-row (suc n) b (suc m) =
    ap (λ (xs : List ℕ). b ∷ xs) (take-row n (b + 1) m) ∙ row-same b b (suc (min n m)) (min (suc n) (suc m)) refl (omega arith)

-- a part of a row
pub part-row : (n a c : ℕ) → take n (drop a (range_with_len 0 c)) ≡ range_with_len a (min n (c - a))
part-row n a c =
    ap (take n) (row-dropped 0 c a) ∙ take-row n (0 + a) (c - a) ∙ row-same (0 + a) a (min n (c - a)) (min n (c - a)) (omega arith) refl

-- group k of a list
pub group-at : {X : Type 0} (n k : ℕ) (xs : List X) → k < ceil_div (length xs) n → slice_get (groups n xs) k ≡ Some (take n (drop (n * k) xs))
unfolding groups
group-at n k xs below =
    let count = length-map-range_with_len (λ j. take n (drop (n * j) xs)) 0 (ceil_div (length xs) n) in
    slice_get-get_or (groups n xs) k [] (omega arith)
    ∙ ap Some (get_or-map-range_with_len (λ j. take n (drop (n * j) xs)) 0 (ceil_div (length xs) n) k k [] below (omega arith))

-- equal counts of first elements
take-same : {X : Type 0} {m n : ℕ} (xs : List X) → m ≡ n → take m xs ≡ take n xs
take-same xs long = ap (λ (k : ℕ). take k xs) long

-- the first n elements, or as many as there are
take-few : {X : Type 0} (n : ℕ) (xs : List X) → take (min n (length xs)) xs ≡ take n xs
take-few zero xs = take-same {m = min 0 (length xs)} {n = 0} xs (omega arith)
take-few (suc n) [] = take-same {m = min (suc n) 0} {n = 0} [] (omega arith)
take-few (suc n) (x ∷ xs) =
    take-same {m = min (suc n) (suc (length xs))} {n = suc (min n (length xs))} (x ∷ xs) (omega arith) ∙ ap (λ (ys : List _). x ∷ ys) (take-few n xs)

-- the part of a list that a row of numbers names
pub row-part : {X : Type 0} (n a m : ℕ) (xs : List X) → m ≡ min n (length xs - a) → take m (drop a xs) ≡ take n (drop a xs)
row-part n a m xs count = take-same {m = m} {n = min n (length (drop a xs))} (drop a xs) (omega (arith, length-drop a xs)) ∙ take-few n (drop a xs)

-- a row that is not empty begins with its first number
pub row-first : (a m : ℕ) → 0 < m → slice_index (range_with_len a m) 0 ≡ a
row-first a zero some = absurd (omega arith)
row-first a (suc m) some = refl

-- a row has its length
pub row-length : (a m : ℕ) → length (range_with_len a m) ≡ m
row-length a m = length-range_with_len a m

-- the part of a list that a row names
pub row-named : {X : Type 0} (n a m : ℕ) (xs : List X) → m ≡ min n (length xs - a) →
    take (length (range_with_len a m)) (drop (slice_index (range_with_len a m) 0) xs) ≡ take n (drop a xs)
row-named n a zero xs count = row-part n a zero xs count
row-named n a (suc m) xs count = ap (λ (k : ℕ). take k (drop a xs)) (row-length a (suc m)) ∙ row-part n a (suc m) xs count

-- an element, and those after it
drop-read : {X : Type 0} (xs : List X) (a : ℕ) (d : X) → a < length xs → drop a xs ≡ unwrap_or (slice_get xs a) d ∷ drop (a + 1) xs
drop-read [] a d below = absurd (omega arith)
drop-read (x ∷ xs) zero d below = refl
drop-read (x ∷ xs) (suc a) d below =
    drop-read xs a d (omega arith) ∙ ap (λ (k : ℕ). unwrap_or (slice_get xs a) d ∷ drop k (x ∷ xs)) {x = suc (a + 1)} {y = suc a + 1} (omega arith)

-- f of each element that a row names
pub row-each : {X Y : Type 0} (f : X → Y) (d : X) (xs : List X) (a m : ℕ) → m ≤ length xs - a →
    map (λ i. f (unwrap_or (slice_get xs i) d)) (range_with_len a m) ≡ map f (take m (drop a xs))
row-each f d xs a zero few = refl
row-each f d xs a (suc m) few =
    ap (λ (ys : List _). f (unwrap_or (slice_get xs a) d) ∷ ys) (row-each f d xs (a + 1) m (omega arith))
    ∙ ap (λ (ys : List _). map f (take (suc m) ys)) (sym (drop-read xs a d (omega arith)))
