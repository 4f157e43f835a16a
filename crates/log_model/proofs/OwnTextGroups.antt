-- The groups of a list: their number, their elements, and their join.
use Rattle.std.proofs.Common.{ap, sym, ◌∙◌, arith, mul-zero, le-div_iff_mul-le, length-take, length-drop, drop-drop, take_all, take-add}
use Rattle.std.specs.Prelude.{◌≡◌, ℕ, zero, suc, ◌+◌, ◌-◌, ◌*◌, ◌<◌, ◌≤◌, List, ◌++◌, length, take, drop, map, All}
use Rattle.std.specs.List.{AllByRecursion, flat_map, range_with_len}
use Rattle.std.proofs.lemmas.List.Elements.{All-take, All-drop}
use Rattle.std.proofs.lemmas.List.FromFn.{length-map-range_with_len}
use Rattle.log_model.specs.OwnText.{ceil_div, groups}

-- a group: at least one element and at most n, each with P
pub record IsGroup {X : Type 0} (P : X → Type 0) (n : ℕ) (group : List X) : Type 0 where
  pub some : 0 < length group
  pub most : length group ≤ n
  pub each : All P group

-- enough groups are made for all c elements
enough_groups : (c n : ℕ) → 0 < n → c ≤ n * ceil_div c n
enough_groups c n positive = omega arith

-- no group begins after the last element
pub begins_within : (c n k : ℕ) → 0 < n → k < ceil_div c n → n * k < c
begins_within c n k positive within =
    let most : suc k * n ≤ c + n - 1 = (le-div_iff_mul-le positive).0 within in omega arith

-- the rest after one more group
drop_next : {X : Type 0} (n a : ℕ) (xs : List X) → drop (n * (a + 1)) xs ≡ drop n (drop (n * a) xs)
drop_next n a xs = ap (λ k. drop k xs) (omega arith) ∙ sym (drop-drop n (n * a) xs)

-- m groups from the one at a on, joined
joined_from : {X : Type 0} (n a m : ℕ) (xs : List X) →
    flat_map (λ x. x) (map (λ k. take n (drop (n * k) xs)) (range_with_len a m)) ≡ take (n * m) (drop (n * a) xs)
joined_from n a zero xs = rw mul-zero
joined_from n a (suc m) xs =
    ap (λ ys. take n (drop (n * a) xs) ++ ys) (joined_from n (a + 1) m xs ∙ ap (λ ys. take (n * m) ys) (drop_next n a xs))
    ∙ sym (take-add n (n * m) (drop (n * a) xs)) ∙ ap (λ k. take k (drop (n * a) xs)) (omega arith)

-- group k, if it begins before the end
group_at : {X : Type 0} (P : X → Type 0) (n k : ℕ) (xs : List X) →
    0 < n → All P xs → n * k < length xs →
    IsGroup P n (take n (drop (n * k) xs))
group_at P n k xs positive each within =
    record {
      some = simp (length-take, length-drop) (omega arith);
      most = simp (length-take, length-drop) (omega arith);
      each = All-take P n (drop (n * k) xs) (All-drop P (n * k) xs each);
    }

-- each of the m groups from the one at a on
each_from : {X : Type 0} (P : X → Type 0) (n a m : ℕ) (xs : List X) →
    0 < n → All P xs → ((k : ℕ) → k < a + m → n * k < length xs) →
    AllByRecursion (IsGroup P n) (map (λ k. take n (drop (n * k) xs)) (range_with_len a m))
each_from P n a zero xs positive each within = tt
each_from P n a (suc m) xs positive each within = (
  group_at P n a xs positive each (within a (omega arith)),
  each_from P n (a + 1) m xs positive each (λ k h. within k (omega arith)),
)

-- the groups of a list, joined, are the list
pub groups_joined : {X : Type 0} (n : ℕ) (xs : List X) → 0 < n → flat_map (λ x. x) (groups n xs) ≡ xs
unfolding groups
groups_joined n xs positive =
    joined_from n 0 (ceil_div (length xs) n) xs
    ∙ ap (λ k. take (n * ceil_div (length xs) n) (drop k xs)) (mul-zero n)
    ∙ take_all (n * ceil_div (length xs) n) xs (enough_groups (length xs) n positive)

-- how many groups there are
pub length-groups : {X : Type 0} (n : ℕ) (xs : List X) → length (groups n xs) ≡ ceil_div (length xs) n
unfolding groups
length-groups n xs = length-map-range_with_len _ _ _

-- each group has 1 to n elements, with the facts of the list's
pub groups_are : {X : Type 0} (P : X → Type 0) (n : ℕ) (xs : List X) →
    0 < n → All P xs →
    AllByRecursion (IsGroup P n) (groups n xs)
unfolding groups
groups_are P n xs positive each = each_from P n 0 (ceil_div (length xs) n) xs positive each (λ k h. begins_within (length xs) n k positive (omega arith))
