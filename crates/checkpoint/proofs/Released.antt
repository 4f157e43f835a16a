-- A release keeps the copies of higher transactions, which follow the first ones.
use Rattle.std.proofs.Common.{◌≡◌, inl, inr, ℕ, zero, suc, ◌+◌, ◌-◌, ◌<◌, ◌≤◌, Bool, true, false, cond, List, [], ◌∷◌, length, map, drop, arith, refl, sym, ap, ◌∙◌, Some, None, nat_lt}
use Rattle.std.specs.List.{filter, slice_get}
use Rattle.std.proofs.lemmas.Bool.{cases_Bool, le-ltb, lt-ltb}
use Rattle.std.proofs.lemmas.List.{drop-drop}
use Rattle.std.proofs.lemmas.Option.{slice_get_within}
use Rattle.checkpoint.specs.declared.copies.QueuedCopy.{QueuedCopy}
use Rattle.checkpoint.specs.Copies.{IsSingle, is_live_of, newest_in}
use Rattle.checkpoint.specs.Pending.{IsOrdered, unreleased}
use Rattle.checkpoint.specs.PendingView.{key_of}
use Rattle.checkpoint.specs.Steps.{AreDead, Releases}
use Rattle.checkpoint.proofs.Newest.{live-block}
use Rattle.checkpoint.proofs.Ordered.{tids-rise}

-- a place within a list has an element
pub get-within : {X : Type 0} (xs : List X) (k : ℕ) → k < length xs → (x : X) × (slice_get xs k ≡ Some x)
get-within [] k below = absurd (omega arith)
get-within (x ∷ xs) zero below = (x, refl)
get-within (x ∷ xs) (suc k) below = get-within xs k (omega arith)

-- an element after the first ones
pub get-drop : {X : Type 0} (n : ℕ) (xs : List X) (k : ℕ) → slice_get (drop n xs) k ≡ slice_get xs (n + k)
get-drop zero xs k = ap (slice_get xs) (omega arith)
get-drop (suc n) [] k = refl
get-drop (suc n) (x ∷ xs) k = get-drop n xs k ∙ ap (slice_get (x ∷ xs)) {x = suc (n + k)} {y = suc n + k} (omega arith)

-- the first n copies are of transactions up to the bound, the others above
pub record Splits (bound n : ℕ) (cs : List QueuedCopy) : Type 0 where
  pub below : (k : ℕ) (c : QueuedCopy) → k < n → slice_get cs k ≡ Some c → c.tid ≤ bound
  pub above : (k : ℕ) (c : QueuedCopy) → n ≤ k → slice_get cs k ≡ Some c → bound < c.tid

-- the first higher transaction splits copies in order
pub splits : (bound n : ℕ) (cs : List QueuedCopy) → IsOrdered (map key_of cs) → Releases bound cs n → Splits bound n cs
splits bound n cs ordered r =
    record {
      below = r.below;
      above = λ k c behind here.
          let within = slice_get_within cs k c here in
          let first = get-within cs n (omega arith) in
          omega (arith, r.above first.0 first.1, tids-rise cs n k first.0 c ordered behind first.1 here);
    }

-- the same without the first copies
splits-drop : (bound n k : ℕ) (cs : List QueuedCopy) → Splits bound n cs → Splits bound (n - k) (drop k cs)
splits-drop bound n k cs s =
    record {
      below = λ j c before here. s.below (k + j) c (omega arith) (sym (get-drop k cs j) ∙ here);
      above = λ j c behind here. s.above (k + j) c (omega arith) (sym (get-drop k cs j) ∙ here);
    }

-- the copies of higher transactions
abbrev pub above : ℕ → List QueuedCopy → List QueuedCopy
above bound cs = filter (λ c. nat_lt bound c.tid) cs

-- they are those after the first n
pub above-drop : (bound n : ℕ) (cs : List QueuedCopy) → Splits bound n cs → above bound cs ≡ drop n cs
above-drop bound zero [] s = refl
above-drop bound (suc n) [] s = refl
above-drop bound zero (c ∷ cs) s =
    let higher : nat_lt bound c.tid ≡ true = lt-ltb bound c.tid (s.above 0 c (omega arith) refl) in
    let rest : Splits bound 0 cs = record { below = λ k d before here. absurd (omega arith); above = λ k d behind here. s.above (suc k) d (omega arith) here } in
    rw higher (ap (λ (ds : List QueuedCopy). c ∷ ds) (above-drop bound zero cs rest))
above-drop bound (suc n) (c ∷ cs) s =
    let lower : nat_lt bound c.tid ≡ false = le-ltb bound c.tid (s.below 0 c (omega arith) refl) in
    let rest : Splits bound n cs = record { below = λ k d before here. s.below (suc k) d (omega arith) here; above = λ k d behind here. s.above (suc k) d (omega arith) here } in
    rw lower (above-drop bound n cs rest)

-- from a place on they are those from the place that it becomes
pub above-drop_from : (bound n k : ℕ) (cs : List QueuedCopy) → Splits bound n cs → above bound (drop k cs) ≡ drop (k - n) (drop n cs)
above-drop_from bound n k cs s =
    let moved : k + (n - k) ≡ n + (k - n) = omega arith in
    above-drop bound (n - k) (drop k cs) (splits-drop bound n k cs s)
    ∙ drop-drop (n - k) k cs
    ∙ ap (λ (m : ℕ). drop m cs) moved
    ∙ sym (drop-drop (k - n) n cs)

-- the keys of copies of higher transactions
pub keys-above : (bound : ℕ) (cs : List QueuedCopy) → map key_of (above bound cs) ≡ filter (λ k. nat_lt bound k.0) (map key_of cs)
keys-above bound [] = refl
keys-above bound (c ∷ cs) =
    elim (cases_Bool (nat_lt bound c.tid)) [
      | inl higher ↦ rw higher (ap (λ (ks : List (ℕ × ℕ)). key_of c ∷ ks) (keys-above bound cs))
      | inr lower ↦ rw lower (keys-above bound cs)
    ]

-- a filter at its first element
pub filter-yes : {X : Type 0} (p : X → Bool) (x : X) (xs : List X) → p x ≡ true → filter p (x ∷ xs) ≡ x ∷ filter p xs
filter-yes p x xs passes = ap (λ (b : Bool). cond b (x ∷ filter p xs) (filter p xs)) passes

pub filter-no : {X : Type 0} (p : X → Bool) (x : X) (xs : List X) → p x ≡ false → filter p (x ∷ xs) ≡ filter p xs
filter-no p x xs fails = ap (λ (b : Bool). cond b (x ∷ filter p xs) (filter p xs)) fails

-- filters commute
pub filters-swap : {X : Type 0} (p q : X → Bool) (xs : List X) → filter p (filter q xs) ≡ filter q (filter p xs)
filters-swap p q [] = refl
filters-swap p q (x ∷ xs) =
    elim (cases_Bool (q x)) [
      | inl passes ↦
          elim (cases_Bool (p x)) [
            | inl too ↦
                ap (filter p) (filter-yes q x xs passes) ∙ filter-yes p x (filter q xs) too ∙ ap (λ (ys : List _). x ∷ ys) (filters-swap p q xs)
                ∙ sym (ap (filter q) (filter-yes p x xs too) ∙ filter-yes q x (filter p xs) passes)
            | inr not_too ↦
                ap (filter p) (filter-yes q x xs passes) ∙ filter-no p x (filter q xs) not_too ∙ filters-swap p q xs
                ∙ sym (ap (filter q) (filter-no p x xs not_too))
          ]
      | inr fails ↦
          elim (cases_Bool (p x)) [
            | inl too ↦
                ap (filter p) (filter-no q x xs fails) ∙ filters-swap p q xs
                ∙ sym (ap (filter q) (filter-yes p x xs too) ∙ filter-no q x (filter p xs) fails)
            | inr not_too ↦
                ap (filter p) (filter-no q x xs fails) ∙ filters-swap p q xs ∙ sym (ap (filter q) (filter-no p x xs not_too))
          ]
    ]

-- a release keeps the newest copies of higher transactions, and no other
pub newest-above : (bound b : ℕ) (cs : List QueuedCopy) → IsSingle cs → newest_in (above bound cs) b ≡ unreleased bound (newest_in cs b)
newest-above bound b [] single = refl
newest-above bound b (c ∷ cs) single =
    elim (cases_Bool (nat_lt bound c.tid)) [
      | inl higher ↦
          elim (cases_Bool (is_live_of b c)) [
            | inl live ↦ rw (higher, live, higher) refl
            | inr other ↦ rw (higher, other) (newest-above bound b cs single.1)
          ]
      | inr lower ↦
          elim (cases_Bool (is_live_of b c)) [
            | inl live ↦
                let p = live-block b c live in
                let none : newest_in cs b ≡ None = ap (newest_in cs) (sym p.1) ∙ single.0 p.0 in
                rw (lower, live, lower) (newest-above bound b cs single.1 ∙ ap (unreleased bound) none)
            | inr other ↦ rw (lower, other) (newest-above bound b cs single.1)
          ]
    ]

-- dead copies stay so without the first ones
pub dead-drop : (n i j : ℕ) (cs : List QueuedCopy) → AreDead cs i j → AreDead (drop n cs) (i - n) (j - n)
dead-drop n i j cs s = record { dead = λ k c after below here. s.dead (n + k) c (omega arith) (omega arith) (sym (get-drop n cs k) ∙ here) }
