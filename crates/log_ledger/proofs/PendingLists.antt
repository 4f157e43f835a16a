-- Elements of lists by place, filters, ordered lists, touched blocks, and keys of copies.
use Rattle.std.proofs.Common.{refl, sym, ap, subst, arith, inl, inr}
use Rattle.std.specs.Prelude.{◌≡◌, ◌⊎◌, ℕ, zero, suc, ◌≤◌, ◌==◌, Bool, true, false, cond, List, [], ◌∷◌, length, map, drop, filter, Some, None, slice_get, Contains}
use Rattle.std.specs.List.{AllByRecursion}
use Rattle.std.proofs.lemmas.Bool.{cases_eq}
use Rattle.std.proofs.lemmas.Bool.Decides.{nat_tests}
use Rattle.std.proofs.lemmas.List.Elements.{All-contains, All-from_recursion, filter_passes}
use Rattle.std.proofs.lemmas.Option.{none-some, same_Some}
use Rattle.journal_model.specs.declared.entry.Entry.{Entry}
use Rattle.journal_model.specs.declared.entry.Entry.TheVariants.{Copy, Revoke}
use Rattle.journal_model.specs.Transaction.{copied}
use Rattle.journal_model.proofs.ListElements.{contains-behind, contains-cases, contains-first, contains-none}
use Rattle.checkpoint.specs.Pending.{Before, IsOrdered, is_touched}

-- what stands at a place is an element
pub contains-at : {X : Type 0} (xs : List X) (k : ℕ) (x : X) → slice_get xs k ≡ Some x → Contains xs x
contains-at [] k x stands = absurd (none-some x stands)
contains-at (y ∷ xs) zero x stands = contains-first y xs x (same_Some y x stands)
contains-at (y ∷ xs) (suc k) x stands = contains-behind y xs x (contains-at xs k x stands)

-- an element stands at a place
pub place-of : {X : Type 0} (xs : List X) (x : X) → Contains xs x → (k : ℕ) × (slice_get xs k ≡ Some x)
place-of [] x has = absurd (contains-none x has)
place-of (y ∷ xs) x has =
    elim (contains-cases y xs x has) [
      | inl same ↦ (0, ap Some same)
      | inr behind ↦ let found = place-of xs x behind in (suc found.0, found.1)
    ]

-- what a filter keeps passes its test
pub kept-passes : {X : Type 0} (test : X → Bool) (xs : List X) (x : X) → Contains (filter test xs) x → test x ≡ true
kept-passes test xs x has = All-contains (λ y. test y ≡ true) (filter test xs) x (filter_passes test xs) has

-- a filter that each passes keeps as many
pub all-kept : {X : Type 0} (test : X → Bool) (xs : List X) → ((x : X) → Contains xs x → test x ≡ true) → length (filter test xs) ≡ length xs
all-kept test [] each = refl
all-kept test (x ∷ xs) each =
    let here : test x ≡ true = each x (contains-first x xs x refl) in
    let rest : length (filter test xs) ≡ length xs = all-kept test xs (λ y has. each y (contains-behind x xs y has)) in
    rw here (ap suc rest)

-- a filter that none passes keeps none
pub none-kept : {X : Type 0} (test : X → Bool) (xs : List X) → ((x : X) → Contains xs x → test x ≡ false) → length (filter test xs) ≡ 0
none-kept test [] each = refl
none-kept test (x ∷ xs) each =
    let here : test x ≡ false = each x (contains-first x xs x refl) in
    rw here (none-kept test xs (λ y has. each y (contains-behind x xs y has)))

-- a filter keeps no more than there are
pub fewer-kept : {X : Type 0} (test : X → Bool) (xs : List X) → length (filter test xs) ≤ length xs
fewer-kept test [] = omega arith
fewer-kept test (x ∷ xs) =
    let rest : length (filter test xs) ≤ length xs = fewer-kept test xs in
    elim (test x) as (λ b. length (cond b (x ∷ filter test xs) (filter test xs)) ≤ length (x ∷ xs)) [
      | true ↦ omega arith
      | false ↦ omega arith
    ]

-- a filter keeps no more after another filter
pub fewer-twice : {X : Type 0} (test other : X → Bool) (xs : List X) → length (filter test (filter other xs)) ≤ length (filter test xs)
fewer-twice test other [] = omega arith
fewer-twice test other (x ∷ xs) =
    let rest : length (filter test (filter other xs)) ≤ length (filter test xs) = fewer-twice test other xs in
    elim (other x) as (λ b. length (filter test (cond b (x ∷ filter other xs) (filter other xs))) ≤ length (filter test (x ∷ xs))) [
      | true ↦
          elim (test x) as (λ b. length (cond b (x ∷ filter test (filter other xs)) (filter test (filter other xs)))
          ≤ length (cond b (x ∷ filter test xs) (filter test xs))) [
            | true ↦ omega arith
            | false ↦ omega arith
          ]
      | false ↦
          elim (test x) as (λ b. length (filter test (filter other xs)) ≤ length (cond b (x ∷ filter test xs) (filter test xs))) [
            | true ↦ omega arith
            | false ↦ omega arith
          ]
    ]

-- a fact of each element, by recursion
pub each-recursion : {X : Type 0} (P : X → Type 0) (xs : List X) → ((x : X) → Contains xs x → P x) → AllByRecursion P xs
each-recursion P [] each = tt
each-recursion P (x ∷ xs) each = (each x (contains-first x xs x refl), each-recursion P xs (λ y has. each y (contains-behind x xs y has)))

-- a list with a first element begins with it
pub begins-first : {X : Type 0} (xs : List X) (x : X) → slice_get xs 0 ≡ Some x → xs ≡ x ∷ drop 1 xs
begins-first [] x stands = absurd (none-some x stands)
begins-first (y ∷ xs) x stands = ap (λ z. z ∷ xs) (same_Some y x stands)

-- a list without a first element is empty
pub empty-first : {X : Type 0} (xs : List X) → slice_get xs 0 ≡ None → xs ≡ []
empty-first [] none = refl
empty-first (x ∷ xs) none = absurd (none-some x (sym none))

-- the first of an ordered list comes before the others
pub first-before : (x y : ℕ × ℕ) (xs : List (ℕ × ℕ)) → IsOrdered (x ∷ xs) → Contains xs y → Before x y
first-before x y xs order has = All-contains (Before x) xs y (All-from_recursion (Before x) xs order.0) has

-- the blocks of these entries
abbrev pub blocks_of : List (ℕ × Entry) → List ℕ
blocks_of entries = map (λ e. e.0) entries

-- a block has an entry, or none of them touches it
pub touch-cases : (entries : List (ℕ × Entry)) (b : ℕ) →
    ((k : ℕ) × (x : Entry) × (slice_get entries k ≡ Some (b, x))) ⊎ (Contains (blocks_of entries) b → ⊥)
touch-cases [] b = inr (contains-none b)
touch-cases ((c, x) ∷ entries) b =
    elim (cases_eq c b) [
      | inl same ↦ inl (0, x, ap (λ (n : ℕ). Some (n, x)) same)
      | inr other ↦
          elim (touch-cases entries b) [
            | inl found ↦ inl (suc found.0, found.1, found.2)
            | inr none ↦ inr (λ has. elim (contains-cases c (blocks_of entries) b has) [ inl same ↦ other same | inr behind ↦ none behind ])
          ]
    ]

-- then the test finds no touch
pub untouched : (entries : List (ℕ × Entry)) (b : ℕ) → (Contains (blocks_of entries) b → ⊥) → is_touched entries b ≡ false
untouched [] b none = refl
untouched ((c, x) ∷ entries) b none =
    elim (cases_eq c b) [
      | inl same ↦ absurd (none (contains-first c (blocks_of entries) b same))
      | inr other ↦
          let apart : (c == b) ≡ false = grind (arith, nat_tests) in
          let rest : is_touched entries b ≡ false = untouched entries b (λ has. none (contains-behind c (blocks_of entries) b has)) in
          rw apart rest
    ]

-- the keys of a transaction's copies
abbrev pub keys_of : ℕ → List (ℕ × List ℕ) → List (ℕ × ℕ)
keys_of tid copies = map {B = ℕ × ℕ} (λ c. (tid, c.0)) copies

-- these keys have its number
pub key-number : (tid t b : ℕ) (copies : List (ℕ × List ℕ)) → Contains (keys_of tid copies) (t, b) → t ≡ tid
key-number tid t b [] has = absurd (contains-none (t, b) has)
key-number tid t b (c ∷ copies) has =
    elim (contains-cases (tid, c.0) (keys_of tid copies) (t, b) has) [
      | inl same ↦ sym (ap (λ (x : ℕ × ℕ). x.0) same)
      | inr behind ↦ key-number tid t b copies behind
    ]

-- each copy has a key
pub key-there : (tid b k : ℕ) (v : List ℕ) (entries : List (ℕ × Entry)) → slice_get entries k ≡ Some (b, Copy v) →
    Contains (keys_of tid (copied entries)) (tid, b)
key-there tid b k v [] stands = absurd (none-some _ stands)
key-there tid b zero v (e ∷ entries) stands =
    let same : e ≡ (b, Copy v) = same_Some e (b, Copy v) stands in
    subst (λ (x : ℕ × Entry). Contains (keys_of tid (copied (x ∷ entries))) (tid, b)) (sym same)
    (contains-first (tid, b) (keys_of tid (copied entries)) (tid, b) refl)
key-there tid b (suc k) v ((c, Copy w) ∷ entries) stands =
    contains-behind (tid, c) (keys_of tid (copied entries)) (tid, b) (key-there tid b k v entries stands)
key-there tid b (suc k) v ((c, Revoke) ∷ entries) stands = key-there tid b k v entries stands
