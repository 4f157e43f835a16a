-- What a withdrawal of touched blocks leaves: newest copies, keys, live copies.
use Rattle.std.proofs.Common.{◌≡◌, inl, inr, ℕ, true, false, not, ◌==◌, List, [], ◌∷◌, map, drop, arith, refl, sym, ap, subst, ◌∙◌, Some, None, true≢false, eq-eqb}
use Rattle.std.specs.List.{filter, slice_get}
use Rattle.std.specs.Option.{option_map}
use Rattle.std.proofs.lemmas.Bool.{and_left, cases_Bool, cases_eq, eqb-true, or_parts}
use Rattle.std.proofs.lemmas.Bool.Decides.{nat_tests}
use Rattle.std.proofs.lemmas.List.{drop-map}
use Rattle.std.proofs.lemmas.Option.{slice_get-map}
use Rattle.journal_model.specs.declared.entry.Entry.{Entry}
use Rattle.journal_model.proofs.ListElements.{option-known}
use Rattle.checkpoint.specs.declared.copies.QueuedCopy.{QueuedCopy}
use Rattle.checkpoint.specs.Copies.{newest_in, withdrawn}
use Rattle.checkpoint.specs.Pending.{is_touched}
use Rattle.checkpoint.specs.PendingView.{key_of}
use Rattle.checkpoint.specs.Steps.{AreDead, withdrawn_all}
use Rattle.checkpoint.proofs.Newest.{newest-withdrawn, newest-withdrawn_other}

-- a block without a live copy gets none
none-withdrawn : (a b : ℕ) (cs : List QueuedCopy) → newest_in cs b ≡ None → newest_in (map (withdrawn a) cs) b ≡ None
none-withdrawn a b cs none =
    elim (cases_eq b a) [
      | inl same ↦ subst (λ (x : ℕ). newest_in (map (withdrawn a) cs) x ≡ None) (sym same) (newest-withdrawn a cs)
      | inr other ↦ newest-withdrawn_other b a cs other ∙ none
    ]

none-withdrawn_all : (b : ℕ) (bs : List ℕ) (cs : List QueuedCopy) → newest_in cs b ≡ None → newest_in (withdrawn_all bs cs) b ≡ None
none-withdrawn_all b [] cs none = none
none-withdrawn_all b (a ∷ bs) cs none = none-withdrawn_all b bs (map (withdrawn a) cs) (none-withdrawn a b cs none)

-- a touched block has no live copy
pub newest-touched : (b : ℕ) (es : List (ℕ × Entry)) (cs : List QueuedCopy) → is_touched es b ≡ true → newest_in (withdrawn_all (map (λ e. e.0) es) cs) b ≡ None
newest-touched b [] cs touched = absurd cc
newest-touched b (e ∷ es) cs touched =
    elim (cases_eq b e.0) [
      | inl same ↦ none-withdrawn_all b (map (λ x. x.0) es) (map (withdrawn e.0) cs) (subst (λ (x : ℕ). newest_in (map (withdrawn e.0) cs) x ≡ None) (sym same) (newest-withdrawn e.0 cs))
      | inr other ↦
          let rest : is_touched es b ≡ true = grind (arith, nat_tests) in
          newest-touched b es (map (withdrawn e.0) cs) rest
    ]

-- an untouched block keeps its newest copy
pub newest-untouched : (b : ℕ) (es : List (ℕ × Entry)) (cs : List QueuedCopy) → is_touched es b ≡ false → newest_in (withdrawn_all (map (λ e. e.0) es) cs) b ≡ newest_in cs b
newest-untouched b [] cs untouched = refl
newest-untouched b (e ∷ es) cs untouched =
    let parts = or_parts (e.0 == b) (is_touched es b) untouched in
    let other : b ≡ e.0 → ⊥ = λ same. true≢false (sym (eq-eqb e.0 b (sym same)) ∙ parts.0) in
    newest-untouched b es (map (withdrawn e.0) cs) parts.1 ∙ newest-withdrawn_other b e.0 cs other

-- the keys stay
keys-withdrawn : (b : ℕ) (cs : List QueuedCopy) → map key_of (map (withdrawn b) cs) ≡ map key_of cs
keys-withdrawn b [] = refl
keys-withdrawn b (c ∷ cs) = ap (λ (ks : List (ℕ × ℕ)). key_of c ∷ ks) (keys-withdrawn b cs)

pub keys-withdrawn_all : (bs : List ℕ) (cs : List QueuedCopy) → map key_of (withdrawn_all bs cs) ≡ map key_of cs
keys-withdrawn_all [] cs = refl
keys-withdrawn_all (b ∷ bs) cs = keys-withdrawn_all bs (map (withdrawn b) cs) ∙ keys-withdrawn b cs

-- a withdrawal and a drop commute
pub drop-withdrawn_all : (k : ℕ) (bs : List ℕ) (cs : List QueuedCopy) → drop k (withdrawn_all bs cs) ≡ withdrawn_all bs (drop k cs)
drop-withdrawn_all k [] cs = refl
drop-withdrawn_all k (b ∷ bs) cs = drop-withdrawn_all k bs (map (withdrawn b) cs) ∙ ap (withdrawn_all bs) (drop-map (withdrawn b) k cs)

-- the live copies of other blocks
live-withdrawn : (b : ℕ) (cs : List QueuedCopy) → map key_of (filter (λ c. c.live) (map (withdrawn b) cs)) ≡ filter (λ k. not (k.1 == b)) (map key_of (filter (λ c. c.live) cs))
live-withdrawn b [] = refl
live-withdrawn b (c ∷ cs) =
    elim (cases_Bool c.live) [
      | inl live ↦
          elim (cases_Bool (c.block == b)) [
            | inl same ↦ rw (live, same) (live-withdrawn b cs)
            | inr other ↦ rw (live, other) (ap (λ (ks : List (ℕ × ℕ)). key_of c ∷ ks) (live-withdrawn b cs))
          ]
      | inr dead ↦ rw dead (live-withdrawn b cs)
    ]

-- without entries every key passes
filter-none : (ks : List (ℕ × ℕ)) → ks ≡ filter (λ k. not (is_touched [] k.1)) ks
filter-none [] = refl
filter-none (k ∷ ks) = ap (λ (ls : List (ℕ × ℕ)). k ∷ ls) (filter-none ks)

-- the keys left by one entry and then the others
filter-touched : (e : ℕ × Entry) (es : List (ℕ × Entry)) (ks : List (ℕ × ℕ)) →
    filter (λ k. not (is_touched es k.1)) (filter (λ k. not (k.1 == e.0)) ks) ≡ filter (λ k. not (is_touched (e ∷ es) k.1)) ks
filter-touched e es [] = refl
filter-touched e es (k ∷ ks) =
    elim (cases_Bool (k.1 == e.0)) [
      | inl same ↦
          let flipped : (e.0 == k.1) ≡ true = eq-eqb e.0 k.1 (sym (eqb-true k.1 e.0 same)) in
          rw (same, flipped) (filter-touched e es ks)
      | inr other ↦
          let flipped : (e.0 == k.1) ≡ false = grind (arith, nat_tests) in
          elim (cases_Bool (is_touched es k.1)) [
            | inl touched ↦ rw (other, flipped, touched) (filter-touched e es ks)
            | inr untouched ↦ rw (other, flipped, untouched) (ap (λ (ls : List (ℕ × ℕ)). k ∷ ls) (filter-touched e es ks))
          ]
    ]

-- the live copies of untouched blocks
pub live-withdrawn_all : (es : List (ℕ × Entry)) (cs : List QueuedCopy) →
    map key_of (filter (λ c. c.live) (withdrawn_all (map (λ e. e.0) es) cs)) ≡ filter (λ k. not (is_touched es k.1)) (map key_of (filter (λ c. c.live) cs))
live-withdrawn_all [] cs = filter-none (map key_of (filter (λ c. c.live) cs))
live-withdrawn_all (e ∷ es) cs =
    live-withdrawn_all es (map (withdrawn e.0) cs)
    ∙ ap (filter (λ (k : ℕ × ℕ). not (is_touched es k.1))) (live-withdrawn e.0 cs)
    ∙ filter-touched e es (map key_of (filter (λ c. c.live) cs))

-- dead copies stay so
dead-withdrawn : (b i j : ℕ) (cs : List QueuedCopy) → AreDead cs i j → AreDead (map (withdrawn b) cs) i j
dead-withdrawn b i j cs old =
    record {
      dead = λ k c after below here.
          elim (option-known (slice_get cs k)) [
            | inl none ↦ let e : None ≡ Some c = ap (option_map (withdrawn b)) (sym none) ∙ sym (slice_get-map (withdrawn b) cs k) ∙ here in absurd cc
            | inr (d, some) ↦
                let e : Some (withdrawn b d) ≡ Some c = ap (option_map (withdrawn b)) (sym some) ∙ sym (slice_get-map (withdrawn b) cs k) ∙ here in
                let one : withdrawn b d ≡ c = cc in
                sym (ap (λ (x : QueuedCopy). x.live) one) ∙ and_left d.live (not (d.block == b)) (old.dead k d after below some)
          ];
    }

pub dead-withdrawn_all : (bs : List ℕ) (i j : ℕ) (cs : List QueuedCopy) → AreDead cs i j → AreDead (withdrawn_all bs cs) i j
dead-withdrawn_all [] i j cs old = old
dead-withdrawn_all (b ∷ bs) i j cs old = dead-withdrawn_all bs i j (map (withdrawn b) cs) (dead-withdrawn b i j cs old)
