-- Keys in order: joined, without the first ones, and of copies by block.
use Rattle.std.proofs.Common.{◌≡◌, inl, inr, ℕ, zero, suc, ◌<◌, ◌≤◌, false, List, [], ◌∷◌, ◌++◌, map, drop, arith, refl, ap, subst, Some, nat_eq}
use Rattle.std.specs.List.{AllByRecursion, IsDistinct, filter, slice_get}
use Rattle.std.specs.List.Sorted.{IsNonDecreasingBy}
use Rattle.std.proofs.lemmas.Bool.{cases_Bool, eqb-false}
use Rattle.std.proofs.lemmas.List.Sorted.{IsNonDecreasingBy-drop}
use Rattle.std.proofs.lemmas.Map.Keys.{IsDistinct-head, IsDistinct-tail}
use Rattle.std.proofs.lemmas.Option.{get_or_from_slice_get, slice_get_within}
use Rattle.journal_model.proofs.ListElements.{each-append}
use Rattle.checkpoint.specs.declared.copies.QueuedCopy.{QueuedCopy}
use Rattle.checkpoint.specs.Pending.{Before, IsOrdered}
use Rattle.checkpoint.specs.PendingView.{key_of}

-- a key of a lower transaction stands before each of a higher one
each-behind : (tid : ℕ) (k : ℕ × ℕ) (ls : List (ℕ × ℕ)) → k.0 < tid → AllByRecursion (λ l. l.0 ≡ tid) ls → AllByRecursion (Before k) ls
each-behind tid k [] lower same = tt
each-behind tid k (l ∷ ls) lower same = (inl (omega (arith, same.0)), each-behind tid k ls lower same.1)

-- joined lists are in order if the first is of lower transactions
pub ordered-append : (tid : ℕ) (ks ls : List (ℕ × ℕ)) → IsOrdered ks → IsOrdered ls → AllByRecursion (λ k. k.0 < tid) ks → AllByRecursion (λ l. l.0 ≡ tid) ls → IsOrdered (ks ++ ls)
ordered-append tid [] ls ordered behind lower same = behind
ordered-append tid (k ∷ ks) ls ordered behind lower same =
    (each-append (Before k) ks ls ordered.0 (each-behind tid k ls lower.0 same), ordered-append tid ks ls ordered.1 behind lower.1 same)

-- keys in order stay so without the first ones
pub ordered-drop : (n : ℕ) (cs : List QueuedCopy) → IsOrdered (map key_of cs) → IsOrdered (map key_of (drop n cs))
ordered-drop zero cs ordered = ordered
ordered-drop (suc n) [] ordered = tt
ordered-drop (suc n) (c ∷ cs) ordered = ordered-drop n cs ordered.1

-- a key before all is before those of the live copies
each-live : (k : ℕ × ℕ) (cs : List QueuedCopy) → AllByRecursion (Before k) (map key_of cs) →
    AllByRecursion (Before k) (map key_of (filter (λ c. c.live) cs))
each-live k [] before = tt
each-live k (c ∷ cs) before =
    elim (cases_Bool c.live) [
      | inl live ↦ rw live (before.0, each-live k cs before.1)
      | inr dead ↦ rw dead (each-live k cs before.1)
    ]

-- keys in order stay so without those of dead copies
pub ordered-live : (cs : List QueuedCopy) → IsOrdered (map key_of cs) → IsOrdered (map key_of (filter (λ c. c.live) cs))
ordered-live [] ordered = tt
ordered-live (c ∷ cs) ordered =
    elim (cases_Bool c.live) [
      | inl live ↦ rw live (each-live (key_of c) cs ordered.0, ordered-live cs ordered.1)
      | inr dead ↦ rw dead (ordered-live cs ordered.1)
    ]

-- a later copy is of no lower transaction
tid-behind : (c : QueuedCopy) (cs : List QueuedCopy) (j : ℕ) (d : QueuedCopy) → AllByRecursion (Before (key_of c)) (map key_of cs) → slice_get cs j ≡ Some d → c.tid ≤ d.tid
tid-behind c [] j d all there = absurd cc
tid-behind c (e ∷ cs) zero d all there =
    let same : e.tid ≡ d.tid = let one : e ≡ d = cc in ap (λ (x : QueuedCopy). x.tid) one in
    elim all.0 [
      | inl lower ↦ omega (arith, lower, same)
      | inr equal ↦ omega (arith, equal.0, same)
    ]
tid-behind c (e ∷ cs) (suc j) d all there = tid-behind c cs j d all.1 there

-- transactions do not fall along copies in order
pub tids-rise : (cs : List QueuedCopy) (i j : ℕ) (c d : QueuedCopy) → IsOrdered (map key_of cs) → i ≤ j → slice_get cs i ≡ Some c → slice_get cs j ≡ Some d → c.tid ≤ d.tid
tids-rise [] i j c d ordered le here there = absurd cc
tids-rise (x ∷ cs) zero zero c d ordered le here there =
    let one : c ≡ d = cc in
    let same = ap (λ (e : QueuedCopy). e.tid) one in
    omega (arith, same)
tids-rise (x ∷ cs) zero (suc j) c d ordered le here there =
    let one : x ≡ c = cc in
    let same = ap (λ (e : QueuedCopy). e.tid) one in
    omega (arith, same, tid-behind x cs j d ordered.0 there)
tids-rise (x ∷ cs) (suc i) zero c d ordered le here there = absurd (omega arith)
tids-rise (x ∷ cs) (suc i) (suc j) c d ordered le here there = tids-rise cs i j c d ordered.1 (omega arith) here there

-- the first of sorted distinct blocks is before the others
each-above : (tid b : ℕ) (ps : List (ℕ × ℕ)) → AllByRecursion (λ y. nat_eq b y ≡ false) (map (λ p. p.0) ps) → ((j : ℕ) (p : ℕ × ℕ) → slice_get ps j ≡ Some p → b ≤ p.0) →
    AllByRecursion (Before (tid, b)) (map {B = ℕ × ℕ} (λ p. (tid, p.0)) ps)
each-above tid b [] apart rises = tt
each-above tid b (p ∷ ps) apart rises =
    let above : b ≤ p.0 = rises 0 p refl in
    let other : b ≡ p.0 → ⊥ = eqb-false b p.0 apart.0 in
    (inr (refl, omega arith), each-above tid b ps apart.1 (λ j q there. rises (suc j) q there))

-- sorted distinct blocks of one transaction have keys in order
pub ordered-listed : (tid : ℕ) (ps : List (ℕ × ℕ)) → IsNonDecreasingBy (λ p. p.0) ps → IsDistinct nat_eq (map (λ p. p.0) ps) → IsOrdered (map {B = ℕ × ℕ} (λ p. (tid, p.0)) ps)
ordered-listed tid [] sorted distinct = tt
ordered-listed tid (p ∷ ps) sorted distinct = (
  each-above tid p.0 ps (IsDistinct-head nat_eq p.0 (map (λ q. q.0) ps) distinct)
      (λ j q there.
      let below = slice_get_within ps j q there in
      let rises = sorted 0 (suc j) q (omega arith) (omega arith) in
      let here = get_or_from_slice_get ps j q q there in
      subst (λ (x : ℕ × ℕ). p.0 ≤ x.0) here rises),
  ordered-listed tid ps (IsNonDecreasingBy-drop (λ (q : ℕ × ℕ). q.0) 1 (p ∷ ps) sorted) (IsDistinct-tail nat_eq p.0 (map (λ q. q.0) ps) distinct),
)

-- the keys of added copies are of their transaction
pub listed-tid : (tid : ℕ) (ps : List (ℕ × ℕ)) → AllByRecursion (λ l. l.0 ≡ tid) (map {B = ℕ × ℕ} (λ p. (tid, p.0)) ps)
listed-tid tid [] = tt
listed-tid tid (p ∷ ps) = (refl, listed-tid tid ps)
