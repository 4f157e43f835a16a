-- The copies among entries: their number, their places, and the newest of a block after them.
use Rattle.std.proofs.Common.{◌≡◌, inl, inr, ℕ, zero, suc, ◌+◌, true, false, ◌==◌, List, [], ◌∷◌, length, map, take, arith, refl, sym, ap, ap₂, subst, ◌∙◌, Some, None, nat_eq, true≢false, eq-eqb}
use Rattle.std.specs.List.{AllByRecursion, Contains, IsDistinct, slice_get}
use Rattle.std.proofs.lemmas.Bool.{ne_eqb, or_left, or_right}
use Rattle.std.proofs.lemmas.Map.Keys.{IsDistinct-cons, IsDistinct-head, IsDistinct-tail}
use Rattle.std.proofs.lemmas.Option.{slice_get-get_or}
use Rattle.journal_model.specs.declared.entry.Entry.{Entry}
use Rattle.journal_model.specs.declared.entry.Entry.TheVariants.{Copy, Revoke}
use Rattle.journal_model.specs.Transaction.{copied}
use Rattle.journal_model.proofs.ListElements.{contains-behind, contains-cases, contains-first, contains-none}
use Rattle.checkpoint.specs.Copies.{newest_in}
use Rattle.checkpoint.specs.Pending.{is_touched}
use Rattle.checkpoint.specs.Steps.{fresh, places_of}

-- there is a place for each copy
pub length-places : (k : ℕ) (es : List (ℕ × Entry)) → length (places_of k es) ≡ length (copied es)
length-places k [] = refl
length-places k ((b, Copy v) ∷ es) = ap suc (length-places (k + 1) es)
length-places k ((b, Revoke) ∷ es) = length-places (k + 1) es

-- the places are of the copies' blocks
pub keys-places : (tid k : ℕ) (es : List (ℕ × Entry)) → map {B = ℕ × ℕ} (λ p. (tid, p.0)) (places_of k es) ≡ map {B = ℕ × ℕ} (λ c. (tid, c.0)) (copied es)
keys-places tid k [] = refl
keys-places tid k ((b, Copy v) ∷ es) = ap (λ (ks : List (ℕ × ℕ)). (tid, b) ∷ ks) (keys-places tid (k + 1) es)
keys-places tid k ((b, Revoke) ∷ es) = keys-places tid (k + 1) es

-- a copy has its place
pub place-of_copy : (k j b : ℕ) (v : List ℕ) (es : List (ℕ × Entry)) → slice_get es j ≡ Some (b, Copy v) → Contains (places_of k es) (b, k + j)
place-of_copy k j b v [] there = absurd cc
place-of_copy k zero b v ((c, Copy w) ∷ es) there =
    let one : ◌≡◌ {A = ℕ × Entry} (c, Copy w) (b, Copy v) = cc in
    let same : c ≡ b = ap (λ (e : ℕ × Entry). e.0) one in
    let place : k ≡ k + 0 = omega arith in
    contains-first (c, k) (places_of (k + 1) es) (b, k + 0) (ap₂ (λ (x y : ℕ). (x, y)) same place)
place-of_copy k zero b v ((c, Revoke) ∷ es) there =
    let one : ◌≡◌ {A = ℕ × Entry} (c, Revoke) (b, Copy v) = cc in
    let entry : ◌≡◌ {A = Entry} Revoke (Copy v) = ap (λ (e : ℕ × Entry). e.1) one in
    absurd cc
place-of_copy k (suc j) b v ((c, Copy w) ∷ es) there =
    let place : k + 1 + j ≡ k + suc j = omega arith in
    contains-behind (c, k) (places_of (k + 1) es) (b, k + suc j) (subst (λ (n : ℕ). Contains (places_of (k + 1) es) (b, n)) place (place-of_copy (k + 1) j b v es there))
place-of_copy k (suc j) b v ((c, Revoke) ∷ es) there =
    let place : k + 1 + j ≡ k + suc j = omega arith in
    subst (λ (n : ℕ). Contains (places_of (k + 1) es) (b, n)) place (place-of_copy (k + 1) j b v es there)

-- a copy at place j of entries, which stand from place k on
pub record IsCopyAt (k : ℕ) (p : ℕ × ℕ) (es : List (ℕ × Entry)) : Type 0 where
  pub at : ℕ
  pub bytes : List ℕ
  pub place : p.1 ≡ k + at
  pub entry : slice_get es at ≡ Some (p.0, Copy bytes)

-- the same with one more entry in front
copy-behind : (k : ℕ) (p : ℕ × ℕ) (e : ℕ × Entry) (es : List (ℕ × Entry)) → IsCopyAt (k + 1) p es → IsCopyAt k p (e ∷ es)
copy-behind k p e es c = record { at = suc c.at; bytes = c.bytes; place = omega (arith, c.place); entry = c.entry }

-- a place is of a copy
pub copy-of_place : (k : ℕ) (p : ℕ × ℕ) (es : List (ℕ × Entry)) → Contains (places_of k es) p → IsCopyAt k p es
copy-of_place k p [] there = absurd (contains-none p there)
copy-of_place k p ((c, Copy w) ∷ es) there =
    elim (contains-cases (c, k) (places_of (k + 1) es) p there) [
      | inl same ↦
          let place : k ≡ p.1 = ap (λ (q : ℕ × ℕ). q.1) same in
          let block : c ≡ p.0 = ap (λ (q : ℕ × ℕ). q.0) same in
          record { at = 0; bytes = w; place = omega (arith, place); entry = ap (λ (b : ℕ). Some (b, Copy w)) block }
      | inr behind ↦ copy-behind k p (c, Copy w) es (copy-of_place (k + 1) p es behind)
    ]
copy-of_place k p ((c, Revoke) ∷ es) there = copy-behind k p (c, Revoke) es (copy-of_place (k + 1) p es there)

-- what holds of each block holds of the copies' blocks
each-place : (P : ℕ → Type 0) (k : ℕ) (es : List (ℕ × Entry)) → AllByRecursion P (map (λ e. e.0) es) → AllByRecursion P (map (λ p. p.0) (places_of k es))
each-place P k [] all = tt
each-place P k ((b, Copy v) ∷ es) all = (all.0, each-place P (k + 1) es all.1)
each-place P k ((b, Revoke) ∷ es) all = each-place P (k + 1) es all.1

-- the blocks of copies are distinct if all are
pub distinct-places : (k : ℕ) (es : List (ℕ × Entry)) → IsDistinct nat_eq (map (λ e. e.0) es) → IsDistinct nat_eq (map (λ p. p.0) (places_of k es))
distinct-places k [] distinct = distinct
distinct-places k ((b, Copy v) ∷ es) distinct =
    IsDistinct-cons nat_eq b (map (λ p. p.0) (places_of (k + 1) es))
    (each-place (λ y. nat_eq b y ≡ false) (k + 1) es (IsDistinct-head nat_eq b (map (λ e. e.0) es) distinct))
    (distinct-places (k + 1) es (IsDistinct-tail nat_eq b (map (λ e. e.0) es) distinct))
distinct-places k ((b, Revoke) ∷ es) distinct = distinct-places (k + 1) es (IsDistinct-tail nat_eq b (map (λ e. e.0) es) distinct)

-- an element after is of another block
apart-behind : {X : Type 0} (b : ℕ) (xs : List (ℕ × X)) (j : ℕ) (x : ℕ × X) → AllByRecursion (λ y. nat_eq b y ≡ false) (map (λ e. e.0) xs) → slice_get xs j ≡ Some x → nat_eq b x.0 ≡ false
apart-behind b [] j x all there = absurd cc
apart-behind b (y ∷ xs) zero x all there = let same : y ≡ x = cc in ap (λ (e : ℕ × _). nat_eq b e.0) (sym same) ∙ all.0
apart-behind b (y ∷ xs) (suc j) x all there = apart-behind b xs j x all.1 there

-- distinct blocks have one place each
pub one-place : {X : Type 0} (xs : List (ℕ × X)) (i j : ℕ) (x y : ℕ × X) → IsDistinct nat_eq (map (λ e. e.0) xs) → slice_get xs i ≡ Some x → slice_get xs j ≡ Some y → x.0 ≡ y.0 → i ≡ j
one-place [] i j x y distinct here there same = absurd cc
one-place (z ∷ xs) zero zero x y distinct here there same = refl
one-place (z ∷ xs) zero (suc j) x y distinct here there same =
    let first : z ≡ x = cc in
    let apart = apart-behind z.0 xs j y (IsDistinct-head nat_eq z.0 (map (λ e. e.0) xs) distinct) there in
    absurd (true≢false (sym (eq-eqb z.0 y.0 (ap (λ (e : ℕ × _). e.0) first ∙ same)) ∙ apart))
one-place (z ∷ xs) (suc i) zero x y distinct here there same =
    let first : z ≡ y = cc in
    let apart = apart-behind z.0 xs i x (IsDistinct-head nat_eq z.0 (map (λ e. e.0) xs) distinct) here in
    absurd (true≢false (sym (eq-eqb z.0 x.0 (ap (λ (e : ℕ × _). e.0) first ∙ sym same)) ∙ apart))
one-place (z ∷ xs) (suc i) (suc j) x y distinct here there same = ap suc (one-place xs i j x y (IsDistinct-tail nat_eq z.0 (map (λ e. e.0) xs) distinct) here there same)

-- a contained element has a place
pub contained-at : {X : Type 0} (xs : List X) (x : X) → Contains xs x → (k : ℕ) × (slice_get xs k ≡ Some x)
contained-at xs x there = (there.0, slice_get-get_or xs there.0 x there.1 ∙ ap Some there.2)

-- an added copy is its block's newest
pub newest-fresh : (tid : ℕ) (ps : List (ℕ × ℕ)) (p : ℕ × ℕ) → IsDistinct nat_eq (map (λ q. q.0) ps) → Contains ps p →
    newest_in (map (fresh tid) ps) p.0 ≡ Some (record { tid = tid; place = p.1 })
newest-fresh tid [] p distinct there = absurd (contains-none p there)
newest-fresh tid (q ∷ ps) p distinct there =
    elim (contains-cases q ps p there) [
      | inl same ↦ rw same (rw (eq-eqb p.0 p.0 refl) refl)
      | inr behind ↦
          let at = contained-at ps p behind in
          let apart = apart-behind q.0 ps at.0 p (IsDistinct-head nat_eq q.0 (map (λ r. r.0) ps) distinct) at.1 in
          rw apart (newest-fresh tid ps p (IsDistinct-tail nat_eq q.0 (map (λ r. r.0) ps) distinct) behind)
    ]

-- another block has no added copy
pub fresh-none : (tid b : ℕ) (ps : List (ℕ × ℕ)) → ((p : ℕ × ℕ) → Contains ps p → p.0 ≡ b → ⊥) → newest_in (map (fresh tid) ps) b ≡ None
fresh-none tid b [] other = refl
fresh-none tid b (p ∷ ps) other =
    let apart = ne_eqb p.0 b (other p (contains-first p ps p refl)) in
    rw apart (fresh-none tid b ps (λ q there. other q (contains-behind p ps q there)))

-- the first added copies have none of a later one's block
pub fresh-before : (tid k : ℕ) (ps : List (ℕ × ℕ)) (p : ℕ × ℕ) → IsDistinct nat_eq (map (λ q. q.0) ps) → slice_get ps k ≡ Some p → newest_in (map (fresh tid) (take k ps)) p.0 ≡ None
fresh-before tid k [] p distinct there = absurd cc
fresh-before tid zero (q ∷ ps) p distinct there = refl
fresh-before tid (suc k) (q ∷ ps) p distinct there =
    let apart = apart-behind q.0 ps k p (IsDistinct-head nat_eq q.0 (map (λ r. r.0) ps) distinct) there in
    rw apart (fresh-before tid k ps p (IsDistinct-tail nat_eq q.0 (map (λ r. r.0) ps) distinct) there)

-- an entry touches its block
pub touched-at : (es : List (ℕ × Entry)) (k : ℕ) (e : ℕ × Entry) → slice_get es k ≡ Some e → is_touched es e.0 ≡ true
touched-at [] k e there = absurd cc
touched-at (x ∷ es) zero e there = let same : x ≡ e = cc in or_left (x.0 == e.0) (is_touched es e.0) (eq-eqb x.0 e.0 (ap (λ (y : ℕ × Entry). y.0) same))
touched-at (x ∷ es) (suc k) e there = or_right (x.0 == e.0) (is_touched es e.0) (touched-at es k e there)

-- a copy's place is listed first
pub places-copy : (k : ℕ) (e : ℕ × Entry) (v : List ℕ) (es : List (ℕ × Entry)) → e.1 ≡ Copy v → places_of k (e ∷ es) ≡ (e.0, k) ∷ places_of (k + 1) es
places-copy k (b, Copy w) v es same = refl
places-copy k (b, Revoke) v es same = absurd cc
