-- How a commit changes pending copies.
use Rattle.std.proofs.Common.{◌≡◌, inl, inr, ℕ, ◌+◌, ◌<◌, ◌≤◌, false, not, List, [], ◌∷◌, ◌++◌, length, map, drop, arith, refl, sym, ap, ap₂, subst, ◌∙◌, Option, Some, None, nat_eq, get_or, true≢false}
use Rattle.std.specs.List.{AllByRecursion, Contains, IsDistinct, filter, slice_get}
use Rattle.std.specs.List.Sorted.{IsNonDecreasingBy, IsPermutation, IsSorted}
use Rattle.std.specs.Ordering.{is_lt, nat_cmp, ordering_then}
use Rattle.std.proofs.lemmas.List.{drop-append-le, length-map, map-append}
use Rattle.std.proofs.lemmas.List.Elements.{filter-append}
use Rattle.std.proofs.lemmas.List.Sorted.{Contains-permutation, IsNonDecreasingBy-from_all_adjacent, IsPermutation-map, IsPermutation-sym}
use Rattle.std.proofs.lemmas.Map.Keys.{IsDistinct-IsPermutation}
use Rattle.std.proofs.lemmas.Bool.Decides.{nat_tests}
use Rattle.std.proofs.lemmas.Option.{get_or_from_slice_get, slice_get_within}
use Rattle.journal_model.specs.declared.entry.Entry.{Entry}
use Rattle.journal_model.specs.declared.entry.Entry.TheVariants.{Copy, Revoke}
use Rattle.journal_model.proofs.ListElements.{option-known}
use Rattle.checkpoint.specs.declared.copies.QueuedCopy.{QueuedCopy}
use Rattle.checkpoint.specs.declared.pending.Pending.TheInside.{Inside}
use Rattle.checkpoint.specs.Copies.{newest_in}
use Rattle.checkpoint.specs.Pending.{IsCommitted, IsOrdered, is_touched, newest_of}
use Rattle.checkpoint.specs.PendingView.{KeepsPending, key_of, live_from, pending_of}
use Rattle.checkpoint.specs.Steps.{AreDead, fresh, places_of, withdrawn_all}
use Rattle.checkpoint.proofs.Kept.{dead-append, dead-join, live-skip, newest-map}
use Rattle.checkpoint.proofs.Listed.{IsCopyAt, copy-of_place, distinct-places, fresh-none, keys-places, newest-fresh, one-place, place-of_copy, touched-at}
use Rattle.checkpoint.proofs.Newest.{newest-behind, newest-front}
use Rattle.checkpoint.proofs.Ordered.{listed-tid, ordered-append, ordered-listed}
use Rattle.checkpoint.proofs.Withdrawn.{dead-withdrawn_all, drop-withdrawn_all, keys-withdrawn_all, live-withdrawn_all, newest-touched, newest-untouched}

-- a block's newest copy in joined lists, if the second has none
newest-first : (b : ℕ) (cs ds : List QueuedCopy) → newest_in ds b ≡ None → newest_in (cs ++ ds) b ≡ newest_in cs b
newest-first b cs ds none =
    elim (option-known (newest_in cs b)) [
      | inl absent ↦ newest-behind b cs ds absent ∙ none ∙ sym absent
      | inr (v, some) ↦ newest-front b v cs ds some ∙ sym some
    ]

-- the keys of added copies, which are all live
keys-fresh : (tid : ℕ) (ps : List (ℕ × ℕ)) → map key_of (map (fresh tid) ps) ≡ map {B = ℕ × ℕ} (λ p. (tid, p.0)) ps
keys-fresh tid [] = refl
keys-fresh tid (p ∷ ps) = ap (λ (ks : List (ℕ × ℕ)). (tid, p.0) ∷ ks) (keys-fresh tid ps)

live-fresh : (tid : ℕ) (ps : List (ℕ × ℕ)) → filter (λ c. c.live) (map (fresh tid) ps) ≡ map (fresh tid) ps
live-fresh tid [] = refl
live-fresh tid (p ∷ ps) = ap (λ (cs : List QueuedCopy). fresh tid p ∷ cs) (live-fresh tid ps)

-- the test for equal numbers is symmetric
eq-flips : (a b : ℕ) → nat_eq a b ≡ nat_eq b a
eq-flips a b = grind (arith, nat_tests)

-- the blocks of the listed copies are distinct
pub apart-listed : (entries : List (ℕ × Entry)) (ps : List (ℕ × ℕ)) → IsDistinct nat_eq (map (λ e. e.0) entries) → IsPermutation (places_of 0 entries) ps → IsDistinct nat_eq (map (λ p. p.0) ps)
apart-listed entries ps distinct listed =
    IsDistinct-IsPermutation nat_eq eq-flips (map (λ p. p.0) (places_of 0 entries)) (map (λ p. p.0) ps)
    (IsPermutation-map (λ (p : ℕ × ℕ). p.0) (places_of 0 entries) ps listed) (distinct-places 0 entries distinct)

-- a listed copy is an entry
pub entry-listed : (entries : List (ℕ × Entry)) (ps : List (ℕ × ℕ)) (p : ℕ × ℕ) → IsPermutation (places_of 0 entries) ps → Contains ps p → IsCopyAt 0 p entries
entry-listed entries ps p listed there = copy-of_place 0 p entries (Contains-permutation ps (places_of 0 entries) p (IsPermutation-sym (places_of 0 entries) ps listed) there)

-- no copy that stays is live and of a listed copy's block
pub none-listed : (entries : List (ℕ × Entry)) (cs : List QueuedCopy) (ps : List (ℕ × ℕ)) (k : ℕ) (p : ℕ × ℕ) → IsPermutation (places_of 0 entries) ps → slice_get ps k ≡ Some p →
    newest_in (withdrawn_all (map (λ e. e.0) entries) cs) p.0 ≡ None
none-listed entries cs ps k p listed here =
    let copy = entry-listed entries ps p listed (k, slice_get_within ps k p here, get_or_from_slice_get ps k p p here) in
    newest-touched p.0 entries cs (touched-at entries copy.at (p.0, Copy copy.bytes) copy.entry)

-- the blocks of listed copies in order do not fall
block-below : (a b c d : ℕ) → is_lt (ordering_then (nat_cmp b a) (nat_cmp d c)) ≡ false → a ≤ b
block-below a b c d sorted = grind (arith, nat_tests)

pub sorted-blocks : (ps : List (ℕ × ℕ)) → IsSorted (λ x y. ordering_then (nat_cmp x.0 y.0) (nat_cmp x.1 y.1)) ps → IsNonDecreasingBy (λ p. p.0) ps
sorted-blocks ps sorted =
    IsNonDecreasingBy-from_all_adjacent (λ (p : ℕ × ℕ). p.0) ps
    (λ k d below. block-below (get_or ps k d).0 (get_or ps (k + 1) d).0 (get_or ps k d).1 (get_or ps (k + 1) d).1 (sorted k d (omega arith) below))

-- as many copies stay as there were
pub length-withdrawn_all : (bs : List ℕ) (cs : List QueuedCopy) → length (withdrawn_all bs cs) ≡ length cs
length-withdrawn_all bs cs =
    let same = ap length (keys-withdrawn_all bs cs) in
    omega (arith, length-map (withdrawn_all bs cs) key_of, length-map cs key_of)

-- the steps of a commit, with its copies listed by block
pub record Commits (old : Inside) (entries : List (ℕ × Entry)) (tid : ℕ) (ps : List (ℕ × ℕ)) (new : Inside) : Type 0 where
  pub kept : KeepsPending old
  pub distinct : IsDistinct nat_eq (map (λ e. e.0) entries)
  pub later : AllByRecursion (λ k. k.0 < tid) (map key_of old.copies.copies)
  pub listed : IsPermutation (places_of 0 entries) ps
  pub sorted : IsNonDecreasingBy (λ p. p.0) ps
  pub room : new.copies.room ≡ old.copies.room
  pub all : new.copies.copies ≡ withdrawn_all (map (λ e. e.0) entries) old.copies.copies ++ map (fresh tid) ps
  pub front : AreDead new.copies.copies old.front new.front
  pub unwritten : AreDead new.copies.copies old.unwritten new.unwritten
  pub after : old.unwritten ≤ new.unwritten

module _ (old : Inside) (entries : List (ℕ × Entry)) (tid : ℕ) (ps : List (ℕ × ℕ)) (new : Inside) (s : Commits old entries tid ps new) where
  -- the copies that stay, and those that come
  abbrev stay : List QueuedCopy
  stay = withdrawn_all (map (λ e. e.0) entries) old.copies.copies

  abbrev come : List QueuedCopy
  come = map (fresh tid) ps

  -- the blocks of the listed copies are distinct
  apart : IsDistinct nat_eq (map (λ p. p.0) ps)
  apart = apart-listed entries ps s.distinct s.listed

  -- the newest copy of a block
  newest-is : (b : ℕ) → newest_of (pending_of new) b ≡ newest_in (stay ++ come) b
  newest-is b = newest-map new.copies.copies b ∙ ap (λ (cs : List QueuedCopy). newest_in cs b) s.all

  newest-copy : (k b : ℕ) (v : List ℕ) → slice_get entries k ≡ Some (b, Copy v) → newest_of (pending_of new) b ≡ Some (record { tid = tid; place = k })
  newest-copy k b v here =
      let there : Contains (places_of 0 entries) (b, k) = subst (λ (n : ℕ). Contains (places_of 0 entries) (b, n)) {x = 0 + k} {y = k} (omega arith) (place-of_copy 0 k b v entries here) in
      newest-is b
      ∙ newest-behind b stay come (newest-touched b entries old.copies.copies (touched-at entries k (b, Copy v) here))
      ∙ newest-fresh tid ps (b, k) apart (Contains-permutation (places_of 0 entries) ps (b, k) s.listed there)

  newest-revoked : (k b : ℕ) → slice_get entries k ≡ Some (b, Revoke) → newest_of (pending_of new) b ≡ None
  newest-revoked k b here =
      newest-is b
      ∙ newest-behind b stay come (newest-touched b entries old.copies.copies (touched-at entries k (b, Revoke) here))
      ∙ fresh-none tid b ps (λ p there same.
      let copy = entry-listed entries ps p s.listed there in
      let place = one-place entries copy.at k (p.0, Copy copy.bytes) (b, Revoke) s.distinct copy.entry here same in
      let one : ◌≡◌ {A = Option (ℕ × Entry)} (Some (p.0, Copy copy.bytes)) (Some (b, Revoke)) = sym copy.entry ∙ ap (slice_get entries) place ∙ here in
      let pair : ◌≡◌ {A = ℕ × Entry} (p.0, Copy copy.bytes) (b, Revoke) = cc in
      let entry : ◌≡◌ {A = Entry} (Copy copy.bytes) Revoke = ap (λ (e : ℕ × Entry). e.1) pair in
      absurd cc)

  newest-other : (b : ℕ) → is_touched entries b ≡ false → newest_of (pending_of new) b ≡ newest_of (pending_of old) b
  newest-other b untouched =
      newest-is b
      ∙ newest-first b stay come (fresh-none tid b ps (λ p there same.
      let copy = entry-listed entries ps p s.listed there in
      let touched = touched-at entries copy.at (p.0, Copy copy.bytes) copy.entry in
      true≢false (sym (ap (is_touched entries) (sym same) ∙ touched) ∙ untouched)))
      ∙ newest-untouched b entries old.copies.copies untouched
      ∙ sym (newest-map old.copies.copies b)

  -- the keys of all copies
  queue-is : map key_of new.copies.copies ≡ map key_of old.copies.copies ++ map {B = ℕ × ℕ} (λ p. (tid, p.0)) ps
  queue-is =
      ap (map key_of) s.all ∙ map-append key_of stay come
      ∙ ap₂ (λ (ks ls : List (ℕ × ℕ)). ks ++ ls) (keys-withdrawn_all (map (λ e. e.0) entries) old.copies.copies) (keys-fresh tid ps)

  -- the keys of the copies not written home
  unwritten-is : map key_of (live_from new.unwritten new.copies.copies)
      ≡ filter (λ k. not (is_touched entries k.1)) (map key_of (live_from old.unwritten old.copies.copies)) ++ map {B = ℕ × ℕ} (λ p. (tid, p.0)) ps
  unwritten-is =
      let k = old.unwritten in
      let long = length-withdrawn_all (map (λ e. e.0) entries) old.copies.copies in
      let live : List QueuedCopy → List QueuedCopy = filter (λ c. c.live) in
      let parts : live_from k (stay ++ come) ≡ live (drop k stay) ++ come =
      ap live (drop-append-le k stay come (omega (arith, s.kept.unwritten.within)))
      ∙ filter-append (λ (c : QueuedCopy). c.live) (drop k stay) come
      ∙ ap (λ (ds : List QueuedCopy). live (drop k stay) ++ ds) (live-fresh tid ps) in
      ap (map key_of) (live-skip k new.unwritten new.copies.copies s.after s.unwritten ∙ ap (live_from k) s.all ∙ parts)
      ∙ map-append key_of (live (drop k stay)) come
      ∙ ap₂ (λ (ks ls : List (ℕ × ℕ)). ks ++ ls)
      (ap (λ (ds : List QueuedCopy). map key_of (live ds)) (drop-withdrawn_all k (map (λ e. e.0) entries) old.copies.copies) ∙ live-withdrawn_all entries (drop k old.copies.copies))
      (keys-fresh tid ps)

  pub committed : IsCommitted (pending_of old) entries tid (pending_of new)
  committed =
      record {
        room = s.room;
        copies = newest-copy;
        revokes = newest-revoked;
        others = newest-other;
        added = map {B = ℕ × ℕ} (λ p. (tid, p.0)) ps;
        keys = subst (λ (ks : List (ℕ × ℕ)). IsPermutation ks (map {B = ℕ × ℕ} (λ p. (tid, p.0)) ps)) (keys-places tid 0 entries)
            (IsPermutation-map (λ (p : ℕ × ℕ). let k : ℕ × ℕ = (tid, p.0) in k) (places_of 0 entries) ps s.listed);
        ordered = ordered-listed tid ps s.sorted apart;
        queue = queue-is;
        unwritten = unwritten-is;
      }

  -- the copies stay in order
  pub committed-ordered : IsOrdered (map key_of new.copies.copies)
  committed-ordered =
      subst IsOrdered (sym queue-is)
      (ordered-append tid (map key_of old.copies.copies) (map {B = ℕ × ℕ} (λ p. (tid, p.0)) ps) s.kept.ordered (ordered-listed tid ps s.sorted apart) s.later (listed-tid tid ps))

  -- none is live before the front
  pub committed-front : AreDead new.copies.copies 0 new.front
  committed-front =
      let long = length-withdrawn_all (map (λ e. e.0) entries) old.copies.copies in
      dead-join new.copies.copies 0 old.front new.front
      (subst (λ (cs : List QueuedCopy). AreDead cs 0 old.front) (sym s.all)
      (dead-append stay come 0 old.front (omega (arith, s.kept.front.within)) (dead-withdrawn_all (map (λ e. e.0) entries) 0 old.front old.copies.copies s.kept.before_front)))
      s.front
