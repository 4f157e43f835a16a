-- A chain's copies that go home are the newest live ones; a block of which none goes home has no live copy.
use Rattle.std.proofs.Common.{refl, sym, ◌∙◌, ap, subst, arith, inl, inr, zero}
use Rattle.std.specs.Prelude.{◌≡◌, ◌≢◌, ◌⊎◌, ℕ, suc, ◌<◌, ◌≤◌, Bool, true, false, if◌then◌else◌, List, [], ◌∷◌, map, Some, Contains, get_or, slice_get}
use Rattle.std.specs.List.{AllPairs, list_any}
use Rattle.std.proofs.lemmas.List.Elements.{All-contains_itself}
use Rattle.std.proofs.lemmas.List.Kept.{AllPairs-cons}
use Rattle.std.proofs.lemmas.Option.{none-some, same_Some}
use Rattle.journal_model.proofs.ListElements.{contains-none}
use Rattle.log_model.proofs.Newest.{newest-same}
use Rattle.log_model.specs.declared.log.Text.{Text}
use Rattle.log_model.specs.Replay.{HasNoLive, IsCovered, IsLive, IsNewest}
use Rattle.log_model.specs.Text.{text_copies, text_revokes}
use Rattle.recovery.specs.HomeCopies.{Change, chain_changes, home_copies, is_of, last_copies, text_changes}
use Rattle.recovery.specs.HomeCopies.Change.{Copied, Revoked}
use Rattle.recovery.proofs.ChainChanges.{chain-has, changes-copied, changes-revoked, covered-more, covered-tail, revoked-covered}
use Rattle.recovery.proofs.LastCopies.{IsLastAt, changed-last, contains-at, copied, copied-last, has-copied, last-among, last-append, last-split, mapped-has, none-copied, none-revoked, revoked-none}

-- a copy of a text is one of its chain's changes
copy-changes : (texts : List Text) (j m b : ℕ) (v : List ℕ) (text : Text) → slice_get texts j ≡ Some text → slice_get (text_copies text) m ≡ Some (b, v) →
    Contains (chain_changes texts) (Copied b v)
copy-changes texts j m b v text stands copy =
    chain-has texts j text (Copied b v) stands
    (changes-copied (text_copies text) (text_revokes text) b v (contains-at (text_copies text) m (b, v) copy))

-- a live copy after the first text is live without that text
live-tail : (t : Text) (ts : List Text) (b i k : ℕ) (v : List ℕ) → IsLive (t ∷ ts) b (suc i) k v → IsLive ts b i k v
live-tail t ts b i k v live = record {
  text = live.text;
  stands = live.stands;
  copy = live.copy;
  uncovered = λ covered. live.uncovered (covered-more t ts i b covered);
}

-- and with one more text in front
live-more : (t : Text) (ts : List Text) (b i k : ℕ) (v : List ℕ) → IsLive ts b i k v → IsLive (t ∷ ts) b (suc i) k v
live-more t ts b i k v live = record {
  text = live.text;
  stands = live.stands;
  copy = live.copy;
  uncovered = λ covered. live.uncovered (covered-tail t ts i b covered);
}

-- a newest copy stays the newest with one more text in front
newest-more : (t : Text) (ts : List Text) (b : ℕ) (v : List ℕ) → IsNewest ts b v → IsNewest (t ∷ ts) b v
newest-more t ts b v is = record { i = suc is.i; k = is.k; live = live-more t ts b is.i is.k v is.live; newest = newest }
  where
    newest : (j m : ℕ) (other : List ℕ) → IsLive (t ∷ ts) b j m other → (j < suc is.i) ⊎ ((j ≡ suc is.i) × (m ≤ is.k))
    newest zero m other live = inl (omega arith)
    newest (suc j) m other live =
        elim (is.newest j m other (live-tail t ts b j m other live)) [
          | inl before ↦ inl (omega arith)
          | inr (same, low) ↦ inr (omega arith, low)
        ]

-- nothing covers a first text's copy if no later change is of its block
uncovered-first : (t : Text) (ts : List Text) (b : ℕ) → list_any (is_of b) (map Revoked (text_revokes t)) ≡ false →
    list_any (is_of b) (chain_changes ts) ≡ false → IsCovered (t ∷ ts) 0 b → ⊥
uncovered-first t ts b here behind covered = at covered.revoker covered.stands
  where
    at : (r : ℕ) → slice_get (t ∷ ts) r ≡ Some covered.text → ⊥
    at zero stands =
        none-revoked b (map Revoked (text_revokes t)) here
        (mapped-has Revoked (text_revokes t) b (subst (λ (x : Text). Contains (text_revokes x) b) (sym (same_Some t covered.text stands)) covered.revokes))
    at (suc r) stands =
        none-revoked b (chain_changes ts) behind
        (chain-has ts r covered.text (Revoked b) stands (changes-revoked (text_copies covered.text) (text_revokes covered.text) b covered.revokes))

-- the first text's last copy is the newest, if no later change is of its block
newest-at : (t : Text) (ts : List Text) (b k : ℕ) (v : List ℕ) → IsLastAt b (text_copies t) v k → list_any (is_of b) (map Revoked (text_revokes t)) ≡ false →
    list_any (is_of b) (chain_changes ts) ≡ false → IsNewest (t ∷ ts) b v
newest-at t ts b k v last here behind = record {
  i = 0;
  k = k;
  live = record { text = t; stands = refl; copy = last.stands; uncovered = uncovered-first t ts b here behind };
  newest = newest;
}
  where
    newest : (j m : ℕ) (other : List ℕ) → IsLive (t ∷ ts) b j m other → (j < 0) ⊎ ((j ≡ 0) × (m ≤ k))
    newest zero m other live =
        let copy : slice_get (text_copies t) m ≡ Some (b, other) = ap (λ (x : Text). slice_get (text_copies x) m) (same_Some t live.text live.stands) ∙ live.copy in
        inr (refl, last.last m other copy)
    newest (suc j) m other live = absurd (none-copied b other (chain_changes ts) behind (copy-changes ts j m b other live.text live.stands live.copy))

-- so is a last copy of the first text's changes
newest-first : (t : Text) (ts : List Text) (b : ℕ) (v : List ℕ) → Contains (last_copies (text_changes t)) (b, v) →
    list_any (is_of b) (chain_changes ts) ≡ false → IsNewest (t ∷ ts) b v
newest-first t ts b v among behind =
    elim (last-split (map copied (text_copies t)) (map Revoked (text_revokes t)) b v among) [
      | inl revoked ↦ absurd (revoked-none (text_revokes t) (b, v) revoked)
      | inr (copies, here) ↦
          let last = copied-last (text_copies t) b v copies in
          newest-at t ts b last.0 v last.1 here behind
    ]

-- each copy that goes home is its block's newest live one
pub home-copies-newest : (texts : List Text) (b : ℕ) (v : List ℕ) → Contains (home_copies texts) (b, v) → IsNewest texts b v
home-copies-newest [] b v among = absurd (contains-none (b, v) among)
home-copies-newest (t ∷ ts) b v among =
    elim (last-split (text_changes t) (chain_changes ts) b v among) [
      | inl later ↦ newest-more t ts b v (home-copies-newest ts b v later)
      | inr (here, behind) ↦ newest-first t ts b v here behind
    ]

-- a block with a live copy has one that goes home
pub live-home : (texts : List Text) (b i k : ℕ) (v : List ℕ) → IsLive texts b i k v → (w : List ℕ) × Contains (home_copies texts) (b, w)
live-home [] b i k v live = absurd (none-some live.text live.stands)
live-home (t ∷ ts) b zero k v live =
    let among = copy-changes (t ∷ ts) 0 k b v live.text live.stands live.copy in
    elim (changed-last b (chain_changes (t ∷ ts)) (has-copied b v (chain_changes (t ∷ ts)) among)) [
      | inl last ↦ last
      | inr revoked ↦ absurd (live.uncovered (revoked-covered (t ∷ ts) b revoked))
    ]
live-home (t ∷ ts) b (suc i) k v live =
    let rest = live-home ts b i k v (live-tail t ts b i k v live) in
    (rest.0, last-append (text_changes t) (chain_changes ts) (b, rest.0) rest.1)

-- a block of which none goes home has no live copy
pub home-copies-all : (texts : List Text) (b : ℕ) → ((v : List ℕ) → Contains (home_copies texts) (b, v) → ⊥) → HasNoLive texts b
home-copies-all texts b none i k v live = let home = live-home texts b i k v live in none home.0 home.1

-- a block's newest live copy goes home
pub newest-home : (texts : List Text) (b : ℕ) (v : List ℕ) → IsNewest texts b v → Contains (home_copies texts) (b, v)
newest-home texts b v newest =
    let home = live-home texts b newest.i newest.k v newest.live in
    let same : home.0 ≡ v = newest-same texts b home.0 v (home-copies-newest texts b home.0 home.1) newest in
    subst (λ (w : List ℕ). Contains (home_copies texts) (b, w)) same home.1

-- the last copies among changes are of different blocks
last-once : (changes : List Change) → AllPairs (λ x y. x.0 ≢ y.0) (last_copies changes)
last-once [] = λ i j d less below. absurd (omega arith)
last-once (Copied b v ∷ changes) = by (list_any (is_of b) changes) refl (last-once changes)
  where
    by : (any : Bool) → list_any (is_of b) changes ≡ any → AllPairs (λ x y. x.0 ≢ y.0) (last_copies changes) →
        AllPairs (λ x y. x.0 ≢ y.0) (if any then last_copies changes else (b, v) ∷ last_copies changes)
    by true is rest = rest
    by false is rest =
        AllPairs-cons (λ (x y : ℕ × List ℕ). x.0 ≢ y.0) (b, v) (last_copies changes)
        (λ k d below same.
        none-copied b (get_or (last_copies changes) k d).1 changes is
        (subst (λ (n : ℕ). Contains changes (Copied n (get_or (last_copies changes) k d).1)) (sym same)
        (last-among changes (get_or (last_copies changes) k d).0 (get_or (last_copies changes) k d).1
        (All-contains_itself (last_copies changes) k d below))))
        rest
last-once (Revoked b ∷ changes) = last-once changes

-- so are a chain's copies that go home
pub home-once : (texts : List Text) → AllPairs (λ x y. x.0 ≢ y.0) (home_copies texts)
home-once texts = last-once (chain_changes texts)
