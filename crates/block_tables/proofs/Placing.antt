-- The place of a block's newest copy in a chain, and what goes home by it.
use Rattle.std.proofs.Common.{inl, inr, refl, sym, ap, subst, ◌∙◌, arith, zero}
use Rattle.std.specs.Prelude.{◌≡◌, ◌⊎◌, ℕ, suc, ◌+◌, ◌-◌, ◌<◌, ◌≤◌, List, [], ◌∷◌, length, take, Some, slice_get}
use Rattle.std.proofs.lemmas.Bool.{cases_eq, cases_lt}
use Rattle.std.proofs.lemmas.List.{length-append}
use Rattle.std.proofs.lemmas.Option.{none-some, same_Some, slice_get_within}
use Rattle.std.specs.FinMap.{empty, get, get-empty, insert}
use Rattle.std.specs.Ordering.{nat_cmp}
use Rattle.journal_model.proofs.ListElements.{get-behind, get-front}
use Rattle.log_model.specs.declared.log.Text.{Text}
use Rattle.log_model.specs.Replay.{HasNoLive, IsLive, IsNewest}
use Rattle.log_model.specs.Text.{text_copies}
use Rattle.block_tables.specs.Copies.{GoesHome, copies_of, copy_notes, copy_place, placed_all}
use Rattle.block_tables.specs.Revokes.{BlockTable}
use Rattle.block_tables.proofs.Noting.{get-other, get-own, revokes-cover}

abbrev Copies : Type 0
Copies = List (ℕ × List ℕ)

-- copy r is the last one of block b among these
record IsLastOf (b : ℕ) (copies : Copies) (r : ℕ) : Type 0 where
  bytes : List ℕ
  stands : slice_get copies r ≡ Some (b, bytes)
  last : (m : ℕ) (other : List ℕ) → slice_get copies m ≡ Some (b, other) → m ≤ r

-- none of these is a copy of block b
abbrev HasNoCopy : ℕ → Copies → Type 0
HasNoCopy b copies = (m : ℕ) (other : List ℕ) → slice_get copies m ≡ Some (b, other) → ⊥

last-behind : (b : ℕ) (copy : ℕ × List ℕ) (copies : Copies) (r : ℕ) → IsLastOf b copies r → IsLastOf b (copy ∷ copies) (suc r)
last-behind b copy copies r is = record { bytes = is.bytes; stands = is.stands; last = last }
  where
    last : (m : ℕ) (other : List ℕ) → slice_get (copy ∷ copies) m ≡ Some (b, other) → m ≤ suc r
    last zero other there = omega arith
    last (suc m) other there = let before = is.last m other there in omega arith

last-first : (b : ℕ) (copy : ℕ × List ℕ) (copies : Copies) → copy.0 ≡ b → HasNoCopy b copies → IsLastOf b (copy ∷ copies) 0
last-first b copy copies same none = record { bytes = copy.1; stands = ap (λ (n : ℕ). Some (n, copy.1)) same; last = last }
  where
    last : (m : ℕ) (other : List ℕ) → slice_get (copy ∷ copies) m ≡ Some (b, other) → m ≤ 0
    last zero other there = omega arith
    last (suc m) other there = absurd (none m other there)

none-behind : (b : ℕ) (copy : ℕ × List ℕ) (copies : Copies) → (copy.0 ≡ b → ⊥) → HasNoCopy b copies → HasNoCopy b (copy ∷ copies)
none-behind b copy copies other none zero bytes there = other (ap (λ (c : ℕ × List ℕ). c.0) (same_Some copy (b, bytes) there))
none-behind b copy copies other none (suc m) bytes there = none m bytes there

-- the place noted last for a block is that of its last copy
last-place : (m : BlockTable) (b p : ℕ) (copies : Copies) →
    (HasNoCopy b copies × (get (placed_all m (copy_notes p copies)) b ≡ get m b))
    ⊎ ((r : ℕ) × IsLastOf b copies r × (get (placed_all m (copy_notes p copies)) b ≡ Some (p + r)))
last-place m b p [] = inl (λ k other there. none-some (b, other) there, refl)
last-place m b p (c ∷ cs) =
    elim (last-place (insert m c.0 p) b (suc p) cs) [
      | inl (none, same) ↦
          elim (cases_eq c.0 b) [
            | inl here ↦ inr (0, last-first b c cs here none, same ∙ get-own m c.0 b p here ∙ ap Some {x = p} {y = p + 0} (omega arith))
            | inr other ↦ inl (none-behind b c cs other none, same ∙ get-other m c.0 b p other)
          ]
      | inr (r, is, value) ↦ inr (suc r, last-behind b c cs r is, value ∙ ap Some {x = suc p + r} {y = p + suc r} (omega arith))
    ]

-- a copy of a text stands among all copies
copy-among : (texts : List Text) (i k : ℕ) (text : Text) (c : ℕ × List ℕ) → slice_get texts i ≡ Some text → slice_get (text_copies text) k ≡ Some c →
    slice_get (copies_of texts) (copy_place texts i k) ≡ Some c
copy-among [] i k text c stands copy = absurd (none-some text stands)
copy-among (t ∷ ts) zero k text c stands copy =
    let same : t ≡ text = same_Some t text stands in
    let own : slice_get (text_copies t) k ≡ Some c = ap (λ (x : Text). slice_get (text_copies x) k) same ∙ copy in
    ap (slice_get (copies_of (t ∷ ts))) {x = 0 + k} {y = k} (omega arith)
    ∙ get-front (text_copies t) (copies_of ts) k (slice_get_within (text_copies t) k c own) ∙ own
copy-among (t ∷ ts) (suc i) k text c stands copy =
    get-behind (text_copies t) (copies_of ts) (copy_place (t ∷ ts) (suc i) k) (copy_place ts i k)
    (omega (arith, length-append (text_copies t) (copies_of (take i ts))))
    ∙ copy-among ts i k text c stands copy

-- a copy among all is one of a text
record IsOfText (texts : List Text) (r : ℕ) (c : ℕ × List ℕ) : Type 0 where
  i : ℕ
  k : ℕ
  text : Text
  stands : slice_get texts i ≡ Some text
  copy : slice_get (text_copies text) k ≡ Some c
  place : r ≡ copy_place texts i k

of-text : (texts : List Text) (r : ℕ) (c : ℕ × List ℕ) → slice_get (copies_of texts) r ≡ Some c → IsOfText texts r c
of-text [] r c there = absurd (none-some c there)
of-text (t ∷ ts) r c there =
    elim (cases_lt r (length (text_copies t))) [
      | inl here ↦
          record { i = 0; k = r; text = t; stands = refl; copy = sym (get-front (text_copies t) (copies_of ts) r here) ∙ there; place = omega arith }
      | inr behind ↦
          let rest = of-text ts (r - length (text_copies t)) c
          (sym (get-behind (text_copies t) (copies_of ts) r (r - length (text_copies t)) (omega arith)) ∙ there) in
          let place = rest.place in
          record {
            i = suc rest.i;
            k = rest.k;
            text = rest.text;
            stands = rest.stands;
            copy = rest.copy;
            place = omega (arith, length-append (text_copies t) (copies_of (take rest.i ts)));
          }
    ]

-- all copies of a text stand before those of later ones
place-rises : (texts : List Text) (i j : ℕ) (text : Text) → slice_get texts i ≡ Some text → i < j →
    copy_place texts i (length (text_copies text)) ≤ copy_place texts j 0
place-rises [] i j text stands before = absurd (none-some text stands)
place-rises (t ∷ ts) i zero text stands before = absurd (omega arith)
place-rises (t ∷ ts) zero (suc j) text stands before =
    let same : length (text_copies t) ≡ length (text_copies text) = ap (λ (x : Text). length (text_copies x)) (same_Some t text stands) in
    omega (arith, length-append (text_copies t) (copies_of (take j ts)))
place-rises (t ∷ ts) (suc i) (suc j) text stands before =
    let rest = place-rises ts i j text stands (omega arith) in
    omega (arith, length-append (text_copies t) (copies_of (take i ts)), length-append (text_copies t) (copies_of (take j ts)))

-- a copy that stands no later is in an earlier text, or earlier in the same
place-order : (texts : List Text) (i k j m : ℕ) (text : Text) (c : ℕ × List ℕ) → slice_get texts i ≡ Some text → slice_get (text_copies text) k ≡ Some c →
    copy_place texts j m ≤ copy_place texts i k → (j < i) ⊎ ((j ≡ i) × (m ≤ k))
place-order texts i k j m text c stands copy below =
    elim (cases_lt j i) [
      | inl before ↦ inl before
      | inr after ↦
          elim (cases_lt i j) [
            | inl later ↦
                let rises = place-rises texts i j text stands later in
                let within = slice_get_within (text_copies text) k c copy in
                absurd (omega arith)
            | inr not ↦
                let same : j ≡ i = omega arith in
                inr (same, let at : copy_place texts i m ≤ copy_place texts i k = subst (λ (n : ℕ). copy_place texts n m ≤ copy_place texts i k) same below in omega arith)
          ]
    ]

-- a live copy of block b stands no later than its last one
live-before : (texts : List Text) (b i k r : ℕ) (bytes : List ℕ) → IsLastOf b (copies_of texts) r → IsLive texts b i k bytes → copy_place texts i k ≤ r
live-before texts b i k r bytes is live = is.last (copy_place texts i k) bytes (copy-among texts i k live.text (b, bytes) live.stands live.copy)

-- what goes home is the newest live copy
pub home-newest : (first : ℕ) (texts : List Text) (b i k : ℕ) (bytes : List ℕ) → GoesHome first texts b i k bytes → IsNewest texts b bytes
home-newest first texts b i k bytes home =
    elim (last-place empty b 0 (copies_of texts)) [
      | inl (none, same) ↦ absurd (none-some (copy_place texts i k) (sym (get-empty nat_cmp b) ∙ sym same ∙ home.newest))
      | inr (r, is, value) ↦
          let at : 0 + r ≡ copy_place texts i k = same_Some _ _ (sym value ∙ home.newest) in
          record {
            i = i;
            k = k;
            live = record {
              text = home.text;
              stands = home.stands;
              copy = home.copy;
              uncovered = λ covered. home.uncovered ((revokes-cover first texts i b).1 covered);
            };
            newest = λ j m other live.
                let before = live-before texts b j m r other is live in
                place-order texts i k j m home.text (b, bytes) home.stands home.copy (omega arith);
          }
    ]

-- a block of which nothing goes home has no live copy
pub home-none : (first : ℕ) (texts : List Text) (b : ℕ) → ((i k : ℕ) (bytes : List ℕ) → GoesHome first texts b i k bytes → ⊥) → HasNoLive texts b
home-none first texts b nothing j m other live =
    elim (last-place empty b 0 (copies_of texts)) [
      | inl (none, same) ↦ none (copy_place texts j m) other (copy-among texts j m live.text (b, other) live.stands live.copy)
      | inr (r, is, value) ↦
          let of = of-text texts r (b, is.bytes) is.stands in
          let place = of.place in
          let before = live-before texts b j m r other is live in
          let order = place-order texts of.i of.k j m of.text (b, is.bytes) of.stands of.copy (omega arith) in
          let first_text : j ≤ of.i = grind (arith, order) in
          nothing of.i of.k is.bytes
          (record {
            text = of.text;
            stands = of.stands;
            copy = of.copy;
            newest = value ∙ ap Some {x = 0 + r} {y = copy_place texts of.i of.k} (omega arith);
            uncovered = λ covers.
                let covered = (revokes-cover first texts of.i b).0 covers in
                let not_before = covered.not_before in
                live.uncovered (record { revoker = covered.revoker; text = covered.text; not_before = omega arith; stands = covered.stands; revokes = covered.revokes });
          })
    ]
