-- The replay of own texts is what their transactions leave.
use Rattle.std.proofs.Common.{◌≡◌, ◌⊎◌, inl, inr, ℕ, zero, suc, ◌<◌, ◌≤◌, List, [], ◌∷◌, length, map, Option, Some, None, refl, sym, ◌∙◌, ap, subst, arith}
use Rattle.std.specs.List.{Contains, slice_get}
use Rattle.std.proofs.lemmas.Bool.{cases_eq}
use Rattle.std.proofs.lemmas.Option.{none-some, same_Some, slice_get_read, some_pair_parts}
use Rattle.journal_model.proofs.Effects.{entries-effect, effect-entries}
use Rattle.journal_model.proofs.ListElements.{contains-behind, contains-cases, contains-filter_map, contains-first, contains-none}
use Rattle.log_model.proofs.OwnTextWhole.{own_text_copies, own_text_revokes}
use Rattle.journal_model.specs.declared.entry.Batch.{Batch}
use Rattle.journal_model.specs.declared.entry.Entry.{Entry}
use Rattle.journal_model.specs.declared.entry.Entry.TheVariants.{Copy, Revoke}
use Rattle.log_model.specs.declared.log.Text.{Text}
use Rattle.journal_model.specs.declared.transaction.Step.{Step}
use Rattle.journal_model.specs.Layout.{Layout, IsLayout}
use Rattle.log_model.specs.OwnText.{own_text}
use Rattle.log_model.specs.Replay.{HasNoLive, IsCovered, IsLive, IsNewest, IsReplayed}
use Rattle.log_model.specs.Text.{text_copies, text_revokes}
use Rattle.journal_model.specs.Transaction.{History, Volume, bytes_of, content_of, copied, copy_of, effect, entries, last_effect, later, revoke_of, revoked}
use Rattle.journal_world.specs.Engine.{AreBatchesOf}

-- what stands at a place of a list is one of its elements
pub among : {X : Type 0} (xs : List X) (k : ℕ) (x : X) → slice_get xs k ≡ Some x → Contains xs x
among [] k x stands = absurd (none-some x stands)
among (y ∷ xs) zero x stands = contains-first y xs x (same_Some y x stands)
among (y ∷ xs) (suc k) x stands = contains-behind y xs x (among xs k x stands)

-- copies have none of block b, or a last one
pub data LastOf (b : ℕ) (copies : List (ℕ × List ℕ)) : Type 0 where
  Nowhere : ((k : ℕ) (v : List ℕ) → slice_get copies k ≡ Some (b, v) → ⊥) → LastOf b copies
  Last : (k : ℕ) (v : List ℕ) → slice_get copies k ≡ Some (b, v) → ((m : ℕ) (w : List ℕ) → slice_get copies m ≡ Some (b, w) → m ≤ k) → LastOf b copies

-- the first copy of all is the last one of its block
first-last : (b : ℕ) (c : ℕ × List ℕ) (cs : List (ℕ × List ℕ)) → c.0 ≡ b → ((k : ℕ) (v : List ℕ) → slice_get cs k ≡ Some (b, v) → ⊥) → LastOf b (c ∷ cs)
first-last b c cs here none =
    Last 0 c.1 (ap (λ n. Some (n, c.1)) here)
    (λ m. elim m as (λ m. (w : List ℕ) → slice_get (c ∷ cs) m ≡ Some (b, w) → m ≤ 0) [
      | zero ↦ λ w stands. omega arith
      | suc m ↦ λ w stands. absurd (none m w stands)
    ])

-- one more copy in front of copies that have none of the block
none-front : (b : ℕ) (c : ℕ × List ℕ) (cs : List (ℕ × List ℕ)) → ((k : ℕ) (v : List ℕ) → slice_get cs k ≡ Some (b, v) → ⊥) → LastOf b (c ∷ cs)
none-front b c cs none =
    elim (cases_eq c.0 b) [
      | inl here ↦ first-last b c cs here none
      | inr other ↦
          Nowhere (λ k. elim k as (λ k. (v : List ℕ) → slice_get (c ∷ cs) k ≡ Some (b, v) → ⊥) [
            | zero ↦ λ v stands. other (some_pair_parts c.0 b c.1 v stands).0
            | suc k ↦ λ v stands. none k v stands
          ])
    ]

-- the last copy stays the last after one more
last-front : (b : ℕ) (c : ℕ × List ℕ) (cs : List (ℕ × List ℕ)) → LastOf b cs → LastOf b (c ∷ cs)
last-front b c cs (Nowhere none) = none-front b c cs none
last-front b c cs (Last k v stands last) =
    Last (suc k) v stands
    (λ m. elim m as (λ m. (w : List ℕ) → slice_get (c ∷ cs) m ≡ Some (b, w) → m ≤ suc k) [
      | zero ↦ λ w here. omega arith
      | suc m ↦ λ w here. let least : m ≤ k = last m w here in omega arith
    ])

-- each list of copies has a last one of the block, or none
last-of : (b : ℕ) (copies : List (ℕ × List ℕ)) → LastOf b copies
last-of b [] = Nowhere (λ k v stands. none-some (b, v) stands)
last-of b (c ∷ cs) = last-front b c cs (last-of b cs)

-- a copy among those of entries is an entry
copied-entry : (es : List (ℕ × Entry)) (b : ℕ) (v : List ℕ) → Contains (copied es) (b, v) → Contains es (b, Copy v)
copied-entry [] b v m = absurd (contains-none (b, v) m)
copied-entry ((c, Copy w) ∷ es) b v m =
    elim (contains-cases (c, w) (copied es) (b, v) m) [
      | inl same ↦ contains-first (c, Copy w) es (b, Copy v) (ap (λ (p : ℕ × List ℕ). (p.0, Copy p.1)) same)
      | inr behind ↦ contains-behind (c, Copy w) es (b, Copy v) (copied-entry es b v behind)
    ]
copied-entry ((c, Revoke) ∷ es) b v m = contains-behind (c, Revoke) es (b, Copy v) (copied-entry es b v m)

-- a block among those that entries revoke has such an entry
revoked-entry : (es : List (ℕ × Entry)) (b : ℕ) → Contains (revoked es) b → Contains es (b, Revoke)
revoked-entry [] b m = absurd (contains-none b m)
revoked-entry ((c, Copy w) ∷ es) b m = contains-behind (c, Copy w) es (b, Revoke) (revoked-entry es b m)
revoked-entry ((c, Revoke) ∷ es) b m =
    elim (contains-cases c (revoked es) b m) [
      | inl same ↦ contains-first (c, Revoke) es (b, Revoke) (ap (λ (n : ℕ). (n, Revoke)) same)
      | inr behind ↦ contains-behind (c, Revoke) es (b, Revoke) (revoked-entry es b behind)
    ]

-- the text has the copies and the revoked blocks of these entries
pub record SaysEntries (es : List (ℕ × Entry)) (text : Text) : Type 0 where
  pub copies : text_copies text ≡ copied es
  pub revokes : text_revokes text ≡ revoked es

-- a text says of a block nothing, a revoke, or its last copy
abbrev pub Says : ℕ → Text → Option Entry → Type 0
Says b text None = ((k : ℕ) (v : List ℕ) → slice_get (text_copies text) k ≡ Some (b, v) → ⊥) × (Contains (text_revokes text) b → ⊥)
Says b text (Some Revoke) = Contains (text_revokes text) b
Says b text (Some (Copy v)) =
    ((k : ℕ) × (slice_get (text_copies text) k ≡ Some (b, v)) × ((m : ℕ) (w : List ℕ) → slice_get (text_copies text) m ≡ Some (b, w) → m ≤ k))
    × (Contains (text_revokes text) b → ⊥)

-- a chain leaves of a block nothing, a revoke, or its newest live copy
abbrev pub LeavesOf : ℕ → List Text → Option Entry → Type 0
LeavesOf b texts None = HasNoLive texts b × (IsCovered texts 0 b → ⊥)
LeavesOf b texts (Some Revoke) = HasNoLive texts b × IsCovered texts 0 b
LeavesOf b texts (Some (Copy v)) = IsNewest texts b v

-- covered copies stay covered with one more text in front
covered-behind : (b i : ℕ) (t : Text) (ts : List Text) → IsCovered ts i b → IsCovered (t ∷ ts) (suc i) b
covered-behind b i t ts c =
    let low : i ≤ c.revoker = c.not_before in
    record { revoker = suc c.revoker; text = c.text; not_before = omega arith; stands = c.stands; revokes = c.revokes }

-- a text after the first covers the same copies without the first
covered-at : (b i r : ℕ) (t u : Text) (ts : List Text) → suc i ≤ r → slice_get (t ∷ ts) r ≡ Some u → Contains (text_revokes u) b → IsCovered ts i b
covered-at b i zero t u ts low stands revokes = absurd (omega arith)
covered-at b i (suc r) t u ts low stands revokes = record { revoker = r; text = u; not_before = omega arith; stands = stands; revokes = revokes }

-- copies covered after the first text are covered without it
covered-back : (b i : ℕ) (t : Text) (ts : List Text) → IsCovered (t ∷ ts) (suc i) b → IsCovered ts i b
covered-back b i t ts c = covered-at b i c.revoker t c.text ts c.not_before c.stands c.revokes

-- the first text's copies are covered by the first text or a later one
covered-first_at : (b r : ℕ) (t u : Text) (ts : List Text) → slice_get (t ∷ ts) r ≡ Some u → Contains (text_revokes u) b →
    Contains (text_revokes t) b ⊎ IsCovered ts 0 b
covered-first_at b zero t u ts stands revokes = inl (subst (λ x. Contains (text_revokes x) b) (sym (same_Some t u stands)) revokes)
covered-first_at b (suc r) t u ts stands revokes = inr (record { revoker = r; text = u; not_before = omega arith; stands = stands; revokes = revokes })

-- they are covered if the first or a later text revokes the block
covered-first : (b : ℕ) (t : Text) (ts : List Text) → IsCovered (t ∷ ts) 0 b → Contains (text_revokes t) b ⊎ IsCovered ts 0 b
covered-first b t ts c = covered-first_at b c.revoker t c.text ts c.stands c.revokes

-- what covers all copies covers them with one more text in front
covered-more : (b : ℕ) (t : Text) (ts : List Text) → IsCovered ts 0 b → IsCovered (t ∷ ts) 0 b
covered-more b t ts c = record { revoker = suc c.revoker; text = c.text; not_before = omega arith; stands = c.stands; revokes = c.revokes }

-- a first text that revokes the block covers all copies
covered-here : (b : ℕ) (t : Text) (ts : List Text) → Contains (text_revokes t) b → IsCovered (t ∷ ts) 0 b
covered-here b t ts revokes = record { revoker = 0; text = t; not_before = omega arith; stands = refl; revokes = revokes }

-- a live copy stays live with one more text in front
live-behind : (b i k : ℕ) (v : List ℕ) (t : Text) (ts : List Text) → IsLive ts b i k v → IsLive (t ∷ ts) b (suc i) k v
live-behind b i k v t ts l = record { text = l.text; stands = l.stands; copy = l.copy; uncovered = λ c. l.uncovered (covered-back b i t ts c) }

-- a live copy after the first text is live without it
live-back : (b i k : ℕ) (v : List ℕ) (t : Text) (ts : List Text) → IsLive (t ∷ ts) b (suc i) k v → IsLive ts b i k v
live-back b i k v t ts l = record { text = l.text; stands = l.stands; copy = l.copy; uncovered = λ c. l.uncovered (covered-behind b i t ts c) }

-- a live copy of the first text is one of its copies
live-first : (b k : ℕ) (v : List ℕ) (t : Text) (ts : List Text) → IsLive (t ∷ ts) b 0 k v → slice_get (text_copies t) k ≡ Some (b, v)
live-first b k v t ts l = ap (λ u. slice_get (text_copies u) k) (same_Some t l.text l.stands) ∙ l.copy

-- no copy is live if none of the first text is, nor of the others
none-live : (b : ℕ) (t : Text) (ts : List Text) → ((k : ℕ) (v : List ℕ) → IsLive (t ∷ ts) b 0 k v → ⊥) → HasNoLive ts b → HasNoLive (t ∷ ts) b
none-live b t ts first others zero k v live = first k v live
none-live b t ts first others (suc i) k v live = others i k v (live-back b i k v t ts live)

-- the newest live copy stays the newest with one more text in front
newest-behind : (b : ℕ) (v : List ℕ) (t : Text) (ts : List Text) → IsNewest ts b v → IsNewest (t ∷ ts) b v
newest-behind b v t ts n =
    record {
      i = suc n.i;
      k = n.k;
      live = live-behind b n.i n.k v t ts n.live;
      newest = λ j. elim j as (λ j. (m : ℕ) (w : List ℕ) → IsLive (t ∷ ts) b j m w → (j < suc n.i) ⊎ ((j ≡ suc n.i) × (m ≤ n.k))) [
        | zero ↦ λ m w l. inl (omega arith)
        | suc j ↦ λ m w l. elim (n.newest j m w (live-back b j m w t ts l)) [
          | inl before ↦ inl (omega arith)
          | inr (same, most) ↦ inr (ap suc same, most)
        ]
      ];
    }

-- the first text's last copy is the newest, if no later text names the block
newest-first : (b k : ℕ) (v : List ℕ) (t : Text) (ts : List Text) →
    slice_get (text_copies t) k ≡ Some (b, v) → ((m : ℕ) (w : List ℕ) → slice_get (text_copies t) m ≡ Some (b, w) → m ≤ k) →
    (IsCovered (t ∷ ts) 0 b → ⊥) → HasNoLive ts b → IsNewest (t ∷ ts) b v
newest-first b k v t ts stands last uncovered none =
    record {
      i = 0;
      k = k;
      live = record { text = t; stands = refl; copy = stands; uncovered = uncovered };
      newest = λ j. elim j as (λ j. (m : ℕ) (w : List ℕ) → IsLive (t ∷ ts) b j m w → (j < 0) ⊎ ((j ≡ 0) × (m ≤ k))) [
        | zero ↦ λ m w l. inr (refl, last m w (live-first b m w t ts l))
        | suc j ↦ λ m w l. absurd (none j m w (live-back b j m w t ts l))
      ];
    }

-- they are not covered if no text revokes the block
uncovered-first : (b : ℕ) (t : Text) (ts : List Text) → (Contains (text_revokes t) b → ⊥) → (IsCovered ts 0 b → ⊥) → IsCovered (t ∷ ts) 0 b → ⊥
uncovered-first b t ts here later c =
    elim (covered-first b t ts c) [
      | inl m ↦ here m
      | inr d ↦ later d
    ]

-- one more text in front leaves the later of what both say of a block
leaves-step : (b : ℕ) (t : Text) (ts : List Text) (f e : Option Entry) → Says b t f → LeavesOf b ts e → LeavesOf b (t ∷ ts) (later f e)
leaves-step b t ts f (Some (Copy v)) says left = newest-behind b v t ts left
leaves-step b t ts f (Some Revoke) says left = (
  none-live b t ts (λ k v l. l.uncovered (covered-more b t ts left.1)) left.0,
  covered-more b t ts left.1,
)
leaves-step b t ts None None says left = (
  none-live b t ts (λ k v l. says.0 k v (live-first b k v t ts l)) left.0,
  uncovered-first b t ts says.1 left.1,
)
leaves-step b t ts (Some Revoke) None says left = (
  none-live b t ts (λ k v l. l.uncovered (covered-here b t ts says)) left.0,
  covered-here b t ts says,
)
leaves-step b t ts (Some (Copy v)) None says left =
    newest-first b says.0.0 v t ts says.0.1 says.0.2 (uncovered-first b t ts says.1 left.1) left.0

-- an element of a list stands at a place of it
pub place-of : {X : Type 0} (xs : List X) (x : X) → Contains xs x → (k : ℕ) × (slice_get xs k ≡ Some x)
place-of xs x (k, within, read) = (k, slice_get_read xs (length xs) k x refl within (sym read))

-- a copy in the text of some steps is their effect
copy-effect : (b k : ℕ) (v : List ℕ) (ss : List Step) (text : Text) → SaysEntries (entries ss) text →
    slice_get (text_copies text) k ≡ Some (b, v) → effect b ss ≡ Some (Copy v)
copy-effect b k v ss text says stands =
    let m : Contains (copied (entries ss)) (b, v) = subst (λ cs. Contains cs (b, v)) says.copies (among (text_copies text) k (b, v) stands) in
    entries-effect ss b (Copy v) (copied-entry (entries ss) b v m)

-- a block that the text of some steps revokes has that effect
revoke-effect : (b : ℕ) (ss : List Step) (text : Text) → SaysEntries (entries ss) text → Contains (text_revokes text) b → effect b ss ≡ Some Revoke
revoke-effect b ss text says m =
    entries-effect ss b Revoke (revoked-entry (entries ss) b (subst (λ ns. Contains ns b) says.revokes m))

-- the copy that some steps leave of a block stands in their text
copy-stands : (b : ℕ) (v : List ℕ) (ss : List Step) (text : Text) → SaysEntries (entries ss) text → effect b ss ≡ Some (Copy v) →
    Contains (text_copies text) (b, v)
copy-stands b v ss text says made =
    let m = contains-filter_map (λ (p : ℕ × Entry). copy_of p.0 p.1) (entries ss) (b, Copy v) (b, v) (effect-entries ss b (Copy v) made) refl in
    subst (λ cs. Contains cs (b, v)) (sym says.copies) m

-- a block that some steps leave revoked is revoked by their text
revoke-stands : (b : ℕ) (ss : List Step) (text : Text) → SaysEntries (entries ss) text → effect b ss ≡ Some Revoke → Contains (text_revokes text) b
revoke-stands b ss text says made =
    let m = contains-filter_map (λ (p : ℕ × Entry). revoke_of p.0 p.1) (entries ss) (b, Revoke) b (effect-entries ss b Revoke made) refl in
    subst (λ ns. Contains ns b) (sym says.revokes) m

-- if steps leave a block copied, that is the last copy in their text
last-copy : (b : ℕ) (v : List ℕ) (ss : List Step) (text : Text) → SaysEntries (entries ss) text → effect b ss ≡ Some (Copy v) → LastOf b (text_copies text) →
    (k : ℕ) × (slice_get (text_copies text) k ≡ Some (b, v)) × ((m : ℕ) (w : List ℕ) → slice_get (text_copies text) m ≡ Some (b, w) → m ≤ k)
last-copy b v ss text says made (Nowhere none) =
    let (k, stands) = place-of (text_copies text) (b, v) (copy-stands b v ss text says made) in
    absurd (none k v stands)
last-copy b v ss text says made (Last k w stands last) =
    let same : Some (Copy w) ≡ Some (Copy v) = sym (copy-effect b k w ss text says stands) ∙ made in
    let bytes : w ≡ v = cc in
    (k, stands ∙ ap (λ u. Some (b, u)) bytes, last)

-- what the text of some steps says of a block is their effect
says-of : (b : ℕ) (ss : List Step) (text : Text) → SaysEntries (entries ss) text → (f : Option Entry) → effect b ss ≡ f → Says b text f
says-of b ss text says None made = (
  λ k v stands. none-some (Copy v) (sym made ∙ copy-effect b k v ss text says stands),
  λ m. none-some Revoke (sym made ∙ revoke-effect b ss text says m),
)
says-of b ss text says (Some Revoke) made = revoke-stands b ss text says made
says-of b ss text says (Some (Copy v)) made = (
  last-copy b v ss text says made (last-of b (text_copies text)),
  λ m. let same : Some (Copy v) ≡ Some Revoke = sym made ∙ revoke-effect b ss text says m in absurd cc,
)

-- the texts have the entries of these transactions, in order
abbrev pub AreTextsOf : History → List Text → Type 0
AreTextsOf [] [] = Unit {0}
AreTextsOf (t ∷ ts) (x ∷ xs) = SaysEntries (entries t.steps) x × AreTextsOf ts xs
AreTextsOf [] (x ∷ xs) = ⊥
AreTextsOf (t ∷ ts) [] = ⊥

-- the empty chain says nothing of a block
none-said : (b : ℕ) → LeavesOf b [] None
none-said b = (λ i k v l. none-some l.text l.stands, λ c. none-some c.text c.stands)

-- a chain leaves of a block the last effect of its transactions
leaves-last : (b : ℕ) (ts : History) (xs : List Text) → AreTextsOf ts xs → LeavesOf b xs (last_effect b ts)
leaves-last b [] [] are = none-said b
leaves-last b [] (x ∷ xs) are = absurd are
leaves-last b (t ∷ ts) [] are = absurd are
leaves-last b (t ∷ ts) (x ∷ xs) are =
    leaves-step b x xs (effect b t.steps) (last_effect b ts) (says-of b t.steps x are.0 (effect b t.steps) refl) (leaves-last b ts xs are.1)

-- what is left of a block is its content
left-replayed : (b : ℕ) (xs : List Text) (o : Option Entry) (home : List ℕ) → LeavesOf b xs o →
    IsNewest xs b (bytes_of (content_of o) home) ⊎ (HasNoLive xs b × (bytes_of (content_of o) home ≡ home))
left-replayed b xs None home left = inr (left.0, refl)
left-replayed b xs (Some Revoke) home left = inr (left.0, refl)
left-replayed b xs (Some (Copy v)) home left = inl left

-- the own texts of batches have the entries of their transactions
own-texts-of : (l : Layout) (uuid : List ℕ) (ts : History) (bs : List Batch) → IsLayout l → AreBatchesOf ts bs →
    AreTextsOf ts (map (λ b. own_text l uuid b.tid b.entries) bs)
own-texts-of l uuid [] [] layout are = tt
own-texts-of l uuid [] (b ∷ bs) layout are = absurd are
own-texts-of l uuid (t ∷ ts) [] layout are = absurd are
own-texts-of l uuid (t ∷ ts) (b ∷ bs) layout are = (
  record {
    copies = own_text_copies l uuid b.tid b.entries layout ∙ ap copied are.1;
    revokes = own_text_revokes l uuid b.tid b.entries layout ∙ ap revoked are.1;
  },
  own-texts-of l uuid ts bs layout are.2,
)

-- the replay makes the volume that the first transactions leave
pub own-replayed : (count : ℕ) (l : Layout) (uuid : List ℕ) (ts : History) (bs : List Batch) (left : Volume) → IsLayout l → AreBatchesOf ts bs →
    IsReplayed count (map (λ b. own_text l uuid b.tid b.entries) bs) left (λ b. bytes_of (content_of (last_effect b ts)) (left b))
own-replayed count l uuid ts bs left layout are b below =
    left-replayed b (map (λ x. own_text l uuid x.tid x.entries) bs) (last_effect b ts) (left b) (leaves-last b ts _ (own-texts-of l uuid ts bs layout are))
