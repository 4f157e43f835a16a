-- The last effect on a block is that of its last entry.
use Rattle.std.proofs.Common.{inl, inr, refl, sym, ap, subst, ◌∙◌, arith, zero}
use Rattle.std.specs.Prelude.{◌≡◌, ◌⊎◌, ◌↔◌, ℕ, suc, ◌<◌, ◌==◌, Bool, true, false, if◌then◌else◌, List, [], ◌∷◌, ◌++◌, map, Option, Some, None, slice_get, Contains}
use Rattle.std.proofs.lemmas.Bool.{cases_eq}
use Rattle.std.proofs.lemmas.Bool.Decides.{nat_tests}
use Rattle.std.proofs.lemmas.Option.{none-some, same_Some}
use Rattle.journal_model.specs.declared.entry.Batch.{Batch}
use Rattle.journal_model.specs.declared.entry.Entry.{Entry}
use Rattle.journal_model.proofs.ListElements.{contains-behind, contains-cases, contains-first, contains-none}
use Rattle.block_tables.specs.Effects.{HasLast, HasNoEntry, LastEffect, effect_of, last_among, last_effect}

-- an entry is of its block
entry-block : (es : List (ℕ × Entry)) (b : ℕ) (entry : Entry) → Contains es (b, entry) → Contains (map (λ e. e.0) es) b
entry-block [] b entry has = absurd (contains-none (b, entry) has)
entry-block (e ∷ es) b entry has =
    elim (contains-cases e es (b, entry) has) [
      | inl same ↦ contains-first e.0 (map (λ e. e.0) es) b (ap (λ (p : ℕ × Entry). p.0) same)
      | inr behind ↦ contains-behind e.0 (map (λ e. e.0) es) b (entry-block es b entry behind)
    ]

-- entries without one of the block leave its effect
abbrev KeepsEffect : ℕ → List (ℕ × Entry) → ℕ → Option LastEffect → Type 0
KeepsEffect tid es b before = (last_among tid es b before ≡ before) × (Contains (map (λ e. e.0) es) b → ⊥)

-- otherwise one of them is the last
record HasEntry (tid : ℕ) (es : List (ℕ × Entry)) (b : ℕ) (before : Option LastEffect) : Type 0 where
  entry : Entry
  has : Contains es (b, entry)
  is : last_among tid es b before ≡ Some (effect_of tid entry)

among-cases : (tid : ℕ) (es : List (ℕ × Entry)) (b : ℕ) (before : Option LastEffect) → KeepsEffect tid es b before ⊎ HasEntry tid es b before
among-cases tid [] b before = inl (refl, λ has. contains-none b has)
among-cases tid (e ∷ es) b before =
    let own = λ (t : Bool). if t then Some (effect_of tid e.1) else before in
    elim (among-cases tid es b (own (e.0 == b))) [
      | inl (same, none) ↦
          elim (cases_eq e.0 b) [
            | inl here ↦
                let test : (e.0 == b) ≡ true = grind (arith, nat_tests) in
                inr (record { entry = e.1; has = contains-first e es (b, e.1) (ap (λ (n : ℕ). (n, e.1)) here); is = same ∙ ap own test })
            | inr other ↦
                let test : (e.0 == b) ≡ false = grind (arith, nat_tests) in
                inl (same ∙ ap own test, λ has. elim (contains-cases e.0 (map (λ e. e.0) es) b has) [ inl is ↦ other is | inr behind ↦ none behind ])
          ]
      | inr l ↦ inr (record { entry = l.entry; has = contains-behind e es (b, l.entry) l.has; is = l.is })
    ]

none-first : (t : Batch) (ts : List Batch) (b : ℕ) → (Contains (map (λ e. e.0) t.entries) b → ⊥) → HasNoEntry ts b → HasNoEntry (t ∷ ts) b
none-first t ts b untouched none zero u stands has =
    untouched (subst (λ (x : Batch). Contains (map (λ e. e.0) x.entries) b) (sym (same_Some t u stands)) has)
none-first t ts b untouched none (suc i) u stands has = none i u stands has

last-first : (t : Batch) (ts : List Batch) (b : ℕ) (entry : Entry) → Contains t.entries (b, entry) → HasNoEntry ts b → HasLast (t ∷ ts) b (effect_of t.tid entry)
last-first t ts b entry has none = record { index = 0; transaction = t; stands = refl; entry = entry; has = has; is = refl; last = last }
  where
    last : (j : ℕ) (later : Batch) → 0 < j → slice_get (t ∷ ts) j ≡ Some later → Contains (map (λ e. e.0) later.entries) b → ⊥
    last zero later after stands among = absurd (omega arith)
    last (suc j) later after stands among = none j later stands among

last-behind : (t : Batch) (ts : List Batch) (b : ℕ) (effect : LastEffect) → HasLast ts b effect → HasLast (t ∷ ts) b effect
last-behind t ts b effect l = record {
  index = suc l.index;
  transaction = l.transaction;
  stands = l.stands;
  entry = l.entry;
  has = l.has;
  is = l.is;
  last = last;
}
  where
    last : (j : ℕ) (later : Batch) → suc l.index < j → slice_get (t ∷ ts) j ≡ Some later → Contains (map (λ e. e.0) later.entries) b → ⊥
    last zero later after stands among = absurd (omega arith)
    last (suc j) later after stands among = l.last j later (omega arith) stands among

-- without an entry the effect stays, otherwise an entry is the last
last-cases : (ts : List Batch) (b : ℕ) (before : Option LastEffect) →
    ((last_effect ts b before ≡ before) × HasNoEntry ts b) ⊎ ((effect : LastEffect) × HasLast ts b effect × (last_effect ts b before ≡ Some effect))
last-cases [] b before = inl (refl, λ i t stands has. none-some t stands)
last-cases (t ∷ ts) b before =
    elim (last-cases ts b (last_among t.tid t.entries b before)) [
      | inl (same, none) ↦
          elim (among-cases t.tid t.entries b before) [
            | inl (kept, untouched) ↦ inl (same ∙ kept, none-first t ts b untouched none)
            | inr l ↦ inr (effect_of t.tid l.entry, last-first t ts b l.entry l.has none, same ∙ l.is)
          ]
      | inr (effect, l, is) ↦ inr (effect, last-behind t ts b effect l, is)
    ]

-- no transaction has an entry of a block without a last effect
pub none-entered : (ts : List Batch) (b : ℕ) → (last_effect ts b None ≡ None) ↔ HasNoEntry ts b
none-entered ts b = (
  λ is. elim (last-cases ts b None) [ inl (same, none) ↦ none | inr (effect, l, some) ↦ absurd (none-some effect (sym is ∙ some)) ],
  λ none.
      elim (last-cases ts b None) [
        | inl (same, untouched) ↦ same
        | inr (effect, l, some) ↦ absurd (none l.index l.transaction l.stands (entry-block l.transaction.entries b l.entry l.has))
      ],
)

-- a last effect is that of an entry in the last such transaction
pub some-last : (ts : List Batch) (b : ℕ) (effect : LastEffect) → last_effect ts b None ≡ Some effect → HasLast ts b effect
some-last ts b effect is =
    elim (last-cases ts b None) [
      | inl (same, none) ↦ absurd (none-some effect (sym same ∙ is))
      | inr (other, l, some) ↦ subst (HasLast ts b) (same_Some other effect (sym some ∙ is)) l
    ]

-- the last effect after one more transaction
pub last-more : (ts : List Batch) (t : Batch) (b : ℕ) (before : Option LastEffect) →
    last_effect (ts ++ t ∷ []) b before ≡ last_among t.tid t.entries b (last_effect ts b before)
last-more [] t b before = refl
last-more (u ∷ ts) t b before = last-more ts t b (last_among u.tid u.entries b before)
