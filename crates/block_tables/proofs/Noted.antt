-- What is noted of a block decides as its last effect does, once all transactions but the last are committed.
use Rattle.std.proofs.Common.{inl, inr, refl, sym, ap, subst, ◌∙◌, arith, zero}
use Rattle.std.specs.Prelude.{◌≡◌, ◌⊎◌, ℕ, suc, ◌==◌, Bool, true, false, if◌then◌else◌, List, [], ◌∷◌, ◌++◌, length, map, Option, Some, None, slice_get, Contains}
use Rattle.std.proofs.lemmas.Bool.{cases_eq}
use Rattle.std.proofs.lemmas.Bool.Decides.{nat_tests}
use Rattle.std.proofs.lemmas.Option.{none-some, same_Some}
use Rattle.journal_model.specs.declared.entry.Batch.{Batch}
use Rattle.journal_model.specs.declared.entry.Entry.{Entry}
use Rattle.journal_model.proofs.ListElements.{contains-cases, contains-none}
use Rattle.block_tables.specs.Effects.{LastEffect, effect_of, last_among, last_effect, noted_effect, once_committed}
use Rattle.block_tables.specs.Effects.LastEffect.{Copied, Revoked}

-- the noted effect after one more transaction
pub noted-more : (ts : List Batch) (t : Batch) (b : ℕ) (before : Option LastEffect) →
    noted_effect (ts ++ t ∷ []) b before ≡ last_among t.tid t.entries b (once_committed (noted_effect ts b before))
noted-more [] t b before = refl
noted-more (u ∷ ts) t b before = noted-more ts t b (last_among u.tid u.entries b (once_committed before))

-- a revoke is forgotten: nothing is noted
pub record Forgets (noted last : Option LastEffect) : Type 0 where
  pub none : noted ≡ None
  pub tid : ℕ
  pub revoked : last ≡ Some (Revoked tid)

abbrev pub Fits : Option LastEffect → Option LastEffect → Type 0
Fits noted last = (noted ≡ last) ⊎ Forgets noted last

forget : (noted last : Option LastEffect) → Fits noted last → Fits (once_committed noted) last
forget None last (inl same) = inl same
forget (Some Copied) last (inl same) = inl same
forget (Some (Revoked tid)) last (inl same) = inr (record { none = refl; tid = tid; revoked = sym same })
forget noted last (inr f) = inr (record { none = ap once_committed f.none; tid = f.tid; revoked = f.revoked })

-- after a transaction with an entry of the block both are the same
among-fits : (tid : ℕ) (es : List (ℕ × Entry)) (b : ℕ) (noted last : Option LastEffect) → Fits noted last →
    (last_among tid es b noted ≡ last_among tid es b last)
    ⊎ (Fits (last_among tid es b noted) (last_among tid es b last) × (Contains (map (λ e. e.0) es) b → ⊥))
among-fits tid [] b noted last fits = inr (fits, λ has. contains-none b has)
among-fits tid (e ∷ es) b noted last fits =
    let after = λ (o : Option LastEffect) (t : Bool). last_among tid es b (if t then Some (effect_of tid e.1) else o) in
    elim (cases_eq e.0 b) [
      | inl here ↦ let test : (e.0 == b) ≡ true = grind (arith, nat_tests) in inl (ap (after noted) test ∙ sym (ap (after last) test))
      | inr other ↦
          let test : (e.0 == b) ≡ false = grind (arith, nat_tests) in
          elim (among-fits tid es b noted last fits) [
            | inl same ↦ inl (ap (after noted) test ∙ same ∙ sym (ap (after last) test))
            | inr (further, none) ↦
                inr (
                  subst (λ (t : Bool). Fits (after noted t) (after last t)) (sym test) further,
                  λ has. elim (contains-cases e.0 (map (λ e. e.0) es) b has) [ inl is ↦ other is | inr behind ↦ none behind ],
                )
          ]
    ]

-- the last transaction has no entry of the block
abbrev pub LastLacks : List Batch → ℕ → Type 0
LastLacks ts b = (i : ℕ) (t : Batch) → slice_get ts i ≡ Some t → suc i ≡ length ts → Contains (map (λ e. e.0) t.entries) b → ⊥

lacks-one : (t : Batch) (b : ℕ) → (Contains (map (λ e. e.0) t.entries) b → ⊥) → LastLacks (t ∷ []) b
lacks-one t b none zero u stands last has = none (subst (λ (x : Batch). Contains (map (λ e. e.0) x.entries) b) (sym (same_Some t u stands)) has)
lacks-one t b none (suc i) u stands last has = none-some u stands

lacks-behind : (t u : Batch) (ts : List Batch) (b : ℕ) → LastLacks (u ∷ ts) b → LastLacks (t ∷ u ∷ ts) b
lacks-behind t u ts b lacks zero v stands last has = absurd (omega arith)
lacks-behind t u ts b lacks (suc i) v stands last has = lacks i v stands (omega arith) has

-- what is noted is the last effect; or that is a revoke, and not of the last transaction
pub noted-fits : (ts : List Batch) (b : ℕ) (noted last : Option LastEffect) → Fits noted last →
    (noted_effect ts b noted ≡ last_effect ts b last) ⊎ (Forgets (noted_effect ts b noted) (last_effect ts b last) × LastLacks ts b)
noted-fits [] b noted last (inl same) = inl same
noted-fits [] b noted last (inr f) = inr (f, λ i t stands. absurd (none-some t stands))
noted-fits (t ∷ []) b noted last fits =
    elim (among-fits t.tid t.entries b (once_committed noted) last (forget noted last fits)) [
      | inl same ↦ inl same
      | inr (inl same, none) ↦ inl same
      | inr (inr f, none) ↦ inr (f, lacks-one t b none)
    ]
noted-fits (t ∷ u ∷ ts) b noted last fits =
    let further : Fits (last_among t.tid t.entries b (once_committed noted)) (last_among t.tid t.entries b last) =
    elim (among-fits t.tid t.entries b (once_committed noted) last (forget noted last fits)) [ inl same ↦ inl same | inr (both, none) ↦ both ] in
    elim (noted-fits (u ∷ ts) b (last_among t.tid t.entries b (once_committed noted)) (last_among t.tid t.entries b last) further) [
      | inl same ↦ inl same
      | inr (f, lacks) ↦ inr (f, lacks-behind t u ts b lacks)
    ]
