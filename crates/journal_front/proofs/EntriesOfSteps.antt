-- The entries of steps: look-ups, and one more touch.
use Rattle.std.proofs.Common.{◌≡◌, inl, inr, ℕ, ◌+◌, ◌==◌, false, if◌then◌else◌, List, [], ◌∷◌, ◌++◌, length, map, Option, Some, None, refl, sym, ◌∙◌, ap, subst, arith, nat_eq, eq-eqb}
use Rattle.std.proofs.lemmas.Bool.{cases_eq}
use Rattle.std.proofs.lemmas.Bool.Decides.{nat_tests}
use Rattle.std.proofs.lemmas.Map.Entries.{lookup_from_place, place_from_lookup}
use Rattle.std.proofs.lemmas.Map.Keys.{IsDistinct-head, IsDistinct-tail}
use Rattle.std.proofs.lemmas.Option.{get_or_from_slice_get, none-some, same_Some, slice_get-get_or, slice_get_within}
use Rattle.std.specs.Cmp.{nat_eq_equiv}
use Rattle.std.specs.List.{AllByRecursion, Contains, IsDistinct, slice_get}
use Rattle.std.specs.Map.{keys_of, lookup}
use Rattle.std.specs.Option.{option_map_or}
use Rattle.indexmap.specs.IndexMap.{insert_entry}
use Rattle.journal_model.specs.declared.entry.Entry.{Entry}
use Rattle.journal_model.specs.declared.transaction.Step.{Step}
use Rattle.journal_model.specs.Transaction.{effect, entries, entry_of}
use Rattle.journal_model.proofs.Effects.{effect-entries, entries-blocks, entries-effect, entries-push_known, entries-push_new, entries-push_read, touched-distinct}
use Rattle.journal_model.proofs.ListElements.{option-known}
use Rattle.journal_front.specs.Transaction.{cost, touch_of}

-- what a look-up finds is an element
lookup-element : (b : ℕ) (e : Entry) (es : List (ℕ × Entry)) → lookup (nat_eq b) es ≡ Some e → Contains es (b, e)
lookup-element b e es found =
    let place = place_from_lookup (nat_eq b) es e found in
    let same : b ≡ place.1 = grind (arith, nat_tests, place.3) in
    let at : slice_get es place.0 ≡ Some (b, e) = place.2 ∙ ap (λ (c : ℕ). Some (c, e)) (sym same) in
    (place.0, slice_get_within es place.0 (b, e) at, get_or_from_slice_get es place.0 (b, e) (b, e) at)

-- the blocks of the entries are distinct
entries-distinct : (ss : List Step) → IsDistinct nat_eq (keys_of (entries ss))
entries-distinct ss = subst (IsDistinct nat_eq) (sym (entries-blocks ss)) (touched-distinct ss)

-- a look-up of a block finds its effect
pub lookup-effect : (ss : List Step) (b : ℕ) → lookup (nat_eq b) (entries ss) ≡ effect b ss
lookup-effect ss b =
    elim (option-known (effect b ss)) [
      | inl none ↦
          elim (option-known (lookup (nat_eq b) (entries ss))) [
            | inl absent ↦ absent ∙ sym none
            | inr (e, found) ↦ absurd (none-some e (sym none ∙ entries-effect ss b e (lookup-element b e (entries ss) found)))
          ]
      | inr (e, some) ↦
          let there = effect-entries ss b e some in
          let at : slice_get (entries ss) there.0 ≡ Some (b, e) = slice_get-get_or (entries ss) there.0 (b, e) there.1 ∙ ap Some there.2 in
          lookup_from_place nat_eq_equiv (entries ss) there.0 b e (entries-distinct ss) at ∙ sym some
    ]

-- if there is no entry of block b, an insertion adds one at the end
insert-absent : (b : ℕ) (e : Entry) (es : List (ℕ × Entry)) → lookup (nat_eq b) es ≡ None → insert_entry nat_eq es b e ≡ es ++ (b, e) ∷ []
insert-absent b e [] none = refl
insert-absent b e ((c, f) ∷ es) none =
    elim (cases_eq b c) [
      | inl same ↦ absurd (none-some f (sym (rw (eq-eqb b c same) at none)))
      | inr other ↦
          let apart : nat_eq b c ≡ false = grind (arith, nat_tests) in
          rw apart (ap (λ (rest : List (ℕ × Entry)). (c, f) ∷ rest) (insert-absent b e es (rw apart at none)))
    ]

-- entries of other blocks stay
apart-same : (b : ℕ) (e : Entry) (es : List (ℕ × Entry)) → AllByRecursion (λ c. nat_eq b c ≡ false) (keys_of es) →
    map (λ p. if p.0 == b then (b, e) else p) es ≡ es
apart-same b e [] apart = refl
apart-same b e ((c, f) ∷ es) apart =
    let other : (c == b) ≡ false = grind (arith, nat_tests, apart.0) in
    rw other (ap (λ (rest : List (ℕ × Entry)). (c, f) ∷ rest) (apart-same b e es apart.1))

-- if there is an entry of block b, an insertion changes it in place
insert-present : (b : ℕ) (e old : Entry) (es : List (ℕ × Entry)) → IsDistinct nat_eq (keys_of es) → lookup (nat_eq b) es ≡ Some old →
    map (λ p. if p.0 == b then (b, e) else p) es ≡ insert_entry nat_eq es b e
insert-present b e old [] distinct found = absurd (none-some old found)
insert-present b e old ((c, f) ∷ es) distinct found =
    elim (cases_eq b c) [
      | inl same ↦
          let heads : AllByRecursion (λ d. nat_eq b d ≡ false) (keys_of es) =
          subst (λ a. AllByRecursion (λ d. nat_eq a d ≡ false) (keys_of es)) (sym same) (IsDistinct-head nat_eq c (keys_of es) distinct) in
          rw (eq-eqb b c same, eq-eqb c b (sym same), apart-same b e es heads) (ap (λ (a : ℕ). (a, e) ∷ es) same)
      | inr other ↦
          let apart : nat_eq b c ≡ false = grind (arith, nat_tests) in
          let apart_too : (c == b) ≡ false = grind (arith, nat_tests) in
          rw (apart, apart_too)
          (ap (λ (rest : List (ℕ × Entry)). (c, f) ∷ rest)
          (insert-present b e old es (IsDistinct-tail nat_eq c (keys_of es) distinct) (rw apart at found)))
    ]

-- one more touch inserts the entry of its block
pub entries-touch : (ss : List Step) (s : Step) (e : Entry) → entry_of s.op ≡ Some e →
    entries (ss ++ s ∷ []) ≡ insert_entry nat_eq (entries ss) s.block e
entries-touch ss s e made =
    elim (option-known (effect s.block ss)) [
      | inl none ↦ entries-push_new ss s e made none ∙ sym (insert-absent s.block e (entries ss) (lookup-effect ss s.block ∙ none))
      | inr (old, some) ↦
          entries-push_known ss s e old made some
          ∙ insert-present s.block e old (entries ss) (entries-distinct ss) (lookup-effect ss s.block ∙ some)
    ]

-- an insertion adds as many entries as its touch costs credits
insert-length : (es : List (ℕ × Entry)) (b : ℕ) (e : Entry) → length (insert_entry nat_eq es b e) ≡ length es + cost (touch_of (lookup (nat_eq b) es))
insert-length [] b e = refl
insert-length ((c, f) ∷ es) b e =
    elim (cases_eq b c) [
      | inl same ↦ rw (eq-eqb b c same) (omega arith)
      | inr other ↦
          let apart : nat_eq b c ≡ false = grind (arith, nat_tests) in
          let rest = insert-length es b e in
          rw apart (omega arith)
    ]

-- one more touch adds as many entries as it costs credits
pub touch-length : (ss : List Step) (s : Step) (e : Entry) → entry_of s.op ≡ Some e →
    length (entries (ss ++ s ∷ [])) ≡ length (entries ss) + cost (touch_of (effect s.block ss))
touch-length ss s e made = rw (entries-touch ss s e made, ← lookup-effect ss s.block) (insert-length (entries ss) s.block e)

-- inserting an entry that is there changes nothing
insert-same : (es : List (ℕ × Entry)) (b : ℕ) (e : Entry) → lookup (nat_eq b) es ≡ Some e → insert_entry nat_eq es b e ≡ es
insert-same [] b e found = absurd (none-some e found)
insert-same ((c, f) ∷ es) b e found =
    elim (cases_eq b c) [
      | inl same ↦
          let is : f ≡ e = same_Some f e (rw (eq-eqb b c same) at found) in
          rw (eq-eqb b c same) (ap (λ (g : Entry). (c, g) ∷ es) (sym is))
      | inr other ↦
          let apart : nat_eq b c ≡ false = grind (arith, nat_tests) in
          rw apart (ap (λ (rest : List (ℕ × Entry)). (c, f) ∷ rest) (insert-same es b e (rw apart at found)))
    ]

-- a touch that leaves the block's entry changes no entry
pub touch-again : (ss : List Step) (s : Step) (e : Entry) → entry_of s.op ≡ Some e → effect s.block ss ≡ Some e → entries (ss ++ s ∷ []) ≡ entries ss
touch-again ss s e made is = entries-touch ss s e made ∙ insert-same (entries ss) s.block e (lookup-effect ss s.block ∙ is)

-- the entries after one more step of any kind
pub entries-step : (ss : List Step) (s : Step) → entries (ss ++ s ∷ []) ≡ option_map_or (λ e. insert_entry nat_eq (entries ss) s.block e) (entry_of s.op) (entries ss)
entries-step ss s =
    elim (option-known (entry_of s.op)) [
      | inl none ↦ entries-push_read ss s none ∙ ap (λ (o : Option Entry). option_map_or (λ e. insert_entry nat_eq (entries ss) s.block e) o (entries ss)) (sym none)
      | inr (e, made) ↦ entries-touch ss s e made ∙ ap (λ (o : Option Entry). option_map_or (λ e. insert_entry nat_eq (entries ss) s.block e) o (entries ss)) (sym made)
    ]
