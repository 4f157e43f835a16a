-- Lemmas: the keys of a set, after an insertion.
use Rattle.std.proofs.Common.{Ordering, refl, sym, inl, inr, ⊎_elim}
use Rattle.std.specs.Cmp.{nat_cmp_total}
use Rattle.std.specs.Prelude.{◌≡◌, ◌⊎◌, ◌↔◌, ℕ, true, List, [], ◌∷◌, Contains}
use Rattle.std.specs.BTreeSet.{insert_key}
use Rattle.std.specs.List.{list_any}
use Rattle.std.specs.Ordering.{eq_by_cmp, match_ordering, nat_cmp}
use Rattle.std.proofs.lemmas.Cmp.{eq_by_cmp_equiv}
use Rattle.std.proofs.lemmas.Map.Views.{Contains-from_any, list_any-from_Contains, tells_apart}
use Rattle.std.specs.declared.cmp.Ordering.TheVariants.{Less, Equal, Greater}
use Rattle.std.proofs.lemmas.Map.Lookups.{exact_unsigned}
use Rattle.journal_model.proofs.ListElements.{contains-behind, contains-cases, contains-first}

-- the key is in its place, or an equal one is
placed : (r : Ordering) (x k : ℕ) (xs more : List ℕ) → (r ≡ Equal → k ≡ x) → Contains more k → Contains (match_ordering r (k ∷ x ∷ xs) (x ∷ xs) (x ∷ more)) k
placed Less x k xs more same has = contains-first k (x ∷ xs) k refl
placed Equal x k xs more same has = contains-first x xs k (sym (same refl))
placed Greater x k xs more same has = contains-behind x more k has

pub insert-one : (ks : List ℕ) (k : ℕ) → Contains (insert_key nat_cmp ks k) k
insert-one [] k = contains-first k [] k refl
insert-one (x ∷ xs) k = placed (nat_cmp k x) x k xs (insert_key nat_cmp xs k) (exact_unsigned k x) (insert-one xs k)

-- the others stay
stays : (r : Ordering) (x k b : ℕ) (xs more : List ℕ) → Contains (x ∷ xs) b → (Contains xs b → Contains more b) → Contains (match_ordering r (k ∷ x ∷ xs) (x ∷ xs) (x ∷ more)) b
stays Less x k b xs more has on = contains-behind k (x ∷ xs) b has
stays Equal x k b xs more has on = has
stays Greater x k b xs more has on =
    ⊎_elim (λ (first : x ≡ b). contains-first x more b first) (λ (rest : Contains xs b). contains-behind x more b (on rest)) (contains-cases x xs b has)

pub insert-keeps : (ks : List ℕ) (k b : ℕ) → Contains ks b → Contains (insert_key nat_cmp ks k) b
insert-keeps [] k b has = contains-behind k [] b has
insert-keeps (x ∷ xs) k b has = stays (nat_cmp k x) x k b xs (insert_key nat_cmp xs k) has (insert-keeps xs k b)

-- only this key and the others are there
only : (r : Ordering) (x k b : ℕ) (xs more : List ℕ) → Contains (match_ordering r (k ∷ x ∷ xs) (x ∷ xs) (x ∷ more)) b → (Contains more b → Contains xs b ⊎ (k ≡ b)) → Contains (x ∷ xs) b ⊎ (k ≡ b)
only Less x k b xs more has on = ⊎_elim (λ (one : k ≡ b). inr one) (λ (rest : Contains (x ∷ xs) b). inl rest) (contains-cases k (x ∷ xs) b has)
only Equal x k b xs more has on = inl has
only Greater x k b xs more has on =
    ⊎_elim
    (λ (first : x ≡ b). inl (contains-first x xs b first))
    (λ (rest : Contains more b).
    ⊎_elim (λ (old : Contains xs b). inl (contains-behind x xs b old)) (λ (one : k ≡ b). inr one) (on rest))
    (contains-cases x more b has)

pub insert-only : (ks : List ℕ) (k b : ℕ) → Contains (insert_key nat_cmp ks k) b → Contains ks b ⊎ (k ≡ b)
insert-only [] k b has = ⊎_elim (λ (one : k ≡ b). inr one) (λ (rest : Contains [] b). inl rest) (contains-cases k [] b has)
insert-only (x ∷ xs) k b has = only (nat_cmp k x) x k b xs (insert_key nat_cmp xs k) has (insert-only xs k b)

-- a look-up finds exactly the keys that are there
pub finds-key : (ks : List ℕ) (k : ℕ) → (list_any (eq_by_cmp nat_cmp k) ks ≡ true) ↔ Contains ks k
finds-key ks k = (Contains-from_any (tells_apart exact_unsigned) k ks, list_any-from_Contains (eq_by_cmp_equiv nat_cmp_total) k ks)
