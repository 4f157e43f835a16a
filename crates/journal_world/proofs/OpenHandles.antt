-- Lists of open handles: one among others, the rest, and their credits.
use Rattle.std.proofs.Common.{sym, subst, ◌∙◌, arith}
use Rattle.std.specs.Prelude.{◌≡◌, ℕ, ◌+◌, nat_eq, false, List, [], ◌∷◌, ◌++◌, map}
use Rattle.std.specs.List.{AllByRecursion, IsDistinct, sum_by}
use Rattle.std.proofs.lemmas.List.{map-append}
use Rattle.std.proofs.lemmas.List.Sums.{sum_by-append, sum_by-cons}
use Rattle.std.proofs.lemmas.Map.Keys.{IsDistinct-cons, IsDistinct-head, IsDistinct-tail}
use Rattle.journal_world.specs.Front.{left_in}

-- a fact of each element but one
pub all-without : {X : Type 0} (P : X → Type 0) (xs : List X) (y : X) (zs : List X) → AllByRecursion P (xs ++ y ∷ zs) → AllByRecursion P (xs ++ zs)
all-without P [] y zs all = all.1
all-without P (x ∷ xs) y zs all = (all.0, all-without P xs y zs all.1)

-- a fact of each element after one of them changed
pub all-changed : {X : Type 0} (P : X → Type 0) (xs : List X) (y other : X) (zs : List X) → (P y → P other) → AllByRecursion P (xs ++ y ∷ zs) →
    AllByRecursion P (xs ++ other ∷ zs)
all-changed P [] y other zs step all = (step all.0, all.1)
all-changed P (x ∷ xs) y other zs step all = (all.0, all-changed P xs y other zs step all.1)

-- different numbers stay different without one
distinct-but : (xs : List ℕ) (y : ℕ) (zs : List ℕ) → IsDistinct nat_eq (xs ++ y ∷ zs) → IsDistinct nat_eq (xs ++ zs)
distinct-but [] y zs once = IsDistinct-tail nat_eq y zs once
distinct-but (x ∷ xs) y zs once =
    IsDistinct-cons nat_eq x (xs ++ zs) (all-without (λ z. nat_eq x z ≡ false) xs y zs (IsDistinct-head nat_eq x (xs ++ y ∷ zs) once))
    (distinct-but xs y zs (IsDistinct-tail nat_eq x (xs ++ y ∷ zs) once))

-- the numbers of handles are different without one of them
pub distinct-without : (xs : List (ℕ × ℕ)) (y : ℕ × ℕ) (zs : List (ℕ × ℕ)) → IsDistinct nat_eq (map (λ h. h.0) (xs ++ y ∷ zs)) →
    IsDistinct nat_eq (map (λ h. h.0) (xs ++ zs))
distinct-without xs y zs once =
    let number : ℕ × ℕ → ℕ = λ h. h.0 in
    subst (IsDistinct nat_eq) (sym (map-append number xs zs))
    (distinct-but (map number xs) y.0 (map number zs) (subst (IsDistinct nat_eq) (map-append number xs (y ∷ zs)) once))

-- other credits of a handle leave the numbers
pub same-numbers : (xs : List (ℕ × ℕ)) (h n m : ℕ) (zs : List (ℕ × ℕ)) → map (λ h. h.0) (xs ++ (h, n) ∷ zs) ≡ map (λ h. h.0) (xs ++ (h, m) ∷ zs)
same-numbers xs h n m zs =
    let number : ℕ × ℕ → ℕ = λ h. h.0 in
    map-append number xs ((h, n) ∷ zs) ∙ sym (map-append number xs ((h, m) ∷ zs))

-- the credits of one handle and of those around it
pub left-among : (xs : List (ℕ × ℕ)) (h n : ℕ) (zs : List (ℕ × ℕ)) → left_in (xs ++ (h, n) ∷ zs) ≡ left_in xs + n + left_in zs
left-among xs h n zs =
    let credits : ℕ × ℕ → ℕ = λ h. h.1 in
    let parts : sum_by credits (xs ++ (h, n) ∷ zs) ≡ sum_by credits xs + sum_by credits ((h, n) ∷ zs) = sum_by-append credits xs ((h, n) ∷ zs) in
    let one : sum_by credits ((h, n) ∷ zs) ≡ n + sum_by credits zs = sum_by-cons credits (h, n) zs in
    omega arith

-- the credits of the others alone
pub left-without : (xs zs : List (ℕ × ℕ)) → left_in (xs ++ zs) ≡ left_in xs + left_in zs
left-without xs zs = sum_by-append (λ h. h.1) xs zs
