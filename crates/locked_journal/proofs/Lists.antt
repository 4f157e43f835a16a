-- One handle's steps among others, look-ups among open handles, and a list with one more element.
use Rattle.std.proofs.Common.{refl, sym, ◌∙◌, ap, subst, arith, cond, eq-eqb, ne_eqb, append-nil, length-append}
use Rattle.std.specs.Prelude.{◌≡◌, ◌≢◌, ℕ, nat_eq, Bool, false, List, [], ◌∷◌, ◌++◌, length, map, Option, Some, None, All, Contains}
use Rattle.std.specs.List.{AllByRecursion, IsDistinct}
use Rattle.std.specs.Map.{lookup}
use Rattle.std.proofs.lemmas.Bool.Decides.{nat_tests}
use Rattle.std.proofs.lemmas.List.Elements.{filter-append, recursion_from_All}
use Rattle.std.proofs.lemmas.Map.Keys.{IsDistinct-head, IsDistinct-tail}
use Rattle.journal_model.specs.declared.transaction.Step.{Step}
use Rattle.locked_journal.specs.Own.{steps_by}

-- Different numbers compare as different.
apart : (n h : ℕ) → h ≢ n → nat_eq n h ≡ false
apart n h differs = ne_eqb n h (λ e. differs (sym e))

flipped : (n h : ℕ) → nat_eq n h ≡ false → nat_eq h n ≡ false
flipped n h differs = grind (arith, nat_tests)

-- A further step of the handle itself is one of its steps.
pub steps-of_own : (n : ℕ) (ss : List Step) (s : Step) → s.handle ≡ n → steps_by n (ss ++ s ∷ []) ≡ steps_by n ss ++ s ∷ []
steps-of_own n ss s mine =
    filter-append (λ x. nat_eq n x.handle) ss (s ∷ []) ∙ ap (λ (b : Bool). steps_by n ss ++ cond b (s ∷ []) []) (eq-eqb n s.handle (sym mine))

-- A further step of another is none.
pub steps-of_other : (n : ℕ) (ss : List Step) (s : Step) → s.handle ≢ n → steps_by n (ss ++ s ∷ []) ≡ steps_by n ss
steps-of_other n ss s differs =
    filter-append (λ x. nat_eq n x.handle) ss (s ∷ [])
    ∙ (ap (λ (b : Bool). steps_by n ss ++ cond b (s ∷ []) []) (apart n s.handle differs) ∙ append-nil (steps_by n ss))

none-by : (n : ℕ) (hs : List ℕ) (ss : List Step) → AllByRecursion (λ s. Contains hs s.handle) ss → (Contains hs n → ⊥) → steps_by n ss ≡ []
none-by n hs [] all outside = refl
none-by n hs (s ∷ ss) all outside =
    ap (λ (b : Bool). cond b (s ∷ steps_by n ss) (steps_by n ss)) (apart n s.handle (λ e. outside (subst (Contains hs) e all.0))) ∙ none-by n hs ss all.1 outside

-- If all steps are of some handles, no other has one.
pub steps-none : (n : ℕ) (hs : List ℕ) (ss : List Step) → All (λ s. Contains hs s.handle) ss → (Contains hs n → ⊥) → steps_by n ss ≡ []
steps-none n hs ss all outside = none-by n hs ss (recursion_from_All (λ s. Contains hs s.handle) ss all) outside

-- Another handle in the list does not change a look-up.
pub lookup-without : (n h left : ℕ) (before behind : List (ℕ × ℕ)) → h ≢ n →
    lookup (nat_eq n) (before ++ (h, left) ∷ behind) ≡ lookup (nat_eq n) (before ++ behind)
lookup-without n h left [] behind differs = ap (λ (b : Bool). cond b (Some left) (lookup (nat_eq n) behind)) (apart n h differs)
lookup-without n h left (o ∷ before) behind differs =
    ap (λ (r : Option ℕ). cond (nat_eq n o.0) (Some o.1) r) (lookup-without n h left before behind differs)

-- Nor do its credits.
pub lookup-changed : (n h left other : ℕ) (before behind : List (ℕ × ℕ)) → h ≢ n →
    lookup (nat_eq n) (before ++ (h, other) ∷ behind) ≡ lookup (nat_eq n) (before ++ (h, left) ∷ behind)
lookup-changed n h left other before behind differs = lookup-without n h other before behind differs ∙ sym (lookup-without n h left before behind differs)

-- Nor does one that comes last.
pub lookup-push : (n h left : ℕ) (es : List (ℕ × ℕ)) → h ≢ n → lookup (nat_eq n) (es ++ (h, left) ∷ []) ≡ lookup (nat_eq n) es
lookup-push n h left es differs = lookup-without n h left es [] differs ∙ ap (λ (l : List (ℕ × ℕ)). lookup (nat_eq n) l) (append-nil es)

-- What holds of every number holds of one of them.
number-at : (P : ℕ → Type 0) (before : List (ℕ × ℕ)) (h left : ℕ) (behind : List (ℕ × ℕ)) →
    AllByRecursion P (map (λ o. o.0) (before ++ (h, left) ∷ behind)) → P h
number-at P [] h left behind all = all.0
number-at P (o ∷ before) h left behind all = number-at P before h left behind all.1

-- A look-up finds the credits of a handle.
pub lookup-here : (h left : ℕ) (before behind : List (ℕ × ℕ)) → IsDistinct nat_eq (map (λ o. o.0) (before ++ (h, left) ∷ behind)) →
    lookup (nat_eq h) (before ++ (h, left) ∷ behind) ≡ Some left
lookup-here h left [] behind once = ap (λ (b : Bool). cond b (Some left) (lookup (nat_eq h) behind)) (eq-eqb h h refl)
lookup-here h left (o ∷ before) behind once =
    ap (λ (b : Bool). cond b (Some o.1) (lookup (nat_eq h) (before ++ (h, left) ∷ behind)))
    (flipped o.0 h (number-at (λ n. nat_eq o.0 n ≡ false) before h left behind (IsDistinct-head nat_eq o.0 (map (λ o. o.0) (before ++ (h, left) ∷ behind)) once)))
    ∙ lookup-here h left before behind (IsDistinct-tail nat_eq o.0 (map (λ o. o.0) (before ++ (h, left) ∷ behind)) once)

-- It finds none if all numbers differ.
pub lookup-none : (n : ℕ) (es : List (ℕ × ℕ)) → AllByRecursion (λ h. nat_eq n h ≡ false) (map (λ o. o.0) es) → lookup (nat_eq n) es ≡ None
lookup-none n [] all = refl
lookup-none n (e ∷ es) all = ap (λ (b : Bool). cond b (Some e.1) (lookup (nat_eq n) es)) all.0 ∙ lookup-none n es all.1

-- It finds none for a handle that is gone.
pub lookup-gone : (h left : ℕ) (before behind : List (ℕ × ℕ)) → IsDistinct nat_eq (map (λ o. o.0) (before ++ (h, left) ∷ behind)) →
    lookup (nat_eq h) (before ++ behind) ≡ None
lookup-gone h left [] behind once = lookup-none h behind (IsDistinct-head nat_eq h (map (λ o. o.0) behind) once)
lookup-gone h left (o ∷ before) behind once =
    ap (λ (b : Bool). cond b (Some o.1) (lookup (nat_eq h) (before ++ behind)))
    (flipped o.0 h (number-at (λ n. nat_eq o.0 n ≡ false) before h left behind (IsDistinct-head nat_eq o.0 (map (λ o. o.0) (before ++ (h, left) ∷ behind)) once)))
    ∙ lookup-gone h left before behind (IsDistinct-tail nat_eq o.0 (map (λ o. o.0) (before ++ (h, left) ∷ behind)) once)

-- An element of a list with one more at the end is that one, or one of the others.
pub data Split {X : Type 0} (xs : List X) (x : X) (before : List X) (y : X) (behind : List X) : Type 0 where
  IsLast : before ≡ xs → y ≡ x → behind ≡ [] → Split xs x before y behind
  IsBefore : (rest : List X) → xs ≡ before ++ y ∷ rest → behind ≡ rest ++ x ∷ [] → Split xs x before y behind

pub splits : {X : Type 0} (xs : List X) (x : X) (before : List X) (y : X) (behind : List X) → xs ++ x ∷ [] ≡ before ++ y ∷ behind →
    Split xs x before y behind
splits [] x [] y behind is =
    let head : y ≡ x = cc in
    let tail : behind ≡ [] = cc in
    IsLast refl head tail
splits [] x (b ∷ before) y behind is =
    let size : 1 ≡ length (b ∷ before ++ y ∷ behind) = ap length is in
    let sum = length-append before (y ∷ behind) in
    absurd (omega arith)
splits (z ∷ xs) x [] y behind is =
    let tail : xs ++ x ∷ [] ≡ behind = cc in
    let head : z ≡ y = cc in
    IsBefore xs (ap (λ w. w ∷ xs) head) (sym tail)
splits (z ∷ xs) x (b ∷ before) y behind is =
    let tail : xs ++ x ∷ [] ≡ before ++ y ∷ behind = cc in
    let head : z ≡ b = cc in
    more head (splits xs x before y behind tail)
  where
    more : z ≡ b → Split xs x before y behind → Split (z ∷ xs) x (b ∷ before) y behind
    more head (IsLast same one none) = let all : b ∷ before ≡ z ∷ xs = cc in IsLast all one none
    more head (IsBefore rest same last) = let all : z ∷ xs ≡ b ∷ before ++ y ∷ rest = cc in IsBefore rest all last
