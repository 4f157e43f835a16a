-- Lemmas: what a choice keeps, bit by bit.
use Rattle.std.proofs.Common.{◌∙◌, ap, subst, sym, add-one, append-nil, ⊎_elim}
use Rattle.std.specs.Prelude.{◌≡◌, ◌≢◌, ℕ, ◌+◌, ◌/◌, ◌%◌, ◌^◌, Bool, eqb, false, [], ◌∷◌, ◌++◌, if◌then◌else◌}
use Rattle.std.proofs.lemmas.Bool.{eq-eqb}
use Rattle.std.proofs.lemmas.Bool.Decides.{eqb_tells}
use Rattle.script_sweep.specs.Places.{kept_from}

neq-eqb : (a b : ℕ) → (a ≢ b) → eqb a b ≡ false
neq-eqb a b not = ⊎_elim (λ one. absurd (not one.1)) (λ other. other.0) (eqb_tells a b)

-- a bit that is 1 keeps its write
pub kept-one : (first choice n : ℕ) → choice / 2 ^ n % 2 ≡ 1 → kept_from first choice (n + 1) ≡ kept_from first choice n ++ (first + n) ∷ []
kept-one first choice n one =
    subst (λ (m : ℕ). kept_from first choice m ≡ kept_from first choice n ++ (first + n) ∷ []) (sym (add-one n))
    (ap (λ (b : Bool). kept_from first choice n ++ (if b then (first + n) ∷ [] else [])) (eq-eqb (choice / 2 ^ n % 2) 1 one))

-- any other bit loses it
pub kept-none : (first choice n : ℕ) → (choice / 2 ^ n % 2 ≢ 1) → kept_from first choice (n + 1) ≡ kept_from first choice n
kept-none first choice n not =
    subst (λ (m : ℕ). kept_from first choice m ≡ kept_from first choice n) (sym (add-one n))
    (ap (λ (b : Bool). kept_from first choice n ++ (if b then (first + n) ∷ [] else [])) (neq-eqb (choice / 2 ^ n % 2) 1 not) ∙ append-nil (kept_from first choice n))
