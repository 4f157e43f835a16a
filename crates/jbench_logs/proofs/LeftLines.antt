-- An opening's line, by whether a number is left for the next one.
use Rattle.std.proofs.Common.{◌≡◌, List, ap, append_assoc, refl, sym, ℕ}
use Rattle.std.proofs.lemmas.Bool.{false≢true}
use Rattle.std.specs.Prelude.{Bool, true, false, not, ◌&&◌, nat_lt, if◌then◌else◌, [], ◌∷◌, ◌++◌, Option, Some, None, codes}
use Rattle.std.specs.Fmt.{decimal}
use Rattle.log_model.specs.Dump.{newline}
use Rattle.log_model.specs.Opening.{greatest_number}
use Rattle.jbench_logs.specs.Said.{left_line, next_left, none_line, number_left, opened_line}

chosen : {A : Type 0} (b : Bool) → not b ≡ false → (x y : A) → (if b then x else y) ≡ x
chosen true is x y = refl
chosen false is x y = absurd (false≢true (sym is))

other : {A : Type 0} (b : Bool) → not b ≡ true → (x y : A) → (if b then x else y) ≡ y
other true is x y = absurd (false≢true is)
other false is x y = refl

next-there : (written : Bool) (next : ℕ) → (written && not (nat_lt next greatest_number)) ≡ false → next_left written next ≡ decimal next
next-there true next is = chosen (nat_lt next greatest_number) is (decimal next) (codes "none")
next-there false next is = refl

next-none : (written : Bool) (next : ℕ) → (written && not (nat_lt next greatest_number)) ≡ true → next_left written next ≡ codes "none"
next-none true next is = other (nat_lt next greatest_number) is (decimal next) (codes "none")
next-none false next is = absurd (false≢true is)

-- a number is left: the line is an opening's
pub line-there : (clean written : Bool) (ends_at transactions next : ℕ) → (written && not (nat_lt next greatest_number)) ≡ false →
    left_line clean written ends_at transactions next ≡ opened_line clean ends_at transactions next
line-there true written ends_at transactions next is =
    ap (λ (text : List ℕ). codes "clean next=" ++ text ++ newline ∷ []) (next-there written next is)
line-there false written ends_at transactions next is =
    ap (λ (text : List ℕ). codes "recovered end=" ++ decimal ends_at ++ codes " next=" ++ text ++ codes " transactions=" ++ decimal transactions ++ newline ∷ [])
    (next-there written next is)

-- no number is left
pub line-none : (clean written : Bool) (ends_at transactions next : ℕ) → (written && not (nat_lt next greatest_number)) ≡ true →
    left_line clean written ends_at transactions next ≡ none_line clean ends_at transactions
line-none true written ends_at transactions next is = ap (λ (text : List ℕ). codes "clean next=" ++ text ++ newline ∷ []) (next-none written next is)
line-none false written ends_at transactions next is =
    simp append_assoc (ap (λ (text : List ℕ). codes "recovered end=" ++ (decimal ends_at ++ (codes " next=" ++ (text ++ (codes " transactions=" ++ (decimal transactions ++ newline ∷ []))))))
    (next-none written next is))

-- the number that is left
pub number-there : (written : Bool) (next : ℕ) → (written && not (nat_lt next greatest_number)) ≡ false → number_left written next ≡ Some next
number-there true next is = chosen (nat_lt next greatest_number) is (Some next) None
number-there false next is = refl

pub number-none : (written : Bool) (next : ℕ) → (written && not (nat_lt next greatest_number)) ≡ true → number_left written next ≡ None
number-none true next is = other (nat_lt next greatest_number) is (Some next) None
number-none false next is = absurd (false≢true is)
