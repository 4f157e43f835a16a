-- One bit of a page is written: it has the new value, and the others stay.
use Rattle.std.proofs.Common.{◌≡◌, ◌≢◌, ◌<◌, ◌==◌, ℕ, if◌then◌else◌, arith, ap, sym, ◌∙◌, inl, inr, ◌/◌, ◌%◌, Bool, true, false, nat_eq, List, get_or, length, slice_set}
use Rattle.std.proofs.lemmas.Bool.{cases_eq}
use Rattle.std.proofs.lemmas.Bool.Decides.{nat_tests}
use Rattle.std.proofs.lemmas.Grind.{get_or-set_at}
use Rattle.std.proofs.lemmas.List.{get_or-set_other}
use Rattle.std.specs.Int.{bit_at}
use Rattle.block_tables.specs.BlockSet.{has_bit}

module _ (words : List ℕ) (i v : ℕ) (is : Bool) (eight : length words ≡ 8) (small : i < 512) (here : nat_eq (bit_at v (i % 64)) 1 ≡ is)
    (there : (k : ℕ) → k < 64 → k ≢ i % 64 → bit_at v k ≡ bit_at (get_or words (i / 64) 0) k) where
  -- the word of bit i has another value
  pub one-bit : (j : ℕ) → j < 512 → has_bit (slice_set words (i / 64) v) j ≡ (if i == j then is else has_bit words j)
  one-bit j within =
      elim (cases_eq (j / 64) (i / 64)) [
        | inl word ↦
            let written : get_or (slice_set words (i / 64) v) (j / 64) 0 ≡ v = get_or-set_at words (i / 64) (j / 64) v 0 word (omega arith) in
            elim (cases_eq (j % 64) (i % 64)) [
              | inl bit ↦
                  let same : (i == j) ≡ true = grind (arith, nat_tests) in
                  ap (λ (w : ℕ). nat_eq (bit_at w (j % 64)) 1) written ∙ ap (λ (k : ℕ). nat_eq (bit_at v k) 1) bit ∙ here
                  ∙ sym (ap (λ (t : Bool). if t then is else has_bit words j) same)
              | inr other ↦
                  let apart : (i == j) ≡ false = grind (arith, nat_tests) in
                  ap (λ (w : ℕ). nat_eq (bit_at w (j % 64)) 1) written
                  ∙ ap (λ (x : ℕ). nat_eq x 1) (there (j % 64) (omega arith) other ∙ ap (λ (k : ℕ). bit_at (get_or words k 0) (j % 64)) (sym word))
                  ∙ sym (ap (λ (t : Bool). if t then is else has_bit words j) apart)
            ]
        | inr other ↦
            let apart : (i == j) ≡ false = grind (arith, nat_tests) in
            ap (λ (w : ℕ). nat_eq (bit_at w (j % 64)) 1) (get_or-set_other words (i / 64) (j / 64) v 0 other)
            ∙ sym (ap (λ (t : Bool). if t then is else has_bit words j) apart)
      ]
