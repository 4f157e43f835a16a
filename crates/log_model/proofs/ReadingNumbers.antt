-- The bytes of a revoke block determine its numbers.
use Rattle.std.proofs.Common.{◌≡◌, ℕ, ◌+◌, ◌*◌, ◌/◌, ◌<◌, ◌≤◌, List, [], ◌∷◌, ◌++◌, length, arith, sym, ◌∙◌, ap}
use Rattle.std.proofs.Math.Nat.{mul-div_cancel_left}
use Rattle.std.specs.List.{All}
use Rattle.std.proofs.lemmas.List.FromFn.{get_or-map-range_with_len, length-map-range_with_len, map-range_with_len_more}
use Rattle.journal_model.specs.Layout.{Layout, number_at, HasHeader, revoke_type, revoke_header_bytes}
use Rattle.log_model.specs.RevokeBlock.{numbers_in, IsRevokeBlock}

-- number i of a revoke block
abbrev pub number_in : Layout → List ℕ → ℕ → ℕ
number_in l block i = number_at (revoke_header_bytes + l.number_bytes * i) l.number_bytes block

-- equal counts of used bytes are equal counts of numbers
one_product :
    (l : Layout) (m n : ℕ) → 0 < l.number_bytes
    → revoke_header_bytes + l.number_bytes * m ≡ revoke_header_bytes + l.number_bytes * n → m ≡ n
one_product l m n some used =
    let products : l.number_bytes * m ≡ l.number_bytes * n = omega arith in
    sym (mul-div_cancel_left m some) ∙ ap (λ k. k / l.number_bytes) products ∙ mul-div_cancel_left n some

-- a revoke block has one list of numbers
pub one_revoke_block :
    {l : Layout} {count sequence : ℕ} {block numbers others : List ℕ} → 0 < l.number_bytes
    → IsRevokeBlock l count sequence block numbers → IsRevokeBlock l count sequence block others → numbers ≡ others
one_revoke_block {l} {block = block} {numbers = numbers} {others = others} some p q =
    let counts = one_product l (length numbers) (length others) some (sym p.used ∙ q.used) in
    p.spelled ∙ ap (numbers_in l block) counts ∙ sym q.spelled

-- a number that names no home block makes a revoke block malformed
pub number_above :
    (l : Layout) (count i n : ℕ) (block : List ℕ) → i < n
    → count ≤ number_in l block i → All (λ b. b < count) (numbers_in l block n) → ⊥
number_above l count i n block h high below =
    let at = get_or-map-range_with_len (number_in l block) 0 n i i 0 h (omega arith) in
    let low = below i 0 (omega (arith, length-map-range_with_len (number_in l block) 0 n)) in
    omega arith

-- one more number is read
pub numbers_more :
    (l : Layout) (i : ℕ) (block : List ℕ)
    → numbers_in l block (i + 1) ≡ numbers_in l block i ++ number_in l block i ∷ []
numbers_more l i block = map-range_with_len_more (number_in l block) 0 i i (omega arith)

module _ (l : Layout) (count sequence n : ℕ) (block : List ℕ) where
  -- a fitting header and numbers of home blocks make a revoke block
  pub revoke_block_of :
      HasHeader revoke_type sequence block → number_at 12 4 block ≡ revoke_header_bytes + l.number_bytes * n
      → revoke_header_bytes + l.number_bytes * n ≤ l.block_size → (numbers : List ℕ)
      → (numbers ≡ numbers_in l block n) × All (λ b. b < count) numbers → IsRevokeBlock l count sequence block numbers
  revoke_block_of header used fits numbers is =
      let long : length numbers ≡ n =
      ap length is.0 ∙ length-map-range_with_len (number_in l block) 0 n in
      let bytes : revoke_header_bytes + l.number_bytes * length numbers ≡ revoke_header_bytes + l.number_bytes * n =
      ap (λ k. revoke_header_bytes + l.number_bytes * k) long in
      record {
        has_header = header;
        used = used ∙ sym bytes;
        fits = omega arith;
        spelled = is.0 ∙ ap (numbers_in l block) (sym long);
        below = is.1;
      }

  -- a revoke block's numbers are those in it, as many as its field counts
  pub numbers_of_block :
      (numbers : List ℕ) → 0 < l.number_bytes → IsRevokeBlock l count sequence block numbers
      → number_at 12 4 block ≡ revoke_header_bytes + l.number_bytes * n → numbers ≡ numbers_in l block n
  numbers_of_block numbers some is used =
      is.spelled ∙ ap (numbers_in l block) (one_product l (length numbers) n some (sym is.used ∙ used))
