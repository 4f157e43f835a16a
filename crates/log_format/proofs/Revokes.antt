-- The numbers of a revoke block, one by one.
use Rattle.std.proofs.Common.{ap, ap₂, sym, ◌∙◌, arith, get_or}
use Rattle.std.specs.Prelude.{◌≡◌, ℕ, ◌+◌, ◌*◌, ◌<◌, List, [], ◌∷◌, ◌++◌, length, map}
use Rattle.std.specs.List.{range_with_len}
use Rattle.std.proofs.lemmas.List.{take_all, take_more}
use Rattle.std.proofs.lemmas.List.FromFn.{get_or-map-range_with_len, length-map-range_with_len, take-map-range_with_len}
use Rattle.journal_model.specs.Layout.{Layout, number_at}
use Rattle.log_model.specs.RevokeBlock.{numbers_in}

-- one more number
pub numbers_more : (l : Layout) (block : List ℕ) (i n : ℕ) →
    n ≡ number_at (16 + l.number_bytes * i) l.number_bytes block →
    numbers_in l block (i + 1) ≡ numbers_in l block i ++ n ∷ []
numbers_more l block i n is =
    let at : ℕ → ℕ = λ j. number_at (16 + l.number_bytes * j) l.number_bytes block in
    let long = length-map-range_with_len at 0 (i + 1) in
    let before = take-map-range_with_len at 0 (i + 1) i (omega arith) in
    let this = get_or-map-range_with_len at 0 (i + 1) i i 0 (omega arith) (omega arith) in
    sym (take_all (i + 1) (map at (range_with_len 0 (i + 1))) (omega arith))
    ∙ take_more (map at (range_with_len 0 (i + 1))) i 0 (omega arith)
    ∙ ap₂ (λ xs x. xs ++ x ∷ []) before (this ∙ sym is)

-- each of the numbers is one of the block
pub number_is : (l : Layout) (block bs : List ℕ) (i : ℕ) →
    bs ≡ numbers_in l block (length bs) → i < length bs →
    get_or bs i 0 ≡ number_at (16 + l.number_bytes * i) l.number_bytes block
number_is l block bs i spelled here =
    ap (λ xs. get_or xs i 0) spelled
    ∙ get_or-map-range_with_len (λ j. number_at (16 + l.number_bytes * j) l.number_bytes block) 0 (length bs) i i 0 here (omega arith)
