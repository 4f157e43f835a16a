-- Numbers in bytes after others were dropped in front.
use Rattle.std.proofs.Common.{refl, ap, ap₂, ◌∙◌, arith, get_or-drop, add-suc}
use Rattle.std.specs.Prelude.{◌≡◌, ℕ, zero, suc, ◌+◌, ◌-◌, ◌*◌, ◌^◌, List, length, take, drop}
use Rattle.journal_model.specs.Layout.{number_at}
use Rattle.std.proofs.lemmas.List.{take_rest}

-- a number after dropped bytes
pub number_at-drop : (n at k : ℕ) (bytes : List ℕ) → number_at at k (drop n bytes) ≡ number_at (n + at) k bytes
number_at-drop n at zero bytes = refl
number_at-drop n at (suc k) bytes =
    ap₂ (λ b m. b * 256 ^ k + m) (get_or-drop n bytes at 0)
    (number_at-drop n (suc at) k bytes ∙ ap (λ i. number_at i k bytes) (add-suc n at))

-- the same for a slice that goes on to the end
pub number_from : (n k : ℕ) (bytes : List ℕ) → number_at 0 k (take (length bytes - n) (drop n bytes)) ≡ number_at n k bytes
number_from n k bytes = rw (take_rest bytes n, number_at-drop n 0 k bytes) (ap (λ i. number_at i k bytes) (omega arith))
