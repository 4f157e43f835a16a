-- Buffers that are overwritten in full.
use Rattle.std.proofs.Common.{◌≡◌, ℕ, List, ◌++◌, length, take, sym, ◌∙◌, ap}
use Rattle.std.proofs.Math.Seq.{take-append_seam}

-- a buffer is what was written into it
pub whole-buffer : {X : Type 0} (n : ℕ) (read behind : List X) → n ≡ length read → take n (read ++ behind) ≡ read
whole-buffer n read behind size = ap (λ (k : ℕ). take k (read ++ behind)) size ∙ take-append_seam read behind

-- it keeps its length
pub as-long : {X : Type 0} (n size : ℕ) (read behind : List X) → n ≡ length read → n ≡ size → length (take n (read ++ behind)) ≡ size
as-long n size read behind all same = ap length (whole-buffer n read behind all) ∙ (sym all ∙ same)
