-- Steps in a row.
use Rattle.std.specs.Prelude.{ℕ, ◌+◌}

-- exactly one step `R i` for each `i` below `n`, in order
pub data Steps {S : Type 0} (R : ℕ → S → S → Type 0) : ℕ → S → S → Type 0 where
  NoStep : (s : S) → Steps R 0 s s
  OneMore : (n : ℕ) (s t u : S) → Steps R n s t → R n t u → Steps R (n + 1) s u
