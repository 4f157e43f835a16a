-- The owed answer of a request that waits for a commit.
use Rattle.std.specs.Prelude.{ℕ}

-- its cookie, and the number up to which all transactions must be committed before it succeeds
pub record DueValue : Type 0 where
  pub cookie : ℕ
  pub upto : ℕ
