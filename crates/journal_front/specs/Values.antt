-- A handle as contracts see it.
use Rattle.std.specs.Prelude.{ℕ}

-- its number, its transaction's number, and its unused credits
pub record HandleValue : Type 0 where
  pub number : ℕ
  pub tid : ℕ
  pub left : ℕ
