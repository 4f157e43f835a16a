-- Whether transaction numbers remain after a run.
use Rattle.std.specs.Prelude.{◌≡◌, ◌+◌, ◌<◌, ℕ, length, Some, slice_get}
use Rattle.journal_model.specs.Transaction.{History, Transaction}
use Rattle.log_model.specs.Opening.{greatest_number}
use Rattle.log_model.specs.Superblock.{greatest_length}

-- these transactions leave as many numbers as the longest log has blocks
pub record HasNumbersLeft (ts : History) : Type 0 where
  pub first : Transaction
  pub is_first : slice_get ts 0 ≡ Some first
  pub left : first.tid + length ts + greatest_length + 1 < greatest_number
