-- How many log blocks a transaction takes, and how many copies one may have.
-- Source: journal.rst, "Layout", and fs/jbd2/journal.c by behaviour (a transaction takes at most a quarter of
-- the log).
use Rattle.std.specs.Prelude.{ℕ, ◌+◌, ◌/◌, ◌≤◌}
use Rattle.journal_model.specs.Layout.{Layout, tags_of, numbers_of}
use Rattle.log_model.specs.OwnText.{ceil_div}

abbrev pub need : Layout → ℕ → ℕ → ℕ
need l c r = c + ceil_div c (tags_of l) + ceil_div r (numbers_of l) + 1

abbrev pub FitsQuarter : Layout → ℕ → ℕ → Type 0
FitsQuarter l ring k = k + ceil_div k (tags_of l) + 1 ≤ ring / 4

-- the most copies that fit a quarter of the ring
pub record IsCapacity (l : Layout) (ring k : ℕ) : Type 0 where
  pub fits : FitsQuarter l ring k
  pub greatest : (j : ℕ) → FitsQuarter l ring j → j ≤ k
