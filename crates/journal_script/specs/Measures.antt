-- The limits of a script's keys.
use Rattle.std.specs.Prelude.{◌≤◌, ℕ, Bool, if◌then◌else◌}
use Rattle.log_model.specs.Superblock.{greatest_length, least_length}
use Rattle.log_format.specs.Size.{IsBlockSize}
use Rattle.journal_script.specs.declared.measures.Measures.{Measures}

-- the most home blocks, for block numbers of 64 bits or of 32
abbrev pub most_home_blocks : Bool → ℕ
most_home_blocks wide = if wide then 1099511627776 else 1048576

-- the measures are within the limits of a run's log and home
pub record AreLimited (m : Measures) : Type 0 where
  pub block_size : IsBlockSize m.block_size
  pub least : least_length ≤ m.log_blocks
  pub most : m.log_blocks ≤ greatest_length
  pub some_home : 1 ≤ m.home_blocks
  pub most_home : m.home_blocks ≤ most_home_blocks m.wide
