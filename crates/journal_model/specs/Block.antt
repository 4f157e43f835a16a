-- Which bytes fill a block, and which home blocks a transaction may touch.
-- Source: journal.rst, "Super Block" (s_blocksize) and "Descriptor Block" (the width of a block number).
use Rattle.std.specs.Prelude.{◌≡◌, ℕ, ◌^◌, ◌<◌, List, length, All}
use Rattle.journal_model.specs.Layout.{Layout, every_number}

pub record IsBlock (size : ℕ) (bytes : List ℕ) : Type 0 where
  pub full : length bytes ≡ size
  pub octets : All (λ x. x < 256) bytes

-- it lies in home, a tag can spell it, and it has at most 48 bits
pub record IsAllowedBlock (l : Layout) (home_blocks b : ℕ) : Type 0 where
  pub in_home : b < home_blocks
  pub spelled : b < every_number l
  pub small : b < 2 ^ 48
