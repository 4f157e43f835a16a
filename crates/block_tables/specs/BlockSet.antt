-- A set of block numbers as pages of bits.
use Rattle.std.specs.Prelude.{ℕ, ◌/◌, ◌%◌, nat_eq, Bool, false, List, Option, None, Some, slice_index}
use Rattle.std.specs.Int.{bit_at}
use Rattle.std.specs.Map.{lookup}

pub record BlockSetValue : Type 0 where
  pub room : ℕ  -- further pages that can be made without memory
  pub pages : List (ℕ × List ℕ)

-- whether these words have bit i
abbrev pub has_bit : List ℕ → ℕ → Bool
has_bit words i = nat_eq (bit_at (slice_index words (i / 64)) (i % 64)) 1

abbrev pub page_has : Option (List ℕ) → ℕ → Bool
page_has None i = false
page_has (Some words) i = has_bit words i

-- a page has 512 blocks
abbrev pub has_block : List (ℕ × List ℕ) → ℕ → Bool
has_block pages b = page_has (lookup (nat_eq (b / 512)) pages) (b % 512)
