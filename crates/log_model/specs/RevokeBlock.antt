-- Which bytes are a revoke block, and how the writer spells one.
-- Source: journal.rst, "Revocation Block".
use Rattle.std.specs.Prelude.{◌≡◌, ℕ, ◌+◌, ◌*◌, ◌<◌, ◌≤◌, List, ◌++◌, length, map, All}
use Rattle.std.specs.List.{flat_map, range_with_len}
use Rattle.journal_model.specs.Layout.{Layout, big_endian, number_at, HasHeader, header, revoke_header_bytes, revoke_type, padded}

abbrev pub numbers_in : Layout → List ℕ → ℕ → List ℕ
numbers_in l block k =
    map (λ i. number_at (revoke_header_bytes + l.number_bytes * i) l.number_bytes block) (range_with_len 0 k)

-- The field after the header counts the used bytes, with the first 16.
pub record IsRevokeBlock (l : Layout) (count sequence : ℕ) (block : List ℕ) (numbers : List ℕ) : Type 0 where
  pub has_header : HasHeader revoke_type sequence block
  pub used : number_at 12 4 block ≡ revoke_header_bytes + l.number_bytes * length numbers
  pub fits : revoke_header_bytes + l.number_bytes * length numbers ≤ l.block_size
  pub spelled : numbers ≡ numbers_in l block (length numbers)
  pub below : All (λ b. b < count) numbers

unfoldable pub revoke_block : Layout → ℕ → List ℕ → List ℕ
revoke_block l sequence numbers =
    padded l.block_size
    (header revoke_type sequence
    ++ big_endian 4 (revoke_header_bytes + l.number_bytes * length numbers)
    ++ flat_map (big_endian l.number_bytes) numbers)
