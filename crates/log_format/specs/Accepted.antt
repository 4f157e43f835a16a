-- What an opening may rely on in an accepted superblock.
use Rattle.std.specs.Prelude.{◌≡◌, ◌⊎◌, ℕ, ◌+◌, ◌<◌, ◌≤◌}
use Rattle.log_model.specs.Superblock.{Super, greatest_length, least_length, least_ring}
use Rattle.log_format.specs.Size.{IsBlockSize}

-- the device's block size, within the log area, and the ring after the superblock
pub record IsAccepted (block_size log_blocks : ℕ) (s : Super) : Type 0 where
  pub allowed : IsBlockSize block_size
  pub size : s.s_blocksize ≡ block_size
  pub least : least_length ≤ s.s_maxlen
  pub greatest : s.s_maxlen ≤ greatest_length
  pub within : s.s_maxlen ≤ log_blocks
  pub behind : 0 < s.s_first
  pub ring : s.s_first + least_ring ≤ s.s_maxlen
  pub start : (s.s_start ≡ 0) ⊎ ((s.s_first ≤ s.s_start) × (s.s_start < s.s_maxlen))
