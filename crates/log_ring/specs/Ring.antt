-- What is taken of the ring of a log. Positions count blocks over all laps and never fall; position p stands at `ring_place`
-- of p.
-- Source: fs/jbd2 by behaviour (j_head, j_tail and j_free).
use Rattle.std.specs.Prelude.{ℕ, ◌+◌, ◌-◌, ◌^◌, ◌<◌, ◌≤◌}
use Rattle.log_model.specs.Chain.{Ring}
use Rattle.log_model.specs.Superblock.{least_ring}

-- `tail` is the position of the oldest taken block, `head` the one after the newest
pub record RingValue : Type 0 where
  pub ring : Ring
  pub tail : ℕ
  pub head : ℕ

abbrev pub taken : RingValue → ℕ
taken r = r.head - r.tail

abbrev pub free : RingValue → ℕ
free r = r.ring.blocks - taken r

-- it is after the superblock, has enough blocks with numbers of 32 bits, and no more is taken than there is
pub record IsRing (r : RingValue) : Type 0 where
  pub behind : 0 < r.ring.first
  pub least : least_ring ≤ r.ring.blocks
  pub places : r.ring.first + r.ring.blocks ≤ 2 ^ 32
  pub order : r.tail ≤ r.head
  pub within : taken r ≤ r.ring.blocks
