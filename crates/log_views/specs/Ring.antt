-- What the use of a log's ring is.
use Rattle.std.specs.Prelude.{◌≡◌, ◌≢◌, ◌≤◌}
use Rattle.journal_model.specs.Disk.{Image}
use Rattle.log_model.specs.Opening.{ring_of}
use Rattle.log_model.specs.Superblock.{Super}
use Rattle.log_scan.specs.Finding.{every_block}
use Rattle.log_scan.specs.Scanning.{IsEndOf}
use Rattle.log_views.specs.declared.ring.RingUse.{RingUse}

-- `blocks` is the ring's, `used` is at most that, and in a log that is not clean the chain ends at `end`
pub record IsUseOf (s : Super) (image : Image) (u : RingUse) : Type 0 where
  pub blocks : u.blocks ≡ (ring_of s).blocks
  pub within : u.used ≤ u.blocks
  pub ends : s.s_start ≢ 0 → IsEndOf s (every_block s) image u.end
