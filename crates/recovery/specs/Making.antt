-- What holds at each moment while a log is made, whether or not the device fails. This project's own.
use Rattle.std.specs.Prelude.{◌≡◌, ◌⊎◌, ℕ, ◌<◌, ◌≤◌, Bool, List, replicate}
use Rattle.journal_model.specs.declared.number.Area.TheVariants.{Log, Home}
use Rattle.journal_model.specs.Disk.{Cell, Disk, IsOneOf, Shape, flushed, held}
use Rattle.log_model.specs.Superblock.{formatted_super}
use Rattle.journal_world.specs.Sound.{durable_cell}

-- a block holds only what it held, or these bytes
abbrev pub HoldsOrOld : (bytes : List ℕ) → (old new : Cell) → Type 0
HoldsOrOld bytes old new = (v : List ℕ) → IsOneOf (held new) v → IsOneOf (held old) v ⊎ (v ≡ bytes)

-- Such a moment: home is as it was, and so are the log area's blocks after the log, unless they became durable as they read. The log's
-- blocks hold what they held, or zeros; block 0 what it held, or the new superblock if all zeros are durable.
pub record IsMakingMoment (shape : Shape) (maxlen : ℕ) (uuid : List ℕ) (is_wide : Bool) (old disk : Disk) : Type 0 where
  pub home : (b : ℕ) → disk Home b ≡ old Home b
  pub behind : (n : ℕ) → maxlen ≤ n → (disk Log n ≡ old Log n) ⊎ (disk Log n ≡ flushed old Log Log n)
  pub zeros : (n : ℕ) → 0 < n → n < maxlen → HoldsOrOld (replicate shape.block_size 0) (old Log n) (disk Log n)
  pub superblock : (v : List ℕ) → IsOneOf (held (disk Log 0)) v → IsOneOf (held (old Log 0)) v
      ⊎ ((v ≡ formatted_super shape.block_size maxlen uuid is_wide) × ((n : ℕ) → 0 < n → n < maxlen → disk Log n ≡ durable_cell (replicate shape.block_size 0)))

-- A moment before the superblock is written: home, block 0 and the blocks after the log are as they were.
pub record IsZeroingMoment (zeros : List ℕ) (maxlen : ℕ) (old disk : Disk) : Type 0 where
  pub home : (b : ℕ) → disk Home b ≡ old Home b
  pub first : disk Log 0 ≡ old Log 0
  pub behind : (n : ℕ) → maxlen ≤ n → disk Log n ≡ old Log n
  pub zeros_are : (n : ℕ) → 0 < n → n < maxlen → HoldsOrOld zeros (old Log n) (disk Log n)
