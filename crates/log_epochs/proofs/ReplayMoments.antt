-- What the disk holds while an opening writes home and cleans the log.
use Rattle.std.specs.Prelude.{◌≡◌, ◌≢◌, ◌⊎◌, ℕ, ◌<◌, List}
use Rattle.log_model.specs.declared.log.Text.{Text}
use Rattle.journal_model.specs.declared.number.Area.TheVariants.{Log, Home}
use Rattle.journal_model.specs.Disk.{Disk, IsOneOf, held}
use Rattle.log_model.specs.HomeChange.{HomeAddsOnly}
use Rattle.log_model.specs.Replay.{HasNoLive, IsNewest}
use Rattle.journal_world.specs.Sound.{durable_cell}

-- an unwritten log block is as it was, or durable as it read
abbrev pub IsLogKept : Disk → Disk → ℕ → Type 0
IsLogKept old disk n = (disk Log n ≡ old Log n) ⊎ (disk Log n ≡ durable_cell (old Log n).reads)

-- home holds only what the replay makes of it
abbrev pub IsHomeDone : ℕ → List Text → Disk → Disk → Type 0
IsHomeDone count texts old disk =
    (b : ℕ) (v : List ℕ) → b < count → IsOneOf (held (disk Home b)) v → IsNewest texts b v ⊎ (HasNoLive texts b × IsOneOf (held (old Home b)) v)

-- a moment of the replay; block 0 may be the new superblock only once home is done
pub record IsReplaying (count : ℕ) (texts : List Text) (superblock : List ℕ) (old disk : Disk) : Type 0 where
  pub home : HomeAddsOnly (IsNewest texts) old disk
  pub log : (n : ℕ) → n ≢ 0 → IsLogKept old disk n
  pub block_0 : (v : List ℕ) → IsOneOf (held (disk Log 0)) v → IsOneOf (held (old Log 0)) v ⊎ ((v ≡ superblock) × IsHomeDone count texts old disk)
