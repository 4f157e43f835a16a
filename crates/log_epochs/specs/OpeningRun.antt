-- Which disks an opening's calls lead to, from the disk that it read, and which moments lie between them.
use Rattle.std.specs.Prelude.{◌≡◌, ◌≢◌, ◌⊎◌, ℕ, List}
use Rattle.journal_model.specs.declared.number.Area.TheVariants.{Log}
use Rattle.journal_model.specs.Disk.{Disk, IsOneOf, Shape, flushed, held, reading}
use Rattle.log_model.specs.HomeChange.{HomeAddsOnly}
use Rattle.log_model.specs.Opening.{HasChain}
use Rattle.log_model.specs.Replay.{IsNewest}
use Rattle.journal_world.specs.Call.{Call, IsAfterFault, after_success}
use Rattle.journal_world.specs.Opening.{KeepsOpening}
use Rattle.log_epochs.specs.OpeningSteps.{Found, IsFound, OpeningCall, OpeningStage, clean_superblock}
use Rattle.log_epochs.specs.OpeningSteps.OpeningStage.{LogFlush}

-- the disk reads this, and it is good
pub record IsFoundOn (shape : Shape) (found : Found) (old : Disk) : Type 0 where
  pub read : found.image ≡ reading old
  pub good : IsFound shape found

-- due calls that succeeded, in order, lead from the disk that was read to this disk and stage
pub data Reached (shape : Shape) (found : Found) (old : Disk) : OpeningStage → Disk → Type 0 where
  Tested : Reached shape found old LogFlush old
  Called : (stage next : OpeningStage) (call : Call) (disk new : Disk) → Reached shape found old stage disk →
      OpeningCall shape found disk stage call next → new ≡ after_success call disk → Reached shape found old next new

pub record Failed (shape : Shape) (found : Found) (old new : Disk) : Type 0 where
  pub stage : OpeningStage
  pub next : OpeningStage
  pub call : Call
  pub disk : Disk
  pub reached : Reached shape found old stage disk
  pub due : OpeningCall shape found disk stage call next
  pub fault : IsAfterFault call disk new

pub data IsMoment (shape : Shape) (old disk : Disk) : Type 0 where
  Unread : disk ≡ old → IsMoment shape old disk
  At : (found : Found) (stage : OpeningStage) → IsFoundOn shape found old → Reached shape found old stage disk → IsMoment shape old disk
  Fault : (found : Found) → IsFoundOn shape found old → Failed shape found old disk → IsMoment shape old disk

-- After the flush of the log each crash image opens to the n of that flush. Home gained newest live copies alone. Of
-- the log only block 0 is written, with the clean superblock, and only if the log was not clean.
pub record IsPastFlush (shape : Shape) (found : Found) (old disk : Disk) : Type 0 where
  pub keeps : KeepsOpening shape (flushed old Log) disk
  pub home : HomeAddsOnly (IsNewest found.texts) old disk
  pub log : (n : ℕ) → n ≢ 0 → disk Log n ≡ flushed old Log Log n
  pub block_0 : (v : List ℕ) → IsOneOf (held (disk Log 0)) v → (v ≡ (old Log 0).reads) ⊎ ((v ≡ clean_superblock found) × HasChain shape found.image found.texts)

-- nothing is written yet, or the log was flushed
pub data KeepsCount (shape : Shape) (old disk : Disk) : Type 0 where
  Unwritten : disk ≡ old → KeepsCount shape old disk
  Past : (found : Found) → IsFoundOn shape found old → IsPastFlush shape found old disk → KeepsCount shape old disk
