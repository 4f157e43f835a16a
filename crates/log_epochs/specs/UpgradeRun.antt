-- Which disks an upgrade's calls lead to, from the disk that it read, and which moments lie between them.
use Rattle.std.specs.Prelude.{◌≡◌, ◌≢◌, ◌⊎◌, ℕ, List}
use Rattle.journal_model.specs.declared.number.Area.TheVariants.{Log, Home}
use Rattle.journal_model.specs.Disk.{Disk, Image, IsOneOf, Leaves, Shape, flushed, held}
use Rattle.log_model.specs.Opening.{HasLimit}
use Rattle.log_model.specs.Superblock.{super_in, widened}
use Rattle.journal_world.specs.Call.{Call, IsAfterFault, after_success}
use Rattle.journal_world.specs.Opening.{KeepsOpening}
use Rattle.log_epochs.specs.UpgradeSteps.{IsUpgradableOn, UpgradeCall, UpgradeStage}
use Rattle.log_epochs.specs.UpgradeSteps.UpgradeStage.{LogFlush}

-- due calls that succeeded, in order, lead from the disk that was read to this disk and stage
pub data UpgradeReached (block : List ℕ) (old : Disk) : UpgradeStage → Disk → Type 0 where
  Tested : UpgradeReached block old LogFlush old
  Called : (stage next : UpgradeStage) (call : Call) (disk new : Disk) → UpgradeReached block old stage disk →
      UpgradeCall block stage call next → new ≡ after_success call disk → UpgradeReached block old next new

pub record UpgradeFailed (block : List ℕ) (old new : Disk) : Type 0 where
  pub stage : UpgradeStage
  pub next : UpgradeStage
  pub call : Call
  pub disk : Disk
  pub reached : UpgradeReached block old stage disk
  pub due : UpgradeCall block stage call next
  pub fault : IsAfterFault call disk new

pub data IsUpgradeMoment (shape : Shape) (old disk : Disk) : Type 0 where
  Unread : disk ≡ old → IsUpgradeMoment shape old disk
  At : (block : List ℕ) (stage : UpgradeStage) → IsUpgradableOn shape block old → UpgradeReached block old stage disk → IsUpgradeMoment shape old disk
  Fault : (block : List ℕ) → IsUpgradableOn shape block old → UpgradeFailed block old disk → IsUpgradeMoment shape old disk

-- After the flush of the log each crash image opens to the n of that flush, with the same next number. Home is unchanged. Of
-- the log only block 0 is written, with the superblock of a wide log.
pub record IsPastUpgradeFlush (shape : Shape) (block : List ℕ) (old disk : Disk) : Type 0 where
  pub keeps : KeepsOpening shape (flushed old Log) disk
  pub number : (image : Image) → Leaves disk image → HasLimit shape image (super_in block).s_sequence
  pub home : (b : ℕ) → disk Home b ≡ old Home b
  pub log : (n : ℕ) → n ≢ 0 → disk Log n ≡ flushed old Log Log n
  pub block_0 : (v : List ℕ) → IsOneOf (held (disk Log 0)) v → (v ≡ block) ⊎ (v ≡ widened block)

-- nothing is written yet, or the log was flushed
pub data KeepsNumber (shape : Shape) (old disk : Disk) : Type 0 where
  Unwritten : disk ≡ old → KeepsNumber shape old disk
  Past : (block : List ℕ) → IsUpgradableOn shape block old → IsPastUpgradeFlush shape block old disk → KeepsNumber shape old disk
