-- What an upgrade leaves, why it is refused, and which calls it makes.
use Rattle.std.specs.Prelude.{◌≡◌, ◌≢◌, ◌<◌, ℕ, List, [], ◌∷◌, ◌++◌, replicate, Some, None}
use Rattle.journal_model.specs.declared.number.Area.TheVariants.{Log}
use Rattle.journal_model.specs.declared.refusal.JournalError.{JournalError}
use Rattle.journal_model.specs.declared.refusal.JournalError.TheVariants.{AlreadyWide, Device, Memory, NotEmpty}
use Rattle.journal_model.specs.Disk.{Disk, IsOneOf, Shape, reading}
use Rattle.log_model.specs.Superblock.{Super, super_in, super_refusal, wide_features, widened}
use Rattle.block_device.specs.State.{DeviceState, Stays, one_more_fault}
use Rattle.journal_world.specs.Call.{Call}
use Rattle.journal_world.specs.Call.Call.{Write, Flush}
use Rattle.log_scan.specs.Finding.{most_bytes}
use Rattle.log_scan.specs.Refusals.{super_refusals}
use Rattle.log_epochs.specs.EngineWorld.{Leads, World}
use Rattle.log_epochs.specs.EngineWorld.Move.{GiveUp, Upgrade}
use Rattle.log_epochs.specs.EngineWorld.Phase.{Shut}
use Rattle.log_epochs.specs.EngineWorld.UpgradeMove.{BeginUpgrade, UpgradeStep}
use Rattle.log_epochs.specs.Epoch.{pinning}
use Rattle.log_epochs.specs.UpgradeSteps.{IsUpgradableOn}
use Rattle.recovery.specs.Calls.{HasBegun, HasMade}

-- the calls of an upgrade of a log with this superblock, in order
abbrev pub upgrade_calls : List ℕ → List Call
upgrade_calls block = Flush Log ∷ Write Log 0 (widened block) ∷ Flush Log ∷ []

-- an upgrade that ended: the log may be upgraded, the calls were made, and this is its sequence
pub record IsUpgraded (old new : DeviceState) (sequence : ℕ) : Type 0 where
  pub block : List ℕ
  pub on : IsUpgradableOn old.shape block old.disk
  pub made : HasMade (upgrade_calls block) old new
  pub sequence_is : sequence ≡ (super_in block).s_sequence

-- an upgrade in which the device failed, after the read alone or some of the calls
pub data IsUpgradeBroken (old new : DeviceState) : Type 0 where
  Reading : Stays old new → IsUpgradeBroken old new
  Writing : (block : List ℕ) → IsUpgradableOn old.shape block old.disk → HasBegun (upgrade_calls block) old new → IsUpgradeBroken old new

-- why a superblock is not upgraded
pub data IsKeptNarrow (s : Super) : JournalError → Type 0 where
  ForWide : s.s_feature_incompat ≡ wide_features → IsKeptNarrow s AlreadyWide
  ForContent : s.s_feature_incompat ≢ wide_features → s.s_start ≢ 0 → IsKeptNarrow s NotEmpty

-- why it is refused: by the superblock's tests, or else by its fields
pub data IsNotUpgraded (shape : Shape) (block : List ℕ) : JournalError → Type 0 where
  BySuperblock : (e : JournalError) → super_refusal shape block ≡ Some e → IsNotUpgraded shape block e
  ByFields : (e : JournalError) → super_refusal shape block ≡ None → IsKeptNarrow (super_in block) e → IsNotUpgraded shape block e

-- Why an upgrade is refused; unless the device failed, nothing was written.
pub record UpgradeRefused (honest : Type 0) (old new : DeviceState) (e : JournalError) : Type 0 where
  pub device : e ≡ Device → new.faults ≡ one_more_fault old.faults
  pub no_fault : e ≢ Device → new.faults ≡ old.faults
  pub memory : e ≡ Memory → Stays old new × (most_bytes < old.shape.block_size)
  pub content : e ≢ Device → e ≢ Memory → Stays old new × IsOneOf (AlreadyWide ∷ NotEmpty ∷ super_refusals) e × (honest → IsNotUpgraded old.shape (old.disk Log 0).reads e)

-- Whatever came before: if nobody works on the old disk, an upgrade that hands the device out leads to the new disk.
abbrev pub LeadsThroughUpgrade : Shape → List ℕ → Disk → Disk → Type 0
LeadsThroughUpgrade shape block old new =
    (w : World) → w.shape ≡ shape → w.disk ≡ old → w.phase ≡ Shut →
    Leads w (Upgrade (BeginUpgrade block) ∷ replicate 3 (Upgrade UpgradeStep) ++ GiveUp ∷ [])
    (record w { disk = new; phase = Shut; epoch = pinning w.epoch (reading w.disk) })
