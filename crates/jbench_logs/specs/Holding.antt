-- What the place of a log holds, and whether a new log in its place loses something.
use Rattle.std.specs.Prelude.{◌≡◌, ◌≢◌, ◌≤◌, ◌⊎◌, ⊤, ℕ, Some}
use Rattle.journal_model.specs.declared.number.Area.TheVariants.{Log}
use Rattle.journal_model.specs.declared.refusal.JournalError.{JournalError}
use Rattle.journal_model.specs.declared.refusal.JournalError.TheVariants.{BadMagic, Device, Memory, SequenceEnd}
use Rattle.journal_model.specs.Disk.{Image, reading}
use Rattle.log_model.specs.Opening.{greatest_number, super_of}
use Rattle.log_model.specs.Superblock.{Super, super_refusal}
use Rattle.block_device.specs.State.{DeviceState}
use Rattle.log_scan.specs.declared.scanning.ChainEnd.{ChainEnd}
use Rattle.log_scan.specs.Finding.{every_block}
use Rattle.log_scan.specs.Scanning.{IsEndOf}
use Rattle.recovery.specs.Opening.{IsRefusedLog, IsTested}
use Rattle.jbench_logs.specs.declared.overwriting.Held.{Held}
use Rattle.jbench_logs.specs.declared.overwriting.Held.TheVariants.{NoLog, AllHome, NotHome, Refused}

-- what the ring of an accepted log holds, whatever the home area: no complete transaction, and none ahead; transactions, or damage; or it
-- is refused
abbrev pub IsHeldIn : Super → Image → Held → Type 0
IsHeldIn s image NoLog = ⊥
IsHeldIn s image AllHome = IsTested s (every_block s) image 0
IsHeldIn s image (NotHome end) = (s.s_start ≢ 0) × IsEndOf s (every_block s) image end
IsHeldIn s image (Refused e) = IsRefusedLog s (every_block s) image e

-- what a log without damage and without a number ahead holds, if its chain ends so and `limit` is the number after it
abbrev pub IsHeldWhole : ChainEnd → (limit : ℕ) → Held → Type 0
IsHeldWhole end limit NoLog = ⊥
IsHeldWhole end limit AllHome = end.transactions ≡ 0
IsHeldWhole end limit (NotHome other) = (end.transactions ≢ 0) × (other ≡ end)
IsHeldWhole end limit (Refused e) = (greatest_number ≤ limit) × (e ≡ SequenceEnd)

-- what is held where reading the superblock was refused for this cause
abbrev pub IsHeldFor : JournalError → Held → Type 0
IsHeldFor e held = (e ≢ Device) × (e ≢ Memory) × (((e ≡ BadMagic) × (held ≡ NoLog)) ⊎ (held ≡ Refused e))

-- what the log area of a device holds
pub data HasFound (s : DeviceState) (held : Held) : Type 0 where
  NoBlock : s.shape.log_blocks ≡ 0 → held ≡ NoLog → HasFound s held
  BySuperblock : (e : JournalError) → super_refusal s.shape (reading s.disk Log 0) ≡ Some e → IsHeldFor e held → HasFound s held
  InRing : IsHeldIn (super_of (reading s.disk)) (reading s.disk) held → HasFound s held

-- nothing is lost with it
abbrev pub IsNothing : Held → Type 0
IsNothing NoLog = ⊤
IsNothing AllHome = ⊤
IsNothing (NotHome end) = ⊥
IsNothing (Refused e) = ⊥

-- a new log in a device's log area loses nothing
pub record HoldsNothing (s : DeviceState) : Type 0 where
  pub held : Held
  pub found : HasFound s held
  pub nothing : IsNothing held
