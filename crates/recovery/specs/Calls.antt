-- The device calls of an opening that change the disk, in order, and their effect.
use Rattle.std.specs.Prelude.{◌≡◌, ◌==◌, ℕ, if◌then◌else◌, List, [], ◌∷◌, ◌++◌, map}
use Rattle.journal_model.specs.declared.number.Area.TheVariants.{Log, Home}
use Rattle.journal_model.specs.Disk.{Disk}
use Rattle.log_model.specs.Opening.{super_of}
use Rattle.block_device.specs.State.{DeviceState, Moves, Stays}
use Rattle.journal_world.specs.Call.{Call, IsAfterFault, after_success}
use Rattle.journal_world.specs.Call.Call.{Write, Flush}
use Rattle.log_epochs.specs.OpeningSteps.{Found, clean_superblock}
use Rattle.recovery.specs.HomeCopies.{home_copies}

-- the write of these bytes to a home block
abbrev pub write_home : ℕ → List ℕ → Call
write_home b bytes = Write Home b bytes

-- the writes of these copies home
abbrev pub writes_home : List (ℕ × List ℕ) → List Call
writes_home copies = map (λ c. write_home c.0 c.1) copies

-- the calls that mark the log clean: home is durable before the superblock says so
abbrev pub cleaning_calls : List ℕ → List Call
cleaning_calls superblock = Flush Home ∷ Write Log 0 superblock ∷ Flush Log ∷ []

-- the calls of an opening, in order
abbrev pub opening_calls : Found → List Call
opening_calls found =
    if (super_of found.image).s_start == 0
    then Flush Log ∷ []
    else Flush Log ∷ writes_home (home_copies found.texts) ++ cleaning_calls (clean_superblock found)

-- the disk after these calls, if all succeed
abbrev pub disk_after : List Call → Disk → Disk
disk_after [] disk = disk
disk_after (call ∷ calls) disk = disk_after calls (after_success call disk)

-- the disks before each of these calls, newest first, then the past ones
abbrev pub past_after : List Call → Disk → List Disk → List Disk
past_after [] disk past = past
past_after (call ∷ calls) disk past = past_after calls (after_success call disk) (disk ∷ past)

-- these calls succeeded in order, and nothing else changed the disk
pub record HasMade (calls : List Call) (old new : DeviceState) : Type 0 where
  pub shape : new.shape ≡ old.shape
  pub disk : new.disk ≡ disk_after calls old.disk
  pub past : new.past ≡ past_after calls old.disk old.past

-- a failure before these calls were made: nothing more changed, or the first of them failed and may have changed the disk
pub data IsInterrupted : List Call → DeviceState → DeviceState → Type 0 where
  Before : (calls : List Call) (old new : DeviceState) → Stays old new → IsInterrupted calls old new
  Within : (call : Call) (calls : List Call) (old new : DeviceState) (disk : Disk) → IsAfterFault call old.disk disk → Moves old new disk →
      IsInterrupted (call ∷ calls) old new

-- some of these calls succeeded in order, then the device failed
pub record HasBegun (calls : List Call) (old new : DeviceState) : Type 0 where
  pub done : List Call
  pub due : List Call
  pub split : calls ≡ done ++ due
  pub between : DeviceState
  pub made : HasMade done old between
  pub interrupted : IsInterrupted due between new
