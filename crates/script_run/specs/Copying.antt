-- An image that is copied to another device.
use Rattle.std.specs.Prelude.{◌≡◌, ◌≢◌, ◌⊎◌, ℕ, ◌<◌, Bool, false, [], Option, Result}
use Rattle.journal_model.specs.declared.number.Area.{Area}
use Rattle.journal_model.specs.declared.refusal.JournalError.{JournalError}
use Rattle.journal_model.specs.declared.refusal.JournalError.TheVariants.{Device}
use Rattle.journal_model.specs.Disk.{Disk, same_area}
use Rattle.block_device.specs.Memory.{MemState, state_of}
use Rattle.block_device.specs.State.{CountsFaults, DeviceState, IsFailure, Stays, blocks_in}
use Rattle.journal_model.specs.Transaction.{History}
use Rattle.journal_script.specs.declared.script.NamedBlocks.{NamedBlocks}
use Rattle.journal_script.specs.declared.script.Script.{Script}
use Rattle.script_run.specs.declared.stops.Stops.{Stops}
use Rattle.script_run.specs.Left.{IsEndOf, IsRunTo}

-- the device has the image's shape, and each block reads as the image's, durably
pub record IsCopy (image : MemState) (to : DeviceState) : Type 0 where
  pub shape_is : to.shape ≡ image.shape
  pub each : (a : Area) (n : ℕ) → n < blocks_in image.shape a → to.disk a n ≡ record { reads = ((state_of image).disk a n).reads; others = [] }

-- the image was only read: its contents and its crash images are unchanged
abbrev pub IsOnlyRead : MemState → MemState → Type 0
IsOnlyRead old new = (new.shape ≡ old.shape) × (new.calls ≡ old.calls) × (new.faults ≡ old.faults)

-- the first `k` blocks of an area read as the image's; the other area is unchanged
pub record HasCopied (area : Area) (k : ℕ) (image old new : Disk) : Type 0 where
  pub copied : (n : ℕ) → n < k → (new area n).reads ≡ (image area n).reads
  pub others : (a : Area) (n : ℕ) → same_area area a ≡ false → new a n ≡ old a n

-- device calls were made up to the first that failed, if any; the result says whether one did, and the shape is unchanged
pub record CallsUntilFailure {A T E : Type 0} (state : A → DeviceState) (Honest : A → Type 0) (result : Result T E) (old new : A) : Type 0 where
  pub shape : (state new).shape ≡ (state old).shape
  pub faults : CountsFaults result (state old) (state new)
  pub honest : Honest new → Honest old

-- why an image is not copied: the shapes differ and the device was not touched, the device failed, or memory ran out
abbrev pub CopyRefused : MemState → DeviceState → DeviceState → JournalError → Type 0
CopyRefused image old new e = ((e ≡ Device) × (old.shape ≢ image.shape) × Stays old new) ⊎ IsFailure old new e

-- the image is copied, or its copy was refused
abbrev pub IsCopyTried : MemState → DeviceState → DeviceState → Type 0
IsCopyTried image old new = IsCopy image new ⊎ ((e : JournalError) × CopyRefused image old new e)

-- a run of the script left an image with this verdict, and the device has a copy of it
pub record IsCopiedRun (script : Script) (stops : Stops) (to : DeviceState) (right : Bool) : Type 0 where
  pub image : MemState
  pub run : IsRunTo script stops image right
  pub copy : IsCopy image to

-- the run of the script came to its end and left an image, whose copy is done or was refused
pub record IsTriedRun (script : Script) (stops : Stops) (old new : DeviceState) : Type 0 where
  pub image : MemState
  pub sealed : History
  pub shown : Option ℕ
  pub named : NamedBlocks
  pub end : IsEndOf script stops.run stops.failing_call image sealed shown named
  pub tried : IsCopyTried image old new
