-- What contracts see of a device, and what a call does to it.
-- Source: a disk with a volatile write cache, as flush requests suppose (the kernel's writeback_cache_control.rst); that
-- a block is written whole or not at all is a premise.
use Rattle.std.specs.Prelude.{◌≡◌, ◌⊎◌, ℕ, ◌+◌, ◌-◌, ◌^◌, ◌<◌, ◌≤◌, min, List, ◌∷◌, ◌++◌, length, Result, MatchResult}
use Rattle.std.specs.List.{AllByRecursion}
use Rattle.journal_model.specs.declared.number.Area.{Area}
use Rattle.journal_model.specs.declared.number.Area.TheVariants.{Log, Home}
use Rattle.journal_model.specs.declared.refusal.JournalError.{JournalError}
use Rattle.journal_model.specs.declared.refusal.JournalError.TheVariants.{Device, Memory}
use Rattle.journal_model.specs.Disk.{Disk, Image, IsOneOf, Leaves, held, written, handed_over, Shape}

pub record DeviceState : Type 0 where
  pub shape : Shape  -- bytes of a block, and blocks of each area
  pub disk : Disk  -- what each block reads, and what a crash may leave
  pub past : List Disk  -- earlier disks, newest first
  pub faults : ℕ  -- failures so far
  pub calls : ℕ  -- reads, writes and flushes so far, whatever they answered

abbrev pub blocks_in : Shape → Area → ℕ
blocks_in shape Log = shape.log_blocks
blocks_in shape Home = shape.home_blocks

-- counts of failures and calls stay at these
abbrev pub most_faults : ℕ
most_faults = 2 ^ 64 - 1

abbrev pub most_calls : ℕ
most_calls = 2 ^ 64 - 1

abbrev pub one_more_fault : ℕ → ℕ
one_more_fault faults = min (faults + 1) most_faults

abbrev pub one_more_call : ℕ → ℕ
one_more_call calls = min (calls + 1) most_calls

abbrev pub CountsCall : DeviceState → DeviceState → Type 0
CountsCall old new = new.calls ≡ one_more_call old.calls

-- a second call would be counted
abbrev pub MakesAtMostOneCall : DeviceState → DeviceState → Type 0
MakesAtMostOneCall old new = new.calls ≤ old.calls + 1

abbrev pub CountsFaults : {T E : Type 0} → Result T E → DeviceState → DeviceState → Type 0
CountsFaults result old new = MatchResult result (λ _. new.faults ≡ old.faults) (λ _. new.faults ≡ one_more_fault old.faults)

abbrev pub IsDeviceFailure : DeviceState → DeviceState → JournalError → Type 0
IsDeviceFailure old new e = (e ≡ Device) × (new.faults ≡ one_more_fault old.faults)

-- the device failed; or memory ran out without a failure
abbrev pub IsFailure : DeviceState → DeviceState → JournalError → Type 0
IsFailure old new e = IsDeviceFailure old new e ⊎ ((e ≡ Memory) × (new.faults ≡ old.faults))

-- the inner device's state, with further failures and its own count of calls
abbrev pub with_own_counts : DeviceState → ℕ → ℕ → DeviceState
with_own_counts s own calls = record { shape = s.shape; disk = s.disk; past = s.past; faults = min (s.faults + own) most_faults; calls = calls }

-- only counts may have changed
pub record Stays (old new : DeviceState) : Type 0 where
  pub shape : new.shape ≡ old.shape
  pub disk : new.disk ≡ old.disk
  pub past : new.past ≡ old.past

-- The disk changes once, and the old one joins the past. What a crash within a write may leave, one after it may leave;
-- what one within a flush may leave, one before it may leave.
pub record Moves (old new : DeviceState) (disk : Disk) : Type 0 where
  pub shape : new.shape ≡ old.shape
  pub now : new.disk ≡ disk
  pub past : new.past ≡ old.disk ∷ old.past

-- a write, also a failed one, did nothing, wrote the block, or handed the bytes over unread
pub data Writes (old new : DeviceState) (area : Area) (block : ℕ) (bytes : List ℕ) : Type 0 where
  Undone : Stays old new → Writes old new area block bytes
  Whole : Moves old new (written old.disk area block bytes) → Writes old new area block bytes
  HandedOver : Moves old new (handed_over old.disk area block bytes) → Writes old new area block bytes

abbrev pub HoldsWholeBlocks : DeviceState → Type 0
HoldsWholeBlocks s =
    (a : Area) (n : ℕ) (v : List ℕ) → n < blocks_in s.shape a → IsOneOf (held (s.disk a n)) v → length v ≡ s.shape.block_size

-- P holds of the disks that joined the past since, and of the present one
pub record EachMoment (P : Disk → Type 0) (old new : DeviceState) : Type 0 where
  pub since : List Disk
  pub past : new.past ≡ since ++ old.past
  pub each : AllByRecursion P since
  pub now : P new.disk

-- a crash at some moment since may have left this image
pub record MayHaveLeft (old new : DeviceState) (image : Image) : Type 0 where
  pub since : List Disk
  pub past : new.past ≡ since ++ old.past
  pub disk : Disk
  pub one : IsOneOf (new.disk ∷ since) disk
  pub leaves : Leaves disk image
