-- The verdict if the opening of an image is stopped, and its crash image is opened again.
use Rattle.std.specs.Prelude.{◌≡◌, ◌↔◌, ℕ, ◌+◌, ◌<◌, Bool, true, false, IsTrue, List, Option, All}
use Rattle.journal_model.specs.Disk.{Image, Shape, reading}
use Rattle.log_model.specs.Opening.{OpensAs, numbered_below}
use Rattle.journal_model.specs.Transaction.{History, Volume}
use Rattle.block_device.specs.Memory.{MemState, crashed, state_of, writes_of}
use Rattle.block_device.specs.State.{DeviceState}
use Rattle.log_epochs.specs.OpeningRun.{IsMoment}
use Rattle.recovery.specs.Opening.{IsBroken, IsDone, Tells}
use Rattle.std.specs.BTreeSet.{keys}
use Rattle.journal_script.specs.declared.script.NamedBlocks.{NamedBlocks}
use Rattle.script_run.specs.declared.opening.OpenedImage.{OpenedImage}
use Rattle.script_run.specs.declared.reopening.Attempt.{Attempt}
use Rattle.script_run.specs.declared.reopening.Attempt.TheVariants.{Whole, Stopped}
use Rattle.script_run.specs.OpenedImages.{IsOpenedImage}
use Rattle.script_run.specs.Verdict.{IsImageVerdict, IsRight}

-- the log's transactions end at `limit`; an opening after a stopped opening finds the same end or, if the log was not clean, a clean log
-- with the next number
abbrev pub FollowsOn : (was_clean : Bool) (limit : ℕ) (clean : Bool) (ends_at : ℕ) → Type 0
FollowsOn false limit false ends_at = ends_at ≡ limit
FollowsOn false limit true ends_at = ends_at ≡ limit + 1
FollowsOn true limit true ends_at = ends_at ≡ limit
FollowsOn true limit false ends_at = ⊥

-- A device whose opening of this image was stopped after some of the opening's calls, at one of the opening's moments. Its last write has
-- number `k`.
pub record IsStoppedAt (image : DeviceState) (k : ℕ) (device : MemState) : Type 0 where
  pub shape_is : device.shape ≡ image.shape
  pub moment : IsMoment image.shape image.disk (state_of device).disk
  pub calls : IsBroken image (state_of device)
  pub last : writes_of device.calls ≡ k

-- a device after a whole opening of this image, with fewer than `k` writes
pub record IsBefore (image : DeviceState) (k : ℕ) (device : MemState) : Type 0 where
  pub calls : IsDone image (state_of device)
  pub fewer : writes_of device.calls < k

-- the result of an opening of this image that was to stop at write `k`
abbrev pub IsAttempt : DeviceState → ℕ → Attempt → Type 0
IsAttempt image k (Whole opened) = IsOpenedImage image.shape image.disk opened × IsBefore image k opened.device
IsAttempt image k (Stopped device) = IsStoppedAt image k device

-- the opening ended on this device, with fewer than `k` writes
abbrev pub IsWholeAttempt : OpenedImage → ℕ → Attempt → Type 0
IsWholeAttempt opened k (Whole same) = (same ≡ opened) × (writes_of opened.device.calls < k)
IsWholeAttempt opened k (Stopped device) = ⊥

-- the opening stopped on this device, whose last write has number `k`
abbrev pub IsStoppedAttempt : MemState → ℕ → Attempt → Type 0
IsStoppedAttempt device k (Whole opened) = ⊥
IsStoppedAttempt device k (Stopped same) = (same ≡ device) × (writes_of device.calls ≡ k)

-- The verdict on the opened crash image of a stopped opening; `limit` is where the first image's transactions end. It is ok exactly if the
-- second opening found what such a stop can leave, and home is right for the transactions below `limit`.
pub record IsSecondVerdict (shape : Shape) (left : Image) (was_clean : Bool) (limit : ℕ) (sealed : History) (shown : Option ℕ) (named : NamedBlocks) (right : Bool) : Type 0 where
  pub clean : Bool
  pub ends_at : ℕ
  pub transactions : ℕ
  pub tells : Tells shape left clean ends_at transactions
  pub got : Volume
  pub opens : OpensAs shape left got
  pub there : All (λ b. b < shape.home_blocks) (keys named.blocks)
  pub right_is : IsTrue right ↔ FollowsOn was_clean limit clean ends_at × IsRight sealed shown named (numbered_below limit sealed) shape.block_size got

-- an opening of this image makes fewer than `k` writes, and this is the verdict on it
pub record IsVerdictWithoutStop (image : DeviceState) (k : ℕ) (sealed : History) (shown : Option ℕ) (named : NamedBlocks) (right : Bool) : Type 0 where
  pub device : MemState
  pub before : IsBefore image k device
  pub verdict : IsImageVerdict image.shape (reading image.disk) sealed shown named right

-- a device stopped at write `k` of an opening of this image, and this is the verdict on its crash image
pub record IsVerdictAfterStop (image : DeviceState) (k : ℕ) (keep : List ℕ) (sealed : History) (shown : Option ℕ) (named : NamedBlocks) (right : Bool) : Type 0 where
  pub was_clean : Bool
  pub limit : ℕ
  pub count : ℕ
  pub first : Tells image.shape (reading image.disk) was_clean limit count
  pub device : MemState
  pub stopped : IsStoppedAt image k device
  pub verdict : IsSecondVerdict image.shape (crashed keep device) was_clean limit sealed shown named right

-- the verdict on an image whose opening stops at write `k`, if it makes that many
pub data IsOpeningVerdict (image : DeviceState) (k : ℕ) (keep : List ℕ) (sealed : History) (shown : Option ℕ) (named : NamedBlocks) (right : Bool) : Type 0 where
  Once : IsVerdictWithoutStop image k sealed shown named right → IsOpeningVerdict image k keep sealed shown named right
  Twice : IsVerdictAfterStop image k keep sealed shown named right → IsOpeningVerdict image k keep sealed shown named right
