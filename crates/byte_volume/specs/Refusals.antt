-- Why a change of a byte range or of blocks is refused.
use Rattle.std.specs.Prelude.{◌≡◌, ◌^◌, ◌≤◌, ◌<◌, ◌+◌, ◌*◌, ◌/◌, ◌%◌, ℕ}
use Rattle.journal_model.specs.declared.refusal.JournalError.{JournalError}
use Rattle.journal_model.specs.declared.refusal.JournalError.TheVariants.{BadBlock, Memory, SequenceEnd}
use Rattle.block_device.specs.State.{DeviceState}
use Rattle.journal_front.specs.Front.{IsOpenHandle, TouchRefused}
use Rattle.journal_front.specs.Values.{HandleValue}
use Rattle.journal_steps.specs.Unreleased.{KeptUntold}
use Rattle.journal_steps.specs.Values.{JournalValue}
use Rattle.shared_journal.specs.Moments.{AtOneMoment}
use Rattle.volume_service.specs.Session.{NotOpened}
use Rattle.byte_volume.specs.Numbers.{IsAtLast}
use Rattle.byte_volume.specs.Reading.{BlockRefused}
use Rattle.byte_volume.specs.Writing.{first_whole, whole_blocks}

-- block b is one of this many from block `first` on
abbrev pub IsAmong : ℕ → ℕ → ℕ → Type 0
IsAmong first count b = (first ≤ b) × (b < first + count)

-- block b begins before the end of the n bytes from byte `offset` on, and ends after byte `offset`
abbrev pub MeetsRange : ℕ → ℕ → ℕ → ℕ → Type 0
MeetsRange size offset n b = (b * size < offset + n) × (offset < b * size + size)

-- at one moment under the lock, a step of an open handle on a block with P was refused, though it had a credit; nothing changed
pub record StepRefused (D : Type 0) (P : ℕ → Type 0) (e : JournalError) : Type 0 where
  pub handle : HandleValue
  pub b : ℕ
  pub its : P b
  pub credit : 0 < handle.left
  pub refused : AtOneMoment (λ (old new : JournalValue D). IsOpenHandle old.journal.front handle × TouchRefused old.journal.front handle b e × (new ≡ old))

-- why no handle with n credits was started: its session refused it; or, at one moment, the running transaction was the last one that a
-- later opening takes, or a later one
pub data CouldNotStart (D : Type 0) (capacity n : ℕ) (e : JournalError) : Type 0 where
  BySession : NotOpened D capacity n e → CouldNotStart D capacity n e
  ByNumber : e ≡ SequenceEnd → IsAtLast D → CouldNotStart D capacity n e

-- why handles that change blocks with P end early: there is no memory for a ticket; none with so many credits, within the capacity, could be
-- started; or a step was refused
pub data HandleRefused (D : Type 0) (capacity : ℕ) (P : ℕ → Type 0) (e : JournalError) : Type 0 where
  NoPlace : e ≡ Memory → HandleRefused D capacity P e
  NotStarted : (credits : ℕ) → credits ≤ capacity → CouldNotStart D capacity credits e → HandleRefused D capacity P e
  OfStep : StepRefused D P e → HandleRefused D capacity P e

-- why a part of a block could not be read: there is no buffer, or the read of the block was refused
pub data PartRefused {D : Type 0} (state : D → DeviceState) (b : ℕ) (e : JournalError) : Type 0 where
  NoRoom : e ≡ Memory → PartRefused state b e
  Unread : BlockRefused state b e → PartRefused state b e

-- why the rest of the block that begins before byte `at` and ends after it could not be had: there is no memory, or the read was refused
pub data CutRefused {D : Type 0} (state : D → DeviceState) (size at : ℕ) (e : JournalError) : Type 0 where
  NoRest : e ≡ Memory → CutRefused state size at e
  RestUnread : 0 < at % size → BlockRefused state (at / size) e → CutRefused state size at e

-- why a write of n bytes is refused: the range ends past 2^64, there is no buffer, the rest of its first or last block could not be had, or a handle ended early
pub data WriteRefused {D : Type 0} (state : D → DeviceState) (size capacity offset n : ℕ) (e : JournalError) : Type 0 where
  PastEnd : 2 ^ 64 ≤ offset + n → e ≡ BadBlock → WriteRefused state size capacity offset n e
  NoBuffer : e ≡ Memory → WriteRefused state size capacity offset n e
  OfHead : CutRefused state size offset e → WriteRefused state size capacity offset n e
  OfTail : CutRefused state size (offset + n) e → WriteRefused state size capacity offset n e
  OfHandle : HandleRefused D capacity (MeetsRange size offset n) e → WriteRefused state size capacity offset n e

-- at one moment under the locks, it was not told whether a block with P keeps a copy; nothing changed
pub record AskRefused (D : Type 0) (P : ℕ → Type 0) (e : JournalError) : Type 0 where
  pub b : ℕ
  pub its : P b
  pub refused : AtOneMoment (λ (old new : JournalValue D). KeptUntold old.journal b e × (new ≡ old))

-- why a trim of this many blocks from block `first` on ends early: it was not told of one, or a handle that revokes some ended early
pub data BlocksRefused (D : Type 0) (capacity first count : ℕ) (e : JournalError) : Type 0 where
  OfAsk : AskRefused D (IsAmong first count) e → BlocksRefused D capacity first count e
  OfHandle : HandleRefused D capacity (IsAmong first count) e → BlocksRefused D capacity first count e

-- why a trim of n bytes is refused: the range ends past 2^64, or that of its whole blocks ended early
pub data TrimRefused (D : Type 0) (size capacity offset n : ℕ) (e : JournalError) : Type 0 where
  PastEnd : 2 ^ 64 ≤ offset + n → e ≡ BadBlock → TrimRefused D size capacity offset n e
  OfBlocks : BlocksRefused D capacity (first_whole size offset) (whole_blocks size offset n) e → TrimRefused D size capacity offset n e

-- why a revoke of this many blocks through one handle is refused: the numbers pass 2^64, there is no memory for its ticket, no handle with so
-- many credits could be started, or a step was refused
pub data RevokeRefused (D : Type 0) (capacity first count : ℕ) (e : JournalError) : Type 0 where
  PastEnd : 2 ^ 64 ≤ first + count → e ≡ BadBlock → RevokeRefused D capacity first count e
  NoPlace : e ≡ Memory → RevokeRefused D capacity first count e
  NoHandle : CouldNotStart D capacity count e → RevokeRefused D capacity first count e
  AtStep : StepRefused D (IsAmong first count) e → RevokeRefused D capacity first count e
