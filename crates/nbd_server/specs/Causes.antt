-- Why requests are refused, and with which error of NBD.
use Rattle.std.specs.Prelude.{◌≡◌, ℕ, Bool, List, replicate}
use Rattle.journal_model.specs.declared.refusal.JournalError.{JournalError}
use Rattle.journal_model.specs.declared.refusal.JournalError.TheVariants.{Aborted, Ahead, AlreadyWide, BadBlock, BadBlockSize, BadFeature, BadFirst, BadLength, BadMagic, BadStart, BadType, Damage, Device, ErrnoSet, Full, Memory, NeedSpace, NoCredit, NotDirect, NotEmpty, NotRunning, Revoked, SequenceEnd, TooMany}
use Rattle.block_device.specs.State.{DeviceState}
use Rattle.handle.specs.Name.{JournalId}
use Rattle.locked_journal.specs.Known.{TicketKnown}
use Rattle.byte_volume.specs.Reading.{RangeRefused}
use Rattle.byte_volume.specs.Refusals.{TrimRefused, WriteRefused}
use Rattle.byte_volume.specs.Writing.{TrimsSome, WritesSome, first_whole, whole_blocks}
use Rattle.nbd_protocol.specs.declared.request.Request.{Request}
use Rattle.nbd_protocol.specs.Requests.{IsTaken, RefusedWith}

-- the error with which a refusal of the journal is answered: ENOMEM, EINVAL for a block that is not there or credits that no handle can
-- have, else EIO
abbrev pub error_number : JournalError → ℕ
error_number Memory = 12
error_number Device = 5
error_number Aborted = 5
error_number NoCredit = 5
error_number Full = 5
error_number TooMany = 22
error_number NotRunning = 5
error_number BadBlock = 22
error_number NotDirect = 5
error_number SequenceEnd = 5
error_number NeedSpace = 5
error_number Revoked = 5
error_number BadMagic = 5
error_number BadType = 5
error_number BadBlockSize = 5
error_number BadLength = 5
error_number BadFirst = 5
error_number BadFeature = 5
error_number BadStart = 5
error_number ErrnoSet = 5
error_number (Ahead place) = 5
error_number (Damage place) = 5
error_number AlreadyWide = 5
error_number NotEmpty = 5

-- why a request is not taken, for a volume of this many bytes: for what it asks, or there is no memory for the bytes after it
pub data NotTaken (size : ℕ) (read_only : Bool) (r : Request) (e : ℕ) : Type 0 where
  ByRequest : (IsTaken size read_only r → ⊥) → RefusedWith size read_only r e → NotTaken size read_only r e
  NoBuffer : r.command ≡ 1 → e ≡ 12 → NotTaken size read_only r e

-- why a read fails: there is no memory for its answer, or its range could not be read
pub data ReadFails {D : Type 0} (state : D → DeviceState) (r : Request) (e : JournalError) : Type 0 where
  NoAnswer : e ≡ Memory → ReadFails state r e
  OfRange : RangeRefused state r.offset r.length e → ReadFails state r e

-- why a change fails, and what the handles of these tickets did of it before; `bytes` followed a write
pub data ChangeFails {D : Type 0} (state : D → DeviceState) (honest : D → Type 0) (name : JournalId) (size capacity : ℕ) (r : Request) (bytes : List ℕ) (tickets : List TicketKnown)
    (e : JournalError) : Type 0 where
  OfWrite : r.command ≡ 1 → WriteRefused state size capacity r.offset r.length e → WritesSome state honest name size r.offset bytes tickets →
      ChangeFails state honest name size capacity r bytes tickets e
  OfZeros : r.command ≡ 6 → WriteRefused state size capacity r.offset r.length e → WritesSome state honest name size r.offset (replicate r.length 0) tickets →
      ChangeFails state honest name size capacity r bytes tickets e
  OfTrim : r.command ≡ 4 → TrimRefused D size capacity r.offset r.length e → TrimsSome state honest name (first_whole size r.offset) (whole_blocks size r.offset r.length) tickets →
      ChangeFails state honest name size capacity r bytes tickets e
