-- What a dump prints of a device, and why it is refused.
use Rattle.std.specs.Prelude.{◌≡◌, ◌≢◌, ◌⊎◌, ℕ, ◌+◌, ◌<◌, List, [], length, Option, Some, None}
use Rattle.std.specs.Io.KnownBytes.{Appends}
use Rattle.log_model.specs.declared.log.Text.{Text}
use Rattle.journal_model.specs.declared.number.Area.TheVariants.{Log}
use Rattle.journal_model.specs.declared.refusal.JournalError.{JournalError}
use Rattle.journal_model.specs.declared.refusal.JournalError.TheVariants.{Device, Memory}
use Rattle.journal_model.specs.Disk.{Image, IsOneOf, Shape, reading}
use Rattle.log_model.specs.Dump.{IsDump, IsDumpRefused, dump_shape, dump_text, text_captions}
use Rattle.log_model.specs.Opening.{layout_of, super_of}
use Rattle.log_model.specs.ReadingLog.{TextBegins}
use Rattle.log_model.specs.Superblock.{Super, super_refusal}
use Rattle.block_device.specs.State.{DeviceState, IsDeviceFailure, one_more_fault}
use Rattle.log_scan.specs.Finding.{blocks_from, every_block, most_bytes}
use Rattle.log_scan.specs.Refusals.{NamesDamage, super_refusals}
use Rattle.log_scan.specs.Scanning.{IsChainOf, IsEndOf}
use Rattle.log_dump.specs.Lines.{placed_lines}
use Rattle.log_dump.specs.declared.fault.Fault.{Fault}
use Rattle.log_dump.specs.declared.fault.Fault.TheVariants.{Refused, Output}

-- the lines of the text that begins at position `start` of the lap were printed, and it ends at `end`
pub record IsPrinted (s : Super) (image : Image) (sequence : ℕ) (old new : Option (List ℕ)) (start end : ℕ) : Type 0 where
  pub text : Text
  pub taken : ℕ
  pub begins : TextBegins (layout_of s) (every_block s) sequence (blocks_from s image start) text taken
  pub behind : end ≡ start + taken
  pub written : Appends old new (placed_lines s start (text_captions sequence text))

-- why texts are not printed: the output can't be written, the device failed, or, if reads were correct, something impossible
abbrev pub IsPrintRefused : (honest impossible : Type 0) → Super → DeviceState → DeviceState → Fault → Type 0
IsPrintRefused honest impossible s old new (Refused e) =
    IsDeviceFailure old new e
    ⊎ (NamesDamage s.s_first s.s_maxlen e × (new.faults ≡ old.faults) × (honest → impossible))
IsPrintRefused honest impossible s old new (Output e) = new.faults ≡ old.faults

-- the shape by which a dump tests the log: the home area is not known
abbrev pub shape_of : DeviceState → Shape
shape_of d = dump_shape (super_of (reading d.disk)) d.shape.block_size d.shape.log_blocks

-- the image has a dump
abbrev pub HasDump : Shape → Image → Type 0
HasDump shape image = (text : List ℕ) × IsDump shape image text

-- a writer's contents have grown by the dump of the image
pub record PrintsDump (shape : Shape) (image : Image) (old new : Option (List ℕ)) : Type 0 where
  pub text : List ℕ
  pub is_dump : IsDump shape image text
  pub written : Appends old new text

-- the superblock is accepted, with these fields
pub record IsReadLog (shape : Shape) (image : Image) (s : Super) : Type 0 where
  pub accepted : super_refusal shape (image Log 0) ≡ None
  pub same : s ≡ super_of image

-- A writer's contents have grown by the dump of the chain's transactions, up to this damaged block; if none is named, by the whole
-- dump.
pub record PrintsUpTo (damaged : Option ℕ) (shape : Shape) (image : Image) (old new : Option (List ℕ)) : Type 0 where
  pub s : Super
  pub read : IsReadLog shape image s
  pub texts : List Text
  pub written : Appends old new (dump_text s texts)
  pub clean : s.s_start ≡ 0 → (texts ≡ []) × (damaged ≡ None)
  pub chain : s.s_start ≢ 0 → IsEndOf s (every_block s) image (record { transactions = length texts; damaged = damaged }) × IsChainOf s (every_block s) image texts

-- the refusals of content: of the superblock, or of a block after it
abbrev pub IsContentRefusal : Shape → JournalError → Type 0
IsContentRefusal shape e = IsOneOf super_refusals e ⊎ NamesDamage 1 shape.log_blocks e

-- Why a log is refused. Unless the device failed, nothing is printed, if reads were correct.
pub record DumpRefused (honest unwritten : Type 0) (old new : DeviceState) (e : JournalError) : Type 0 where
  pub device : e ≡ Device → new.faults ≡ one_more_fault old.faults
  pub no_fault : e ≢ Device → new.faults ≡ old.faults
  pub memory : e ≡ Memory → (most_bytes < old.shape.block_size) × unwritten
  pub content : e ≢ Device → e ≢ Memory → IsContentRefusal old.shape e × (honest → IsDumpRefused (shape_of old) (reading old.disk) e × unwritten)

-- why there is no dump, or only a part: the log is refused; or the output can't be written, and the log has a dump
abbrev pub IsDumpFault : (honest unwritten : Type 0) → DeviceState → DeviceState → Fault → Type 0
IsDumpFault honest unwritten old new (Refused e) = DumpRefused honest unwritten old new e
IsDumpFault honest unwritten old new (Output e) = (new.faults ≡ old.faults) × (honest → HasDump (shape_of old) (reading old.disk))

-- why the superblock is not accepted; memory runs out only for a block larger than any log's
abbrev pub IsLogRefused : (honest : Type 0) → DeviceState → DeviceState → JournalError → Type 0
IsLogRefused honest old new e =
    IsDeviceFailure old new e
    ⊎ (((e ≡ Memory) × (new.faults ≡ old.faults) × (most_bytes < old.shape.block_size))
    ⊎ (IsOneOf super_refusals e × (new.faults ≡ old.faults) × (honest → super_refusal (shape_of old) (old.disk Log 0).reads ≡ Some e)))
