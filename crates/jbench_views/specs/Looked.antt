-- What was looked up in a log.
use Rattle.std.specs.Prelude.{ℕ, List, Option, Some, None}
use Rattle.std.specs.Io.KnownBytes.{Appends}
use Rattle.journal_model.specs.Disk.{reading}
use Rattle.log_model.specs.Opening.{super_of}
use Rattle.block_device.specs.State.{DeviceState}
use Rattle.log_dump.specs.Dumping.{HasDump, shape_of}
use Rattle.log_views.specs.Copies.{IsCopyIn}
use Rattle.log_views.specs.Leaving.{IsLeftIn}

-- a complete transaction has a copy at this place of the log
abbrev pub HasCopyAt : (place : ℕ) → DeviceState → Type 0
HasCopyAt place s = (bytes : List ℕ) × IsCopyIn (super_of (reading s.disk)) (reading s.disk) place bytes

-- `dump` found the whole log, or the copy at the given place
abbrev pub HasDumped : (copy : Option ℕ) → DeviceState → Type 0
HasDumped None s = HasDump (shape_of s) (reading s.disk)
HasDumped (Some place) s = HasCopyAt place s

-- an opening leaves some bytes in this home block
abbrev pub HasLeft : (block : ℕ) → DeviceState → Type 0
HasLeft block s = (bytes : List ℕ) × IsLeftIn s block bytes

-- some bytes were printed; if reads were correct, an opening leaves them in this home block
pub record PrintsLeft (block : ℕ) (s : DeviceState) (honest : Type 0) (old new : Option (List ℕ)) : Type 0 where
  pub bytes : List ℕ
  pub written : Appends old new bytes
  pub left : honest → IsLeftIn s block bytes
