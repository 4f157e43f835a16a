-- Blocks that were read before they were asked for. This project's own.
use Rattle.std.specs.Prelude.{◌≡◌, ℕ, ◌+◌, ◌*◌, ◌<◌, ◌≤◌, if◌then◌else◌, List, ◌∷◌, ◌++◌, length, ⊤}
use Rattle.std.specs.List.{AllByRecursion}
use Rattle.journal_model.specs.declared.number.Area.{Area}
use Rattle.journal_model.specs.Disk.{same_area}
use Rattle.block_device.specs.State.{one_more_fault}
use Rattle.file_device.specs.declared.ahead.Ahead.{Ahead}
use Rattle.file_device.specs.Calls.{FileCall, Measured, Read, ReadFailed, Wrote, WriteFailed, GatheredFailed, Synced, SyncFailed}
use Rattle.file_device.specs.Blocks.{block_of}
use Rattle.file_device.specs.Files.{AgreesEach, FileContents, FileState, after_calls}

-- the call only reads
abbrev pub IsReading : FileCall → Type 0
IsReading (Measured area length) = ⊥
IsReading (Read area at bytes) = ⊤
IsReading (ReadFailed area at) = ⊤
IsReading (Wrote area at bytes) = ⊥
IsReading (WriteFailed area at bytes) = ⊥
IsReading (GatheredFailed area at bytes) = ⊥
IsReading (Synced area) = ⊥
IsReading (SyncFailed area) = ⊥

-- the device after calls that only read
pub record HasRead (old new : FileState) : Type 0 where
  pub calls : List FileCall
  pub readings : AllByRecursion IsReading calls
  pub after : new ≡ record old { calls = calls ++ old.calls }

-- the device after calls that only read, the last of which failed
pub record HasFailedRead (old new : FileState) (area : Area) (at : ℕ) : Type 0 where
  pub before : FileState
  pub asked_before : HasRead old before
  pub after : new ≡ record before { calls = ReadFailed area at ∷ before.calls; faults = one_more_fault before.faults }

-- the bytes hold all kept blocks; each is what its area reads, if every read so far agreed
pub record KeepsAhead (contents : FileContents) (size : ℕ) (calls : List FileCall) (a : Ahead) : Type 0 where
  pub fits : a.count * size ≤ length a.bytes.items
  pub reads : (k : ℕ) → k < a.count → AgreesEach contents size calls →
      block_of size a.bytes.items k ≡ ((after_calls contents size calls).disk a.area (a.first + k)).reads

-- a write to the area of the blocks read ahead drops them; one to the other area keeps them
abbrev pub IsForgotten : Area → Ahead → Ahead → Type 0
IsForgotten area old new = new ≡ (if same_area old.area area then record old { count = 0 } else old)
