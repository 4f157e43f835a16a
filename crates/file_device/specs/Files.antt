-- A device over files: what its calls make of the disk, and when their answers agree with it. This project's own.
use Rattle.std.specs.Prelude.{◌≡◌, ◌⊎◌, ℕ, ◌-◌, ◌/◌, ◌*◌, ◌<◌, ◌≤◌, Bool, true, false, if◌then◌else◌, List, [], ◌∷◌, ◌++◌, length, map, take, replicate, Option, Result, IsErr, ⊤}
use Rattle.std.specs.List.{AllByRecursion}
use Rattle.std.specs.declared.fs.File.{File}
use Rattle.journal_model.specs.declared.number.Area.{Area}
use Rattle.journal_model.specs.declared.number.Area.TheVariants.{Log, Home}
use Rattle.journal_model.specs.Disk.{Disk, Cell, written, handed_over, flushed, Shape}
use Rattle.block_device.specs.State.{DeviceState, one_more_call, one_more_fault}
use Rattle.file_device.specs.Calls.{FileCall, Measured, Read, ReadFailed, Wrote, WriteFailed, GatheredFailed, Synced, SyncFailed}
use Rattle.file_device.specs.Blocks.{writes_of}

-- what is assumed of the files of one device
pub record FileContents : Type 0 where
  pub first : Disk  -- what they hold when the device is made: what a read gives, and what else a crash may leave
  pub failed_write_reads : Bool  -- whether the bytes of a failed write are read from then on

-- a device over files
pub record FileState : Type 0 where
  pub block_size : ℕ
  pub log_file : File
  pub home_file : Option File
  pub log_bytes : ℕ  -- the areas' lengths when the device was made; 0 without a home file
  pub home_bytes : ℕ
  pub gathered : List FileCall  -- writes that it took and has not made on a file yet, newest first
  pub calls : List FileCall  -- its calls on its files, newest first
  pub has_failed : Bool  -- a write or a flush has failed
  pub faults : ℕ
  pub calls_made : ℕ  -- calls of the device, refused ones too

-- a block's value, cut or filled up with zeros to `size`
abbrev pub fitted : ℕ → List ℕ → List ℕ
fitted size v = take size (v ++ replicate (size - length v) 0)

abbrev pub fitted_cell : ℕ → Cell → Cell
fitted_cell size c = record { reads = fitted size c.reads; others = map (fitted size) c.others }

-- the disk now, and the earlier disks, newest first
pub record FileMoments : Type 0 where
  pub disk : Disk
  pub past : List Disk

-- the disk changes
abbrev pub moved : FileMoments → Disk → FileMoments
moved m disk = record { disk = disk; past = m.disk ∷ m.past }

-- what a call makes of the disk; a block's number is its place divided by the block size
abbrev pub after_call : FileContents → ℕ → FileMoments → FileCall → FileMoments
after_call contents size m (Measured area length) = m
after_call contents size m (Read area at bytes) = m
after_call contents size m (ReadFailed area at) = m
after_call contents size m (Wrote area at bytes) = moved m (written m.disk area (at / size) bytes)
after_call contents size m (WriteFailed area at bytes) =
    moved m (if contents.failed_write_reads then written m.disk area (at / size) bytes else handed_over m.disk area (at / size) bytes)
-- the device keeps these blocks: they read as taken. A crash may leave each of them or what it replaced, by its earlier write
after_call contents size m (GatheredFailed area at bytes) = m
after_call contents size m (Synced area) = moved m (flushed m.disk area)
after_call contents size m (SyncFailed area) = m

-- what calls make of the first contents
abbrev pub after_calls : FileContents → ℕ → List FileCall → FileMoments
after_calls contents size [] = record { disk = λ a n. fitted_cell size (contents.first a n); past = [] }
after_calls contents size (call ∷ earlier) = after_call contents size (after_calls contents size earlier) call

-- a read gave what the disk reads; other answers say nothing of the contents
abbrev pub Agrees : ℕ → FileMoments → FileCall → Type 0
Agrees size m (Measured area length) = ⊤
Agrees size m (Read area at bytes) = bytes ≡ (m.disk area (at / size)).reads
Agrees size m (ReadFailed area at) = ⊤
Agrees size m (Wrote area at bytes) = ⊤
Agrees size m (WriteFailed area at bytes) = ⊤
Agrees size m (GatheredFailed area at bytes) = ⊤
Agrees size m (Synced area) = ⊤
Agrees size m (SyncFailed area) = ⊤

-- each read gave what the disk read at that moment
abbrev pub AgreesEach : FileContents → ℕ → List FileCall → Type 0
AgreesEach contents size [] = ⊤
AgreesEach contents size (call ∷ earlier) = Agrees size (after_calls contents size earlier) call × AgreesEach contents size earlier

-- the length of an area's file
abbrev pub bytes_in : FileState → Area → ℕ
bytes_in s Log = s.log_bytes
bytes_in s Home = s.home_bytes

-- an area has the whole blocks of its file
abbrev pub file_shape : FileState → Shape
file_shape s = record { block_size = s.block_size; log_blocks = s.log_bytes / s.block_size; home_blocks = s.home_bytes / s.block_size }

-- the calls that were made, and the gathered writes that are still due
abbrev pub asked_calls : FileState → List FileCall
asked_calls s = s.gathered ++ s.calls

-- the disk by the calls on the files alone
abbrev pub files_disk : FileContents → FileState → Disk
files_disk contents s = (after_calls contents s.block_size s.calls).disk

-- the device's state in contracts: gathered writes count as written
abbrev pub file_state : FileContents → FileState → DeviceState
file_state contents s =
    let m = after_calls contents s.block_size (asked_calls s) in
    record { shape = file_shape s; disk = m.disk; past = m.past; faults = s.faults; calls = s.calls_made }

-- the gathered writes are of consecutive blocks of one area, 64 KiB at most
pub record GathersRun (s : FileState) : Type 0 where
  pub area : Area
  pub at : ℕ
  pub bytes : List ℕ
  pub count : ℕ
  pub are : s.gathered ≡ writes_of area at s.block_size bytes count
  pub few : count * s.block_size ≤ 65536

-- the premise: nobody else wrote the files, and they gave back what they had
abbrev pub HasAgreed : FileContents → FileState → Type 0
HasAgreed contents s = AgreesEach contents s.block_size s.calls

-- a write call hands over one block
abbrev pub HandsBlock : ℕ → FileCall → Type 0
HandsBlock size (Measured area length) = ⊤
HandsBlock size (Read area at bytes) = ⊤
HandsBlock size (ReadFailed area at) = ⊤
HandsBlock size (Wrote area at bytes) = length bytes ≡ size
HandsBlock size (WriteFailed area at bytes) = length bytes ≡ size
HandsBlock size (GatheredFailed area at bytes) = ⊤
HandsBlock size (Synced area) = ⊤
HandsBlock size (SyncFailed area) = ⊤

-- the invariant: a block has a byte at least, and each write was of one block
pub record KeepsBlocks (size : ℕ) (calls : List FileCall) : Type 0 where
  pub some : 0 < size
  pub whole : AllByRecursion (HandsBlock size) calls

-- a new device: both files were measured
abbrev pub new_device : ℕ → File → Option File → ℕ → ℕ → FileState
new_device size log home log_bytes home_bytes =
    record {
      block_size = size;
      log_file = log;
      home_file = home;
      log_bytes = log_bytes;
      home_bytes = home_bytes;
      gathered = [];
      calls = Measured Home home_bytes ∷ Measured Log log_bytes ∷ [];
      has_failed = false;
      faults = 0;
      calls_made = 0;
    }

-- a call of the device is counted
abbrev pub counted : FileState → FileState
counted s = record s { calls_made = one_more_call s.calls_made }

-- the device after one more call, which made this system call
abbrev pub asked : FileState → FileCall → FileState
asked s call = record (counted s) { calls = call ∷ s.calls }

-- the device after a write or flush that failed; it tries no more
abbrev pub failed_for_good : FileState → FileCall → FileState
failed_for_good s call =
    record (counted s) { calls = call ∷ s.calls; has_failed = true; faults = one_more_fault s.faults }

-- the gathered blocks were written
abbrev pub handed_on : FileState → FileState
handed_on s = record s { gathered = []; calls = s.gathered ++ s.calls }

-- the write of the gathered blocks failed: the device keeps them
pub record FailsToWrite (old new : FileState) : Type 0 where
  pub area : Area
  pub at : ℕ
  pub bytes : List ℕ
  pub were : old.gathered ≡ writes_of area at old.block_size bytes (length bytes / old.block_size)
  pub after : new ≡ record old { calls = GatheredFailed area at bytes ∷ old.calls }

-- so it did, and the device writes and flushes no more
pub record FailsToHandOn (old new : FileState) : Type 0 where
  pub area : Area
  pub at : ℕ
  pub bytes : List ℕ
  pub were : old.gathered ≡ writes_of area at old.block_size bytes (length bytes / old.block_size)
  pub after : new ≡ record old { calls = GatheredFailed area at bytes ∷ old.calls; has_failed = true; faults = one_more_fault old.faults }

-- One more write was asked for. The oldest due writes were made, in order, and the others are gathered: none is lost, and none made twice.
pub record Takes (old new : FileState) (call : FileCall) : Type 0 where
  pub made : List FileCall
  pub calls : new.calls ≡ made ++ old.calls
  pub due : new.gathered ++ made ≡ call ∷ old.gathered
  pub rest : new ≡ record (counted old) { gathered = new.gathered; calls = new.calls }

-- the gathered blocks could not be written; or they were, and then this call failed
abbrev pub FailsAt : FileState → FileState → FileCall → Type 0
FailsAt old new call = FailsToHandOn (counted old) new ⊎ (new ≡ failed_for_good (handed_on old) call)

-- after a failed write or flush, a call answers a fault, and changes only the counts
abbrev pub IsRefused : {T E : Type 0} → Result T E → FileState → FileState → Type 0
IsRefused result old new =
    old.has_failed ≡ true → IsErr result × (new ≡ record (counted old) { faults = one_more_fault old.faults })
