-- What formatting and opening leave, and why they are refused.
use Rattle.std.specs.Prelude.{◌≡◌, ◌≢◌, ◌⊎◌, ℕ, ◌+◌, ◌<◌, ◌≤◌, Bool, true, false, List, length, replicate, Some, None}
use Rattle.log_model.specs.declared.log.Text.{Text}
use Rattle.journal_model.specs.declared.number.Area.TheVariants.{Log, Home}
use Rattle.journal_model.specs.declared.refusal.JournalError.{JournalError}
use Rattle.journal_model.specs.declared.refusal.JournalError.TheVariants.{Memory, Device, BadBlockSize, BadLength, Ahead, SequenceEnd}
use Rattle.log_model.specs.Chain.{IsAhead}
use Rattle.journal_model.specs.Disk.{Disk, Image, IsOneOf, Shape, flushed, reading}
use Rattle.log_model.specs.Opening.{HasChain, IsClean, IsRefused, greatest_number, ring_of, super_of}
use Rattle.log_model.specs.Superblock.{Super, formatted_super, greatest_length, least_length, super_in, super_refusal}
use Rattle.block_device.specs.State.{DeviceState, IsDeviceFailure, Stays, one_more_fault}
use Rattle.log_format.specs.Accepted.{IsAccepted}
use Rattle.log_format.specs.Size.{IsBlockSize}
use Rattle.log_scan.specs.Finding.{most_bytes}
use Rattle.log_scan.specs.Refusals.{NamesDamage, super_refusals}
use Rattle.log_scan.specs.Scanning.{IsChainOf, IsDamageOf, IsScanned}
use Rattle.journal_world.specs.Opening.{cleaned}
use Rattle.journal_world.specs.Sound.{durable_cell}
use Rattle.log_epochs.specs.OpeningRun.{IsFoundOn}
use Rattle.log_epochs.specs.OpeningSteps.{Found, next_of}
use Rattle.recovery.specs.Calls.{HasBegun, HasMade, opening_calls}
use Rattle.recovery.specs.Gather.{TablesValue, tables_of}

-- A log of `maxlen` blocks that was just formatted. Its superblock and the zeros of its other blocks are durable. The log area's blocks
-- after it read as before, durably, and home is as it was.
pub record IsFormatted (shape : Shape) (maxlen : ℕ) (uuid : List ℕ) (is_wide : Bool) (old new : Disk) : Type 0 where
  pub block_size : IsBlockSize shape.block_size
  pub least : least_length ≤ maxlen
  pub most : maxlen ≤ greatest_length
  pub within : maxlen ≤ shape.log_blocks
  pub superblock : new Log 0 ≡ durable_cell (formatted_super shape.block_size maxlen uuid is_wide)
  pub zeros : (n : ℕ) → 0 < n → n < maxlen → new Log n ≡ durable_cell (replicate shape.block_size 0)
  pub behind : (n : ℕ) → maxlen ≤ n → new Log n ≡ flushed old Log Log n
  pub home : (b : ℕ) → new Home b ≡ old Home b

-- Why formatting is refused; unless the device failed, nothing was done.
pub record FormatRefused (maxlen : ℕ) (old new : DeviceState) (e : JournalError) : Type 0 where
  pub size : e ≡ BadBlockSize → (IsBlockSize old.shape.block_size → ⊥) × Stays old new × (new.faults ≡ old.faults)
  pub length_is : e ≡ BadLength → IsBlockSize old.shape.block_size
      × (least_length ≤ maxlen → maxlen ≤ greatest_length → maxlen ≤ old.shape.log_blocks → ⊥)
      × Stays old new
      × (new.faults ≡ old.faults)
  pub other : e ≢ BadBlockSize → e ≢ BadLength → (e ≡ Device) × (new.faults ≡ one_more_fault old.faults)

-- what an opening reports of an image
pub data Tells (shape : Shape) (image : Image) : (clean : Bool) → (ends_at transactions : ℕ) → Type 0 where
  OfClean : IsClean shape image → Tells shape image true (super_of image).s_sequence 0
  OfChain : (texts : List Text) → HasChain shape image texts →
      Tells shape image false ((super_of image).s_sequence + length texts) (length texts)

-- The refusals of a ring between these places of the log area.
pub data IsRingRefusal (first end : ℕ) : JournalError → Type 0 where
  NamesDamaged : (e : JournalError) → NamesDamage first end e → IsRingRefusal first end e
  NamesAhead : (place : ℕ) → first ≤ place → place < end → IsRingRefusal first end (Ahead place)
  NoNumber : IsRingRefusal first end SequenceEnd

-- the refusals of content: of the superblock, or of the ring, which begins after block 0
abbrev pub IsContentRefusal : Shape → JournalError → Type 0
IsContentRefusal shape e = IsOneOf super_refusals e ⊎ IsRingRefusal 1 shape.log_blocks e

-- no refusal of content applies to the image
abbrev pub IsNotRefused : Shape → Image → Type 0
IsNotRefused shape image = (e : JournalError) → IsRefused shape image e → ⊥

-- The log read otherwise during replay than in the tests: reads were not correct. The log was flushed, and none of its blocks was
-- written; what is home may be wrong.
pub record IsReadOtherwise (honest : Type 0) (old new : DeviceState) (e : JournalError) : Type 0 where
  pub dishonest : honest → ⊥
  pub names : NamesDamage 1 old.shape.log_blocks e
  pub log : (n : ℕ) → new.disk Log n ≡ flushed old.disk Log Log n

-- Why an opening is refused. Unless the device failed, nothing was written, or reads were not correct. (A block larger than any log's
-- is read into allocated memory.)
pub record OpeningRefused (honest : Type 0) (old new : DeviceState) (e : JournalError) : Type 0 where
  pub device : e ≡ Device → new.faults ≡ one_more_fault old.faults
  pub no_fault : e ≢ Device → new.faults ≡ old.faults
  pub memory : e ≡ Memory → Stays old new × (honest → old.shape.block_size ≤ most_bytes → IsNotRefused old.shape (reading old.disk))
  pub content : e ≢ Device → e ≢ Memory → (Stays old new ⊎ IsReadOtherwise honest old new e) × IsContentRefusal old.shape e × (honest → IsRefused old.shape (reading old.disk) e)

-- an opening that ended: what it read is good, and it made the calls due for that
pub record IsDone (old new : DeviceState) : Type 0 where
  pub found : Found
  pub is : IsFoundOn old.shape found old.disk
  pub made : HasMade (opening_calls found) old new

-- an opening that ended, with this superblock and next number
pub record IsDoneWith (old new : DeviceState) (superblock : List ℕ) (next : ℕ) : Type 0 where
  pub done : IsDone old new
  pub superblock_is : superblock ≡ cleaned (done.found.image Log 0) next
  pub next_is : next ≡ next_of done.found

-- an opening in which the device failed, after reads alone or some of the calls due
pub data IsBroken (old new : DeviceState) : Type 0 where
  Reading : Stays old new → IsBroken old new
  Writing : (found : Found) → IsFoundOn old.shape found old.disk → HasBegun (opening_calls found) old new → IsBroken old new

-- why reading block 0 is refused; memory runs out only for a block larger than any log's
abbrev pub IsReadingRefused : (honest : Type 0) → DeviceState → DeviceState → JournalError → Type 0
IsReadingRefused honest old new e =
    IsDeviceFailure old new e
    ⊎ (((e ≡ Memory) × (new.faults ≡ old.faults) × (most_bytes < old.shape.block_size))
    ⊎ (IsOneOf super_refusals e × (new.faults ≡ old.faults) × (honest → super_refusal old.shape (old.disk Log 0).reads ≡ Some e)))

-- the log's blocks from 1 to below `end` read as zeros; later blocks and home are as they were
pub record HasZeros (zeros : List ℕ) (end : ℕ) (old new : Disk) : Type 0 where
  pub reads : (n : ℕ) → 0 < n → n < end → (new Log n).reads ≡ zeros
  pub behind : (n : ℕ) → end ≤ n → new Log n ≡ old Log n
  pub home : (b : ℕ) → new Home b ≡ old Home b

-- a superblock that was read is accepted, and has these fields
pub record IsWellRead (shape : Shape) (superblock : List ℕ) (fields : Super) : Type 0 where
  pub size : length superblock ≡ shape.block_size
  pub tested : super_refusal shape superblock ≡ None
  pub fields_are : fields ≡ super_in superblock
  pub accepted : IsAccepted shape.block_size shape.log_blocks fields

-- the log has so many complete transactions: none if clean, else those that a scan counts
pub record HasTransactions (s : Super) (count : ℕ) (image : Image) (transactions : ℕ) : Type 0 where
  pub clean : s.s_start ≡ 0 → transactions ≡ 0
  pub scanned : s.s_start ≢ 0 → IsScanned s count image transactions

-- no ring block has a sequence above this one
abbrev pub NoneAhead : Super → Image → ℕ → Type 0
NoneAhead s image limit = (place : ℕ) → IsAhead (ring_of s) image limit place → ⊥

-- the lowest ring block that has one
pub record IsLowestAhead (s : Super) (image : Image) (limit place : ℕ) : Type 0 where
  pub ahead : IsAhead (ring_of s) image limit place
  pub lowest : (other : ℕ) → IsAhead (ring_of s) image limit other → place ≤ other

-- the log's ring is not refused
pub record IsTested (s : Super) (count : ℕ) (image : Image) (transactions : ℕ) : Type 0 where
  pub has : HasTransactions s count image transactions
  pub none_ahead : NoneAhead s image (s.s_sequence + transactions)

-- why the log's ring is refused
pub data IsRefusedLog (s : Super) (count : ℕ) (image : Image) : JournalError → Type 0 where
  ForDamage : (e : JournalError) → s.s_start ≢ 0 → IsDamageOf s count image e → IsRefusedLog s count image e
  ForAhead : (transactions place : ℕ) → HasTransactions s count image transactions → IsLowestAhead s image (s.s_sequence + transactions) place →
      IsRefusedLog s count image (Ahead place)
  ForNumber : (transactions : ℕ) → HasTransactions s count image transactions → NoneAhead s image (s.s_sequence + transactions) →
      greatest_number ≤ s.s_sequence + transactions → IsRefusedLog s count image SequenceEnd

-- why the tests of the ring fail
abbrev pub IsTestRefused : (honest : Type 0) → Super → DeviceState → DeviceState → JournalError → Type 0
IsTestRefused honest s old new e =
    IsDeviceFailure old new e
    ⊎ (IsRingRefusal s.s_first s.s_maxlen e × (new.faults ≡ old.faults) × (honest → IsRefusedLog s old.shape.home_blocks (reading old.disk) e))

-- A log that was read and not refused, correct reads or not: block 0 is accepted, and a number is left for the next transaction.
pub record IsExamined (shape : Shape) (superblock : List ℕ) (fields : Super) (transactions : ℕ) : Type 0 where
  pub well : IsWellRead shape superblock fields
  pub number : fields.s_sequence + transactions < greatest_number
  pub clean : fields.s_start ≡ 0 → transactions ≡ 0

-- with correct reads: the disk has what was found, and the tables are those of its chain
pub record IsExaminedOn (shape : Shape) (disk : Disk) (superblock : List ℕ) (fields : Super) (transactions : ℕ) (tables : TablesValue) (found : Found) : Type 0 where
  pub is : IsFoundOn shape found disk
  pub superblock_is : superblock ≡ found.image Log 0
  pub fields_are : fields ≡ super_of found.image
  pub count : transactions ≡ length found.texts
  pub texts : fields.s_start ≢ 0 → IsChainOf fields shape.home_blocks (reading disk) found.texts
  pub tables_are : fields.s_start ≢ 0 → tables ≡ tables_of fields.s_sequence found.texts
