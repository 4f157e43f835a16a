-- What an opening in spite of damage finds, and which calls it makes.
use Rattle.std.specs.Prelude.{◌≡◌, ◌≢◌, ◌⊎◌, ℕ, ◌+◌, ◌<◌, ◌≤◌, List, [], ◌∷◌, ◌++◌, length, Option, None, Some, MatchOption}
use Rattle.journal_model.specs.declared.number.Area.TheVariants.{Log}
use Rattle.journal_model.specs.declared.refusal.JournalError.{JournalError}
use Rattle.journal_model.specs.declared.refusal.JournalError.TheVariants.{Ahead, Damage, SequenceEnd}
use Rattle.journal_model.specs.Disk.{Disk, Image, Shape, reading}
use Rattle.log_model.specs.declared.log.Text.{Text}
use Rattle.log_model.specs.Opening.{greatest_number, super_of}
use Rattle.log_model.specs.Superblock.{Super, with_tail}
use Rattle.block_device.specs.State.{DeviceState, Stays}
use Rattle.log_scan.specs.declared.scanning.ChainEnd.{ChainEnd}
use Rattle.log_scan.specs.Scanning.{IsChainOf, IsEndOf}
use Rattle.journal_world.specs.Call.{Call}
use Rattle.journal_world.specs.Call.Call.{Flush}
use Rattle.recovery.specs.Calls.{HasBegun, HasMade, cleaning_calls, writes_home}
use Rattle.recovery.specs.Gather.{TablesValue, tables_of}
use Rattle.recovery.specs.HomeCopies.{home_copies}
use Rattle.recovery.specs.Opening.{IsRefusedLog, IsTested, IsWellRead}
use Rattle.damaged_logs.specs.Before.{IsGreatest, Takes}

-- the first damaged block, if any, else the lowest block ahead, if any
abbrev pub refusal_of : Option ℕ → Option ℕ → Option JournalError
refusal_of (Some place) ahead = Some (Damage place)
refusal_of None (Some place) = Some (Ahead place)
refusal_of None None = None

-- a clean log has no chain
pub record HasEnd (s : Super) (count : ℕ) (image : Image) (end : ChainEnd) : Type 0 where
  pub clean : s.s_start ≡ 0 → end ≡ record { transactions = 0; damaged = None }
  pub started : s.s_start ≢ 0 → IsEndOf s count image end

-- the texts of the chain; none in a clean log
pub record HoldsTexts (s : Super) (count : ℕ) (image : Image) (texts : List Text) : Type 0 where
  pub clean : s.s_start ≡ 0 → texts ≡ []
  pub started : s.s_start ≢ 0 → IsChainOf s count image texts

-- its transactions, the greatest number in use, and the refusal of its tests, numbers aside
pub record IsSurveyed (s : Super) (count : ℕ) (image : Image) (transactions greatest : ℕ) (stopped : Option JournalError) : Type 0 where
  pub texts : List Text
  pub holds : HoldsTexts s count image texts
  pub number : transactions ≡ length texts
  pub greatest_is : IsGreatest s image (s.s_sequence + transactions) greatest
  pub stopped_is : MatchOption stopped (IsTested s count image transactions) (λ e. (e ≢ SequenceEnd) × IsRefusedLog s count image e)

-- whatever the device answered, block 0 is accepted and a number is left
pub record IsReadBefore (shape : Shape) (superblock : List ℕ) (fields : Super) (transactions greatest : ℕ) (stopped : Option JournalError) : Type 0 where
  pub well : IsWellRead shape superblock fields
  pub number : greatest < greatest_number
  pub end : fields.s_sequence + transactions ≤ greatest
  pub clean : fields.s_start ≡ 0 → transactions ≡ 0
  pub alone : stopped ≡ None → greatest ≡ fields.s_sequence + transactions

-- this is taken of the disk, and the tables are those of its texts
pub record IsReadBeforeOn (shape : Shape) (disk : Disk) (superblock : List ℕ) (fields : Super) (transactions : ℕ) (tables : TablesValue) (greatest : ℕ) (stopped : Option JournalError) (texts : List Text) : Type 0 where
  pub takes : Takes shape (reading disk) texts greatest stopped
  pub superblock_is : superblock ≡ (disk Log 0).reads
  pub fields_are : fields ≡ super_of (reading disk)
  pub count : transactions ≡ length texts
  pub holds : HoldsTexts fields shape.home_blocks (reading disk) texts
  pub tables_are : fields.s_start ≢ 0 → tables ≡ tables_of fields.s_sequence texts

abbrev pub before_calls : List Text → List ℕ → List Call
before_calls texts superblock = Flush Log ∷ writes_home (home_copies texts) ++ cleaning_calls superblock

-- a clean log that nothing stopped was only flushed
pub record IsLeftClean (old new : DeviceState) (stopped : Option JournalError) (superblock : List ℕ) (texts : List Text) (greatest : ℕ) : Type 0 where
  pub none : texts ≡ []
  pub clean : (super_of (reading old.disk)).s_start ≡ 0
  pub end : greatest ≡ (super_of (reading old.disk)).s_sequence
  pub superblock_is : superblock ≡ (old.disk Log 0).reads
  pub made : HasMade (Flush Log ∷ []) old new

-- otherwise copies went home, and the log was left clean
pub record IsMadeClean (old new : DeviceState) (stopped : Option JournalError) (superblock : List ℕ) (texts : List Text) (greatest : ℕ) : Type 0 where
  pub due : (super_of (reading old.disk)).s_start ≡ 0 → stopped ≡ None → ⊥
  pub superblock_is : superblock ≡ with_tail (old.disk Log 0).reads (greatest + 1) 0
  pub made : HasMade (before_calls texts superblock) old new

-- the due calls for what it takes were made
pub record IsDoneBefore (old new : DeviceState) (stopped : Option JournalError) (superblock : List ℕ) (next : ℕ) (texts : List Text) (greatest : ℕ) : Type 0 where
  pub takes : Takes old.shape (reading old.disk) texts greatest stopped
  pub size : length (old.disk Log 0).reads ≡ old.shape.block_size
  pub small : greatest < greatest_number
  pub number : next ≡ greatest + 1
  pub made : IsLeftClean old new stopped superblock texts greatest ⊎ IsMadeClean old new stopped superblock texts greatest

pub record HasDoneBefore (old new : DeviceState) (stopped : Option JournalError) (superblock : List ℕ) (next : ℕ) : Type 0 where
  pub texts : List Text
  pub greatest : ℕ
  pub is : IsDoneBefore old new stopped superblock next texts greatest

-- it only read, or made some of the due calls for what it takes
pub data IsBrokenBefore (old new : DeviceState) : Type 0 where
  Reading : Stays old new → IsBrokenBefore old new
  Writing : (texts : List Text) (greatest : ℕ) (stopped : Option JournalError) → Takes old.shape (reading old.disk) texts greatest stopped →
      length (old.disk Log 0).reads ≡ old.shape.block_size → greatest < greatest_number →
      HasBegun (before_calls texts (with_tail (old.disk Log 0).reads (greatest + 1) 0)) old new → IsBrokenBefore old new
