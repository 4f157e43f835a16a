-- Which transactions an opening in spite of damage takes, what it leaves, and what holds at each moment. This project's own.
use Rattle.std.specs.Prelude.{◌≡◌, ◌≢◌, ◌⊎◌, ℕ, ◌+◌, ◌<◌, ◌≤◌, ◌==◌, Bool, List, [], length, Option, None, Some, MatchOption}
use Rattle.journal_model.specs.declared.number.Area.TheVariants.{Log, Home}
use Rattle.journal_model.specs.declared.refusal.JournalError.{JournalError}
use Rattle.journal_model.specs.declared.refusal.JournalError.TheVariants.{Device, Memory, SequenceEnd}
use Rattle.journal_model.specs.Disk.{Disk, Image, IsOneOf, Leaves, Shape, flushed, held, reading}
use Rattle.journal_model.specs.Layout.{sequence_in}
use Rattle.journal_model.specs.Transaction.{Volume}
use Rattle.log_model.specs.declared.log.Text.{Text}
use Rattle.log_model.specs.Chain.{IsAhead}
use Rattle.log_model.specs.HomeChange.{HomeAddsOnly}
use Rattle.log_model.specs.Opening.{IsClean, IsRefused, IsStarted, greatest_number, ring_of, super_of}
use Rattle.log_model.specs.Replay.{HasNoLive, IsNewest, IsReplayed}
use Rattle.log_model.specs.Superblock.{Super, super_refusal, with_tail}
use Rattle.block_device.specs.State.{DeviceState, Stays, one_more_fault}
use Rattle.log_scan.specs.Finding.{most_bytes}
use Rattle.log_scan.specs.Refusals.{NamesDamage, super_refusals}
use Rattle.log_scan.specs.Scanning.{IsChainOf}
use Rattle.journal_world.specs.Opening.{IsOpenedLog}
use Rattle.recovery.specs.Opening.{NoneAhead}

-- the transactions of the chain, whatever follows; none of a clean log
pub data AreTaken (shape : Shape) (image : Image) : List Text → Type 0 where
  OfClean : IsClean shape image → AreTaken shape image []
  OfChain : (texts : List Text) → IsStarted shape image → IsChainOf (super_of image) shape.home_blocks image texts → AreTaken shape image texts

abbrev pub end_of : Image → List Text → ℕ
end_of image texts = (super_of image).s_sequence + length texts

-- the greatest number in use: this one, or that of a ring block above it
pub record IsGreatest (s : Super) (image : Image) (end greatest : ℕ) : Type 0 where
  pub not_below : end ≤ greatest
  pub none_ahead : NoneAhead s image greatest
  pub used : (greatest ≡ end) ⊎ ((place : ℕ) × IsAhead (ring_of s) image end place × (greatest ≡ sequence_in (image Log place)))

-- the refusal that is passed over, if any: damage, or a block ahead
abbrev pub IsPassedOver : Shape → Image → Option JournalError → Type 0
IsPassedOver shape image stopped =
    MatchOption stopped ((e : JournalError) → e ≢ SequenceEnd → IsRefused shape image e → ⊥) (λ e. (e ≢ SequenceEnd) × IsRefused shape image e)

-- these transactions are taken, with this greatest number in use, in spite of this refusal
pub record Takes (shape : Shape) (image : Image) (texts : List Text) (greatest : ℕ) (stopped : Option JournalError) : Type 0 where
  pub taken : AreTaken shape image texts
  pub greatest_is : IsGreatest (super_of image) image (end_of image texts) greatest
  pub passed_over : IsPassedOver shape image stopped

-- Home is the replay of the transactions taken; the log is clean and opened, with the number after the greatest in use. Block 0 alone of
-- the log is written, and nothing if it was clean and nothing stopped.
pub record IsOpeningBefore (shape : Shape) (old new : Disk) (texts : List Text) (greatest : ℕ) (stopped : Option JournalError) (superblock : List ℕ) (next : ℕ) : Type 0 where
  pub takes : Takes shape (reading old) texts greatest stopped
  pub number : next ≡ greatest + 1
  pub home : IsReplayed shape.home_blocks texts (reading old Home) (reading new Home)
  pub log : IsOpenedLog shape new superblock next
  pub others : (n : ℕ) → n ≢ 0 → new Log n ≡ flushed old Log Log n
  pub untouched : (super_of (reading old)).s_start ≡ 0 → stopped ≡ None → new ≡ flushed old Log

pub record TellsBefore (image : Image) (texts : List Text) (clean : Bool) (ends_at transactions : ℕ) : Type 0 where
  pub clean_is : clean ≡ ((super_of image).s_start == 0)
  pub end_is : ends_at ≡ end_of image texts
  pub count : transactions ≡ length texts

-- The same call makes the same home of a crash image: each block gets its newest copy in the texts; one without a copy has what a crash
-- might have left before.
pub record GivesSame (shape : Shape) (old : Disk) (texts : List Text) (image : Image) : Type 0 where
  pub again : List Text
  pub taken : AreTaken shape image again
  pub got : Volume
  pub replayed : IsReplayed shape.home_blocks again (image Home) got
  pub same : (b : ℕ) → b < shape.home_blocks → IsNewest texts b (got b) ⊎ (HasNoLive texts b × IsOneOf (held (old Home b)) (got b))

-- Nothing is written yet; or the log was flushed, and each crash image gives the same home. Home gained newest copies alone, and of the
-- log only block 0 is written, with the clean superblock.
pub data IsMomentBefore (shape : Shape) (old disk : Disk) : Type 0 where
  Unwritten : disk ≡ old → IsMomentBefore shape old disk
  Past : (texts : List Text) (greatest : ℕ) (stopped : Option JournalError) → Takes shape (reading old) texts greatest stopped →
      ((image : Image) → Leaves disk image → GivesSame shape old texts image) → HomeAddsOnly (IsNewest texts) old disk →
      ((n : ℕ) → n ≢ 0 → disk Log n ≡ flushed old Log Log n) →
      ((v : List ℕ) → IsOneOf (held (disk Log 0)) v → (v ≡ (old Log 0).reads) ⊎ (v ≡ with_tail (old Log 0).reads (greatest + 1) 0)) →
      IsMomentBefore shape old disk

pub record HasGreatest (shape : Shape) (image : Image) (greatest : ℕ) : Type 0 where
  pub texts : List Text
  pub stopped : Option JournalError
  pub takes : Takes shape image texts greatest stopped

-- The device failed; memory ran out, with an accepted superblock and a number left (if blocks have at most 4096 bytes); the superblock
-- is refused; no number is left; or reads were not correct, and the log is as it was, or as its flush left it. Only by the first and
-- last cause may something be written.
pub data BeforeRefused (honest : Type 0) (old new : DeviceState) : JournalError → Type 0 where
  ByDevice : new.faults ≡ one_more_fault old.faults → BeforeRefused honest old new Device
  ByMemory : Stays old new → new.faults ≡ old.faults →
      (honest → old.shape.block_size ≤ most_bytes → (greatest : ℕ) × HasGreatest old.shape (reading old.disk) greatest × (greatest < greatest_number)) →
      BeforeRefused honest old new Memory
  BySuperblock : (e : JournalError) → Stays old new → new.faults ≡ old.faults → IsOneOf super_refusals e →
      (honest → super_refusal old.shape (old.disk Log 0).reads ≡ Some e) → BeforeRefused honest old new e
  ByNumber : Stays old new → new.faults ≡ old.faults →
      (honest → (greatest : ℕ) × HasGreatest old.shape (reading old.disk) greatest × (greatest_number ≤ greatest)) → BeforeRefused honest old new SequenceEnd
  ByReading : (e : JournalError) → (honest → ⊥) → new.faults ≡ old.faults → NamesDamage 1 old.shape.log_blocks e →
      Stays old new ⊎ ((n : ℕ) → new.disk Log n ≡ flushed old.disk Log Log n) → BeforeRefused honest old new e
