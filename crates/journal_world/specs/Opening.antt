-- What an opening leaves: home as the replay of the chain makes it, and a clean log with the next number.
-- Source: fs/jbd2/recovery.c by behaviour; that the log is left clean is this project's own.
use Rattle.std.specs.Prelude.{◌≡◌, ℕ, ◌+◌, ◌==◌, ◌<◌, ◌≤◌, true, if◌then◌else◌, List, [], length, None}
use Rattle.journal_model.specs.declared.number.Area.TheVariants.{Log, Home}
use Rattle.log_model.specs.Chain.{Ring}
use Rattle.journal_model.specs.Disk.{Disk, Image, IsOneOf, Leaves, Shape, flushed, held, reading}
use Rattle.journal_model.specs.Layout.{Layout, begins_with_magic, sequence_in}
use Rattle.log_model.specs.Opening.{OpensAs, Opens, HasLimit, greatest_number, layout_of, ring_of}
use Rattle.log_model.specs.Superblock.{super_in, super_refusal, with_tail}
use Rattle.journal_model.specs.Transaction.{History}

-- none of the log's own blocks, or one with a lower number
pub record IsBehind (next : ℕ) (v : List ℕ) : Type 0 where
  pub below : begins_with_magic v ≡ true → sequence_in v < next

-- an accepted superblock of a log with this layout and ring
pub record IsSuperblock (shape : Shape) (l : Layout) (ring : Ring) (block : List ℕ) : Type 0 where
  pub accepted : super_refusal shape block ≡ None
  pub size : length block ≡ shape.block_size
  pub layout_is : layout_of (super_in block) ≡ l
  pub ring_is : ring_of (super_in block) ≡ ring

-- A clean log whose next transaction has this number: its superblock names the number before or, after a recovery,
-- that number.
pub record NamesNothing (shape : Shape) (l : Layout) (ring : Ring) (next : ℕ) (block : List ℕ) : Type 0 where
  pub is_superblock : IsSuperblock shape l ring block
  pub clean : (super_in block).s_start ≡ 0
  pub low : next ≤ (super_in block).s_sequence + 1
  pub high : (super_in block).s_sequence ≤ next

-- the log is clean, block 0 durable, and no ring block has the next number or a higher one
pub record IsOpenedLog (shape : Shape) (disk : Disk) (superblock : List ℕ) (next : ℕ) : Type 0 where
  pub named : NamesNothing shape (layout_of (super_in superblock)) (ring_of (super_in superblock)) next superblock
  pub some : 0 < next
  pub number : next ≤ greatest_number
  pub durable : disk Log 0 ≡ record { reads = superblock; others = [] }
  pub behind : (n : ℕ) (v : List ℕ) →
      (super_in superblock).s_first ≤ n → n < (super_in superblock).s_maxlen → IsOneOf (held (disk Log n)) v → IsBehind next v

-- every crash image of the disk opens to n
pub record OpensAlways (shape : Shape) (ts : History) (n : ℕ) (disk : Disk) : Type 0 where
  pub each : (image : Image) → Leaves disk image → Opens shape ts n image

-- what every crash of the old disk opens to, every crash of the new one opens to
pub record KeepsOpening (shape : Shape) (old new : Disk) : Type 0 where
  pub keeps : (ts : History) (n : ℕ) → OpensAlways shape ts n old → OpensAlways shape ts n new

-- block 0 after an opening: unchanged in a clean log, else with the next number and no start
abbrev pub cleaned : List ℕ → ℕ → List ℕ
cleaned block next = if (super_in block).s_start == 0 then block else with_tail block next 0

-- A whole opening of what the old disk reads. The log is opened, and home reads as the replay makes it. Only block 0
-- of the log is written, and nothing if the log is clean.
pub record IsOpening (shape : Shape) (old new : Disk) (superblock : List ℕ) (next : ℕ) : Type 0 where
  pub limit : ℕ
  pub has_limit : HasLimit shape (reading old) limit
  pub number : next ≡ limit + 1
  pub home : OpensAs shape (reading old) (reading new Home)
  pub log : IsOpenedLog shape new superblock next
  pub superblock_is : superblock ≡ cleaned (old Log 0).reads next
  pub others : (n : ℕ) → (n ≡ 0 → ⊥) → new Log n ≡ flushed old Log Log n
  pub untouched : (super_in (old Log 0).reads).s_start ≡ 0 → new ≡ flushed old Log
  pub kept : KeepsOpening shape (flushed old Log) new
