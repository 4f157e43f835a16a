-- An opening as a machine: what it read and accepted, and which device call is due.
-- Source: fs/jbd2/recovery.c by behaviour; the flush at its begin and the clean log at its end are this project's own.
use Rattle.std.specs.Prelude.{◌≡◌, ℕ, ◌+◌, ◌<◌, List, [], length}
use Rattle.log_model.specs.declared.log.Text.{Text}
use Rattle.journal_model.specs.declared.number.Area.TheVariants.{Log, Home}
use Rattle.journal_model.specs.Disk.{Disk, Image, Shape, reading}
use Rattle.log_model.specs.Opening.{HasChain, IsClean, NothingAhead, greatest_number, super_of}
use Rattle.log_model.specs.Replay.{IsNewest, IsReplayed}
use Rattle.log_model.specs.Superblock.{with_tail}
use Rattle.journal_world.specs.Call.{Call}
use Rattle.journal_world.specs.Call.Call.{Write, Flush}

-- which device call of an opening is due
pub data OpeningStage : Type 0 where
  LogFlush : OpeningStage  -- the log was read and tested; due: its flush
  Copies : OpeningStage  -- due: a newest copy, in any order, or the flush of home once it reads as the replay makes it
  SuperblockWrite : OpeningStage  -- home is durable; due: the write of the clean superblock
  SuperblockFlush : OpeningStage  -- due: its flush
  Done : OpeningStage  -- Ok may be answered

-- the whole image, the texts of its chain, and the greatest number that a ring block may carry
pub record Found : Type 0 where
  pub image : Image
  pub texts : List Text
  pub limit : ℕ

-- the texts of the chain (none in a clean log), and the limit
pub data HasTexts (shape : Shape) (image : Image) : List Text → ℕ → Type 0 where
  NoTexts : IsClean shape image → HasTexts shape image [] (super_of image).s_sequence
  Texts : (texts : List Text) → HasChain shape image texts → HasTexts shape image texts ((super_of image).s_sequence + length texts)

pub record IsFound (shape : Shape) (found : Found) : Type 0 where
  pub size : length (found.image Log 0) ≡ shape.block_size
  pub has : HasTexts shape found.image found.texts found.limit
  pub none_ahead : NothingAhead found.image found.limit
  pub number : found.limit < greatest_number

abbrev pub next_of : Found → ℕ
next_of found = found.limit + 1

abbrev pub clean_superblock : Found → List ℕ
clean_superblock found = with_tail (found.image Log 0) (next_of found) 0

pub data OpeningCall (shape : Shape) (found : Found) (disk : Disk) : OpeningStage → Call → OpeningStage → Type 0 where
  FlushClean : IsClean shape found.image → OpeningCall shape found disk LogFlush (Flush Log) Done
  FlushLog : HasChain shape found.image found.texts → OpeningCall shape found disk LogFlush (Flush Log) Copies
  CopyHome : (b : ℕ) (v : List ℕ) → IsNewest found.texts b v → OpeningCall shape found disk Copies (Write Home b v) Copies
  FlushHome : IsReplayed shape.home_blocks found.texts (found.image Home) (reading disk Home) →
      OpeningCall shape found disk Copies (Flush Home) SuperblockWrite
  WriteSuperblock : OpeningCall shape found disk SuperblockWrite (Write Log 0 (clean_superblock found)) SuperblockFlush
  FlushSuperblock : OpeningCall shape found disk SuperblockFlush (Flush Log) Done
