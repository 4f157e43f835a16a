-- What stands before a position of a log, and where one step of a scan leads.
use Rattle.std.specs.Prelude.{◌≡◌, ℕ, ◌+◌, List, [], ◌∷◌, ◌++◌, length, take, drop, Some, slice_get}
use Rattle.log_model.specs.declared.log.Tag.{Tag}
use Rattle.log_model.specs.declared.log.Piece.{Piece}
use Rattle.log_model.specs.declared.log.Piece.TheVariants.{Revokes, Copies}
use Rattle.log_model.specs.declared.log.Text.{Text}
use Rattle.log_model.specs.Chain.{IsDamaged, lap, place_from}
use Rattle.journal_model.specs.Disk.{Image}
use Rattle.journal_model.specs.Layout.{Layout}
use Rattle.log_model.specs.Opening.{layout_of, ring_of}
use Rattle.log_model.specs.ReadingLog.{PiecesBegin, TextsBegin}
use Rattle.log_model.specs.Superblock.{Super}
use Rattle.log_scan.specs.declared.cursor.Cursor.{Cursor}
use Rattle.log_scan.specs.declared.finding.Found.{Found}
use Rattle.log_scan.specs.declared.finding.Found.TheVariants.{RevokeBlock, Descriptor, CommitBlock, Malformed, Nothing}
use Rattle.log_scan.specs.Finding.{FinderValue, log_block}
use Rattle.log_scan.specs.Scanning.{AreTextsOf, IsChainOf}

-- the first `taken` blocks are these `number` texts, then these pieces of the next one
pub record StandBefore (l : Layout) (count sequence : ℕ) (blocks : List (List ℕ)) (texts : List Text) (pieces : List Piece) (number taken : ℕ) : Type 0 where
  pub before : ℕ
  pub inside : ℕ
  pub whole : TextsBegin l count sequence blocks texts (sequence + number) before
  pub begun : PiecesBegin l count (sequence + number) (drop before blocks) pieces inside
  pub place : taken ≡ before + inside

-- the same, before a cursor
abbrev pub IsPassed : Super → ℕ → Image → List Text → List Piece → Cursor → Type 0
IsPassed s limit image texts pieces cursor =
    StandBefore (layout_of s) limit s.s_sequence (lap (ring_of s) image s.s_start) texts pieces cursor.transactions cursor.position

-- the cursor stays before a block that is no part of a transaction
abbrev pub cursor_behind : Cursor → Found → Cursor
cursor_behind cursor (RevokeBlock n) = record { position = cursor.position + 1; transactions = cursor.transactions }
cursor_behind cursor (Descriptor n) = record { position = cursor.position + (1 + n); transactions = cursor.transactions }
cursor_behind cursor CommitBlock = record { position = cursor.position + 1; transactions = cursor.transactions + 1 }
cursor_behind cursor Malformed = cursor
cursor_behind cursor Nothing = cursor

pub record RevokesPassed (s : Super) (limit : ℕ) (image : Image) (texts : List Text) (pieces : List Piece) (numbers : List ℕ) (cursor : Cursor) : Type 0 where
  pub block : List ℕ
  pub passed : IsPassed s limit image texts (pieces ++ Revokes block numbers ∷ []) cursor

-- n log blocks from this ring position on
pub record StandAt (s : Super) (image : Image) (position n : ℕ) (copies : List (List ℕ)) : Type 0 where
  pub count : length copies ≡ n
  pub each : (k : ℕ) (copy : List ℕ) → slice_get copies k ≡ Some copy → copy ≡ log_block image (place_from (ring_of s) s.s_start (position + k))

pub record CopiesPassed
    (s : Super) (limit : ℕ) (image : Image) (texts : List Text) (pieces : List Piece) (tags : List Tag) (position n : ℕ) (cursor : Cursor) : Type 0 where
  pub block : List ℕ
  pub copies : List (List ℕ)
  pub stand : StandAt s image (position + 1) n copies
  pub passed : IsPassed s limit image texts (pieces ++ Copies block tags copies ∷ []) cursor

pub record CommitPassed (s : Super) (limit : ℕ) (image : Image) (texts : List Text) (pieces : List Piece) (cursor : Cursor) : Type 0 where
  pub commit : List ℕ
  pub passed : IsPassed s limit image (texts ++ record { pieces = pieces; commit = commit } ∷ []) [] cursor

-- after what was found, to a damaged block, or to the end of the chain
abbrev pub LeadsTo : Super → ℕ → Image → List Text → List Piece → FinderValue → (old new : Cursor) → Found → Type 0
LeadsTo s limit image texts pieces f old new (RevokeBlock n) = RevokesPassed s limit image texts pieces (take n f.numbers) new
LeadsTo s limit image texts pieces f old new (Descriptor n) = CopiesPassed s limit image texts pieces (take n f.tags) old.position n new
LeadsTo s limit image texts pieces f old new CommitBlock = CommitPassed s limit image texts pieces new
LeadsTo s limit image texts pieces f old new Malformed = IsChainOf s limit image texts × IsDamaged (layout_of s) limit s.s_sequence (lap (ring_of s) image s.s_start) old.position
LeadsTo s limit image texts pieces f old new Nothing = AreTextsOf s limit image texts
