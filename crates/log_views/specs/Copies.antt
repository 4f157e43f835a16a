-- What it means that a log has a copy at a place.
use Rattle.std.specs.Prelude.{◌≡◌, ℕ, ◌+◌, ◌<◌, List, length, Some, slice_get}
use Rattle.log_model.specs.declared.log.Piece.{Piece}
use Rattle.log_model.specs.declared.log.Tag.{Tag}
use Rattle.log_model.specs.declared.log.Text.{Text}
use Rattle.log_model.specs.Chain.{place_from}
use Rattle.log_model.specs.Escape.{unescaped}
use Rattle.journal_model.specs.Disk.{Image}
use Rattle.log_model.specs.Opening.{ring_of}
use Rattle.log_model.specs.Superblock.{Super}
use Rattle.log_scan.specs.declared.cursor.Cursor.{Cursor}
use Rattle.log_scan.specs.declared.scanning.ChainEnd.{ChainEnd}
use Rattle.log_scan.specs.Finding.{every_block, log_block}
use Rattle.log_scan.specs.Passing.{CopiesPassed}
use Rattle.log_scan.specs.Scanning.{IsEndOf}

-- A complete transaction has a copy at this place: after the texts and pieces before it comes a descriptor with this tag for it. These
-- are its bytes as they go home.
pub record IsCopyIn (s : Super) (image : Image) (place : ℕ) (bytes : List ℕ) : Type 0 where
  pub end : ChainEnd
  pub ends : IsEndOf s (every_block s) image end
  pub texts : List Text
  pub complete : length texts < end.transactions
  pub pieces : List Piece
  pub tags : List Tag
  pub position : ℕ
  pub count : ℕ
  pub cursor : Cursor
  pub passed : CopiesPassed s (every_block s) image texts pieces tags position count cursor
  pub k : ℕ
  pub tag : Tag
  pub tag_is : slice_get tags k ≡ Some tag
  pub place_is : place ≡ place_from (ring_of s) s.s_start (position + 1 + k)
  pub bytes_are : bytes ≡ unescaped tag.escaped (log_block image place)
