-- A log whose superblock was read and accepted.
use Rattle.std.specs.Prelude.{◌≡◌, None}
use Rattle.journal_model.specs.declared.number.Area.TheVariants.{Log}
use Rattle.journal_model.specs.Disk.{Image, Shape}
use Rattle.log_model.specs.Opening.{super_of}
use Rattle.log_model.specs.Superblock.{Super, super_refusal}

-- the superblock is accepted, and `s` has its fields
pub record IsReadLog (shape : Shape) (image : Image) (s : Super) : Type 0 where
  pub accepted : super_refusal shape (image Log 0) ≡ None
  pub same : s ≡ super_of image
