-- What an opening would leave of one home block.
use Rattle.std.specs.Prelude.{◌≡◌, ℕ, ◌<◌, List}
use Rattle.journal_model.specs.declared.number.Area.TheVariants.{Home, Log}
use Rattle.journal_model.specs.Disk.{Disk, Image, Shape, reading}
use Rattle.log_model.specs.Opening.{OpensAs}
use Rattle.block_device.specs.State.{DeviceState}

-- the first k blocks of the log read as before
abbrev pub HasCopied : ℕ → Disk → Disk → Type 0
HasCopied k old new = (n : ℕ) → n < k → (new Log n).reads ≡ (old Log n).reads

-- two images have the same log, and this home block in common
pub record ReadsAlike (shape : Shape) (block : ℕ) (one other : Image) : Type 0 where
  pub log : (n : ℕ) → n < shape.log_blocks → other Log n ≡ one Log n
  pub home : other Home block ≡ one Home block

-- an opening leaves these bytes in the home block: an image with this device's log and block opens to a home area that has them there
pub record IsLeftIn (s : DeviceState) (block : ℕ) (bytes : List ℕ) : Type 0 where
  pub there : block < s.shape.home_blocks
  pub image : Image
  pub alike : ReadsAlike s.shape block (reading s.disk) image
  pub home : ℕ → List ℕ
  pub opens : OpensAs s.shape image home
  pub has : bytes ≡ home block
