-- An image that was opened.
use Rattle.std.specs.Prelude.{◌≡◌, ◌≢◌}
use Rattle.journal_model.specs.declared.number.Area.TheVariants.{Home}
use Rattle.journal_model.specs.declared.refusal.JournalError.{JournalError}
use Rattle.journal_model.specs.declared.refusal.JournalError.TheVariants.{Device, Memory}
use Rattle.journal_model.specs.Disk.{Disk, Image, Shape, reading}
use Rattle.log_model.specs.Opening.{IsRefused, OpensAs}
use Rattle.block_device.specs.Memory.{state_of}
use Rattle.recovery.specs.Opening.{Tells}
use Rattle.script_run.specs.declared.opening.OpenedImage.{OpenedImage}

-- the report is what the opening of this disk found, and home reads as the opening gives it
pub record IsOpenedImage (shape : Shape) (disk : Disk) (opened : OpenedImage) : Type 0 where
  pub tells : Tells shape (reading disk) opened.report.clean opened.report.ends_at opened.report.transactions
  pub opens : OpensAs shape (reading disk) (reading (state_of opened.device).disk Home)
  pub shape_is : opened.device.shape ≡ shape

-- why an image is not opened: no memory, a device failure, or a refusal of its contents for this cause
abbrev pub IsUnopened : Shape → Image → JournalError → Type 0
IsUnopened shape image e = e ≢ Device → e ≢ Memory → IsRefused shape image e
