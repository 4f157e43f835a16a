-- The files of a device.
use Rattle.std.specs.Prelude.{◌≡◌, Some}
use Rattle.std.specs.declared.fs.File.{File}
use Rattle.file_device.specs.Files.{FileState}

-- its log is in the first file, its home area in the second
abbrev pub IsOver : File → File → FileState → Type 0
IsOver log home device = (device.log_file ≡ log) × (device.home_file ≡ Some home)
