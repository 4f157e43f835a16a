-- The contents of cleared files. Unknown blocks become zeros. This project's own.
use Rattle.std.specs.Prelude.{[]}
use Rattle.journal_model.specs.declared.number.Area.TheVariants.{Home, Log}
use Rattle.journal_model.specs.Disk.{Cell, Disk}
use Rattle.file_device.specs.Files.{FileContents}

-- zeros, durable
abbrev pub zeros : Cell
zeros = record { reads = []; others = [] }

-- the log's blocks are zeros, and home's as before
abbrev pub log_zeros : Disk → Disk
log_zeros first Log n = zeros
log_zeros first Home n = first Home n

-- both files were cleared
abbrev pub cleared : FileContents → FileContents
cleared files = record { first = λ _ _. zeros; failed_write_reads = files.failed_write_reads }

-- the log was cleared, and home was kept
abbrev pub log_cleared : FileContents → FileContents
log_cleared files = record { first = log_zeros files.first; failed_write_reads = files.failed_write_reads }
