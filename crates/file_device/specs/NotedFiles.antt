-- The files of a device, and the calls that were made on them.
use Rattle.std.specs.Prelude.{List, ◌∷◌, ◌++◌, Option, Some}
use Rattle.std.specs.declared.fs.File.{File}
use Rattle.journal_model.specs.declared.number.Area.{Area}
use Rattle.journal_model.specs.declared.number.Area.TheVariants.{Log, Home}
use Rattle.file_device.specs.Calls.{FileCall}
use Rattle.file_device.specs.declared.calls.NotedFiles.{NotedFiles}

-- the calls so far, newest first
abbrev pub calls_of : NotedFiles → List FileCall
calls_of files = files.history.calls

-- the file of an area, if any
abbrev pub file_of : NotedFiles → Area → Option File
file_of files Log = Some files.log
file_of files Home = files.home

-- the same files after more calls
abbrev pub with_calls : NotedFiles → List FileCall → NotedFiles
with_calls files calls = record files { history = record { calls = calls ++ files.history.calls } }

-- the same files after one more call
abbrev pub with_call : NotedFiles → FileCall → NotedFiles
with_call files call = record files { history = record { calls = call ∷ files.history.calls } }
