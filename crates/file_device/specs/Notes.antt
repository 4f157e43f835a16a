-- The call of a note.
use Rattle.file_device.specs.Calls.{FileCall, Measured, Read, ReadFailed, Wrote, WriteFailed, GatheredFailed, Synced, SyncFailed}
use Rattle.file_device.specs.declared.history.Note.{Note}
use Rattle.file_device.specs.declared.history.Note.TheVariants as note

abbrev pub call_of : Note → FileCall
call_of (note.Measured area length) = Measured area length
call_of (note.Read area at bytes) = Read area at bytes.now
call_of (note.ReadFailed area at) = ReadFailed area at
call_of (note.Wrote area at bytes) = Wrote area at bytes.now
call_of (note.WriteFailed area at bytes) = WriteFailed area at bytes.now
call_of (note.GatheredFailed area at bytes) = GatheredFailed area at bytes.now
call_of (note.Synced area) = Synced area
call_of (note.SyncFailed area) = SyncFailed area
