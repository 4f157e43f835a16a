-- Which device call a step makes, and whether a device accepts it.
use Rattle.std.specs.Prelude.{◌≡◌, ⊤, ℕ, ◌<◌, List, length, Option, Some, None}
use Rattle.journal_model.specs.Disk.{Shape}
use Rattle.block_device.specs.State.{blocks_in}
use Rattle.journal_world.specs.Call.{Call}
use Rattle.journal_world.specs.Call.Call.{Write, Flush}
use Rattle.log_ledger.specs.declared.due.Due.{Due}
use Rattle.log_ledger.specs.declared.due.Due.TheVariants.{Nothing, Write as WriteDue, Flush as FlushDue}

-- the device call, with the block that was built for it
abbrev pub call_of : Due → List ℕ → Option Call
call_of Nothing bytes = None
call_of (WriteDue area place) bytes = Some (Write area place bytes)
call_of (FlushDue area) bytes = Some (Flush area)

abbrev pub Fits : Shape → Due → List ℕ → Type 0
Fits shape Nothing bytes = ⊤
Fits shape (WriteDue area place) bytes = (place < blocks_in shape area) × (length bytes ≡ shape.block_size)
Fits shape (FlushDue area) bytes = ⊤
