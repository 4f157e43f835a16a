-- Which call of a round a ledger finds due, and the ledger after it succeeded.
use Rattle.std.specs.Prelude.{◌≡◌, ℕ, ◌+◌, ◌-◌, ◌≤◌, List, Some, slice_get}
use Rattle.journal_model.specs.Disk.{Shape}
use Rattle.checkpoint.specs.declared.version.HomeCopy.{HomeCopy}
use Rattle.checkpoint.specs.Pending.{newest_of}
use Rattle.journal_world.specs.declared.round.Round.TheVariants.{Copies}
use Rattle.journal_world.specs.Call.{Call}
use Rattle.journal_world.specs.Checkpoint.{RoundCall}
use Rattle.journal_world.specs.Engine.{Engine}
use Rattle.log_ledger.specs.declared.due.Due.{Due}
use Rattle.log_ledger.specs.declared.ledger.Ledger.{Ledger}
use Rattle.log_ledger.specs.Due.{call_of}
use Rattle.log_ledger.specs.Ledger.{Runs, engine_of}

-- the machine's due call, with the block that was built for it
pub record HasDue (e : Engine) (due : Due) (bytes : List ℕ) : Type 0 where
  pub call : Call
  pub is : call_of due bytes ≡ Some call
  pub stepped : Engine
  pub round : RoundCall e e.round call stepped

-- the round's next copy
pub record IsDueHome (l : Ledger) (copy : HomeCopy) : Type 0 where
  pub transaction : ℕ
  pub block : ℕ
  pub round : l.round ≡ Copies transaction block
  pub first : slice_get l.pending.unwritten 0 ≡ Some (copy.version.tid, copy.block)
  pub due : copy.version.tid ≤ l.first + l.bound - 1
  pub newest : newest_of l.pending copy.block ≡ Some copy.version

-- the ledger after the due call, which can run
pub record HasGone (shape : Shape) (old new : Ledger) : Type 0 where
  pub call : Call
  pub round : RoundCall (engine_of shape old) old.round call (engine_of shape new)
  pub runs : Runs shape new
