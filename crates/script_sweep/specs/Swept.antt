-- What is known within a sweep of a journal that keeps its contracts.
use Rattle.std.specs.Prelude.{◌≡◌, ℕ, ◌+◌, ◌-◌, ◌^◌, List, Option, None, min}
use Rattle.std.specs.BTreeSet.{keys}
use Rattle.journal_model.specs.Disk.{reading}
use Rattle.journal_model.specs.Transaction.{History}
use Rattle.block_device.specs.Fail.{calls_of}
use Rattle.block_device.specs.Memory.{MemState, state_of}
use Rattle.block_device.specs.declared.fail.FailOnce.{FailOnce}
use Rattle.block_device.specs.declared.stop.StopAt.{StopAt}
use Rattle.recovery.specs.declared.opening.Report.{Report}
use Rattle.recovery.specs.Opening.{Tells}
use Rattle.recovery.specs.Values.{OpenedValue}
use Rattle.journal_script.specs.declared.script.NamedBlocks.{NamedBlocks}
use Rattle.journal_script.specs.declared.script.Operation.{Operation}
use Rattle.journal_script.specs.declared.script.Script.{Script}
use Rattle.journal_script.specs.Named.{HasDirects}
use Rattle.script_client.specs.declared.performing.AfterFailure.TheVariants.{End}
use Rattle.script_client.specs.Outcomes.{HasPerformed}
use Rattle.script_client.specs.Told.{IsLedTo, IsZeroHome}
use Rattle.script_run.specs.declared.running.StoppedRun.{StoppedRun}
use Rattle.script_run.specs.Disks.{IsOpenedAnew, run_state}
use Rattle.script_run.specs.Left.{HasRunAnew, IsStoppedBy}

-- a script was run over a device that stops at write `stop` and fails call `fail`, if named, and the run ended there
pub record HasRun (script : Script) (stop fail : Option ℕ) (stopped : StoppedRun) : Type 0 where
  pub led : IsLedTo IsZeroHome script.operations.items (state_of stopped.device) stopped.recorded.sealed.items stopped.recorded.acknowledged
  pub lines : List ℕ
  pub outcomes : HasRunAnew script stop fail stopped.device stopped.recorded.sealed.items stopped.recorded.acknowledged lines
  pub stops : IsStoppedBy stop stopped

-- operations were run whose direct writes are exactly those of `named`
pub record HasRunNamed (stopped : StoppedRun) (named : NamedBlocks) : Type 0 where
  pub operations : List Operation
  pub run : IsLedTo IsZeroHome operations (state_of stopped.device) stopped.recorded.sealed.items stopped.recorded.acknowledged
  pub directs : HasDirects operations (keys named.directs)

-- a script's operations on an empty log, without a stop or a failure, made so many device calls
pub record MakesCalls (script : Script) (calls : ℕ) : Type 0 where
  pub opened : OpenedValue (FailOnce (StopAt MemState))
  pub anew : IsOpenedAnew script.measures None None opened
  pub device : FailOnce (StopAt MemState)
  pub sealed : History
  pub shown : Option ℕ
  pub lines : List ℕ
  pub performed : HasPerformed run_state (λ d. Unit {0}) opened script.operations.items End device sealed shown lines
  pub calls_are : calls ≡ calls_of device

-- an opening of the image finds this
abbrev pub IsFirst : MemState → Report → Type 0
IsFirst image report = Tells image.shape (reading (state_of image).disk) report.clean report.ends_at report.transactions

-- one more, up to 2^64 - 1
abbrev pub one_more : ℕ → ℕ
one_more n = min (n + 1) (2 ^ 64 - 1)
