-- What a run of a script did and left, and the verdict on it, also with a stopped opening.
use Rattle.std.specs.Prelude.{◌≡◌, ◌⊎◌, ⊤, ℕ, ◌<◌, Bool, List, [], Option, Some, None}
use Rattle.journal_model.specs.declared.number.Area.{Area}
use Rattle.journal_model.specs.Disk.{reading}
use Rattle.journal_model.specs.Transaction.{History}
use Rattle.block_device.specs.Memory.{MemState, crashed, state_of, writes_of}
use Rattle.journal_script.specs.declared.script.Script.{Script}
use Rattle.journal_script.specs.Named.{AreNamedBy}
use Rattle.journal_script.specs.declared.script.NamedBlocks.{NamedBlocks}
use Rattle.script_run.specs.Reopening.{IsOpeningVerdict}
use Rattle.script_run.specs.Verdict.{IsImageVerdict}
use Rattle.script_run.specs.declared.running.StoppedRun.{StoppedRun}
use Rattle.script_run.specs.declared.stops.Stop.{Stop}
use Rattle.script_run.specs.declared.stops.Stops.{Stops}
use Rattle.block_device.specs.declared.fail.FailOnce.{FailOnce}
use Rattle.block_device.specs.declared.stop.StopAt.{StopAt}
use Rattle.recovery.specs.Values.{OpenedValue}
use Rattle.journal_script.specs.declared.script.Operation.{Operation}
use Rattle.script_client.specs.declared.performing.AfterFailure.{AfterFailure}
use Rattle.script_client.specs.declared.performing.AfterFailure.TheVariants.{End, GoOn}
use Rattle.script_client.specs.Outcomes.{HasPerformed}
use Rattle.script_client.specs.Told.{IsLedTo, IsZeroHome}
use Rattle.script_run.specs.Disks.{IsOpenedAnew, disk_behind, run_state}

-- the verdict on an image; if a write is named, its opening stops there and keeps `keep`
abbrev pub IsVerdictBy : Option ℕ → (keep : List ℕ) → MemState → History → Option ℕ → NamedBlocks → Bool → Type 0
IsVerdictBy None keep image sealed shown named right = IsImageVerdict image.shape (reading (state_of image).disk) sealed shown named right
IsVerdictBy (Some k) keep image sealed shown named right = IsOpeningVerdict (state_of image) k keep sealed shown named right

abbrev pub IsLeftVerdict : MemState → Stop → History → Option ℕ → NamedBlocks → Bool → Type 0
IsLeftVerdict image opening sealed shown named right = IsVerdictBy opening.at_write opening.keep.now image sealed shown named right

-- the image is the durable crash image of `device` that keeps these writes
pub record IsCrashOf (device : MemState) (keep : List ℕ) (image : MemState) : Type 0 where
  pub each : (a : Area) (n : ℕ) → (state_of image).disk a n ≡ record { reads = crashed keep device a n; others = [] }
  pub shape_is : image.shape ≡ device.shape

-- A device that was to stop at write `k` stopped there, with `k` its last write, or made fewer writes, or `k` is 0. With no write named it
-- stopped at the end.
abbrev pub IsStoppedAtWrite : Option ℕ → Option ℕ → (writes : ℕ) → Type 0
IsStoppedAtWrite None None writes = ⊤
IsStoppedAtWrite None (Some at) writes = ⊥
IsStoppedAtWrite (Some k) None writes = (k ≡ 0) ⊎ (writes < k)
IsStoppedAtWrite (Some k) (Some at) writes = (at ≡ k) × (writes ≡ k)

abbrev pub IsStoppedBy : Option ℕ → StoppedRun → Type 0
IsStoppedBy stop stopped = IsStoppedAtWrite stop stopped.at_write (writes_of stopped.device.calls)

-- the script goes on after a failing call, and ends when the device stops
abbrev pub after_call : Option ℕ → AfterFailure
after_call None = End
after_call (Some call) = GoOn

-- operations were performed over the device of a run, on this opened log, with outcomes whose lines these are; `device` is its disk
pub record HasRun (opened : OpenedValue (FailOnce (StopAt MemState))) (operations : List Operation) (after : AfterFailure) (device : MemState) (sealed : History) (shown : Option ℕ)
    (lines : List ℕ) : Type 0 where
  pub over : FailOnce (StopAt MemState)
  pub performs : HasPerformed run_state (λ d. Unit {0}) opened operations after over sealed shown lines
  pub behind : device ≡ disk_behind over

-- the same for a script on an empty log of its measures, with a home of zeros; the device stops at write `stop` and fails call `fail`, if
-- named
pub record HasRunAnew (script : Script) (stop fail : Option ℕ) (device : MemState) (sealed : History) (shown : Option ℕ) (lines : List ℕ) : Type 0 where
  pub opened : OpenedValue (FailOnce (StopAt MemState))
  pub anew : IsOpenedAnew script.measures stop fail opened
  pub zero : IsZeroHome (run_state opened.device).shape (run_state opened.device).disk
  pub run : HasRun opened script.operations.items (after_call fail) device sealed shown lines

-- The end of a script's run. Moves of the machine lead from an empty log, on a home of zeros, to a device, the sealed transactions, and the
-- greatest acknowledged one. Each operation up to the script's end has a line. The device stopped at the named write or at the end. `image`
-- is a crash image of it, and `named` has the blocks that the script names.
pub record IsEndOf (script : Script) (stop : Stop) (failing_call : Option ℕ) (image : MemState) (sealed : History) (shown : Option ℕ) (named : NamedBlocks) : Type 0 where
  pub device : MemState
  pub led : IsLedTo IsZeroHome script.operations.items (state_of device) sealed shown
  pub lines : List ℕ
  pub outcomes : HasRunAnew script stop.at_write failing_call device sealed shown lines
  pub at_write : Option ℕ
  pub stops : IsStoppedAtWrite stop.at_write at_write (writes_of device.calls)
  pub crash : IsCrashOf device stop.keep.now image
  pub names : AreNamedBy script named

-- a run of the script left this image, with this verdict on its openings
pub record IsRunTo (script : Script) (stops : Stops) (image : MemState) (right : Bool) : Type 0 where
  pub sealed : History
  pub shown : Option ℕ
  pub named : NamedBlocks
  pub end : IsEndOf script stops.run stops.failing_call image sealed shown named
  pub verdict : IsLeftVerdict image stops.opening sealed shown named right

-- a run of the script has this verdict
pub record IsRunOf (script : Script) (stops : Stops) (right : Bool) : Type 0 where
  pub image : MemState
  pub run : IsRunTo script stops image right
