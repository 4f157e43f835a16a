-- Lemmas: the disk of a run's device, and the end of a run.
use Rattle.std.proofs.Common.{refl, sym, subst}
use Rattle.std.specs.Prelude.{◌≡◌, ℕ, List, Option}
use Rattle.journal_model.specs.Disk.{Disk, Shape}
use Rattle.journal_model.specs.Transaction.{History}
use Rattle.block_device.specs.Memory.{MemState, state_of}
use Rattle.block_device.specs.declared.fail.FailOnce.{FailOnce}
use Rattle.block_device.specs.declared.stop.StopAt.{StopAt}
use Rattle.journal_script.specs.declared.script.Operation.{Operation}
use Rattle.journal_script.specs.Named.{AreNamedBy}
use Rattle.journal_script.specs.declared.script.NamedBlocks.{NamedBlocks}
use Rattle.journal_script.specs.declared.script.Script.{Script}
use Rattle.script_client.specs.Told.{IsLedTo, IsZeroHome}
use Rattle.script_client.proofs.Telling.{stays}
use Rattle.script_run.specs.declared.running.CrashedRun.{CrashedRun}
use Rattle.script_run.specs.declared.running.StoppedRun.{StoppedRun}
use Rattle.script_run.specs.declared.stops.Stop.{Stop}
use Rattle.script_run.specs.declared.verdict.RunRecord.{RunRecord}
use Rattle.script_run.specs.Disks.{disk_behind, run_state}
use Rattle.script_run.specs.Left.{HasRunAnew, IsCrashOf, IsEndOf, IsStoppedBy}

-- what led to the device led to its disk
pub led-after : (Fact : Shape → Disk → Type 0) (operations : List Operation) (sealed : History) (shown : Option ℕ) (device : FailOnce (StopAt MemState)) (left : MemState) → left ≡ disk_behind device
    → IsLedTo Fact operations (run_state device) sealed shown → IsLedTo Fact operations (state_of left) sealed shown
led-after Fact operations sealed shown device left is to =
    let inside : IsLedTo Fact operations (state_of (disk_behind device)) sealed shown = record {
      journal = to.journal;
      led = stays Fact operations to.journal to.journal (run_state device) (state_of (disk_behind device)) shown to.led refl refl refl;
      sealed_is = to.sealed_is;
    } in
    subst (λ (m : MemState). IsLedTo Fact operations (state_of m) sealed shown) (sym is) inside

-- a stopped run, and its crash image, are the end of the script's run
pub end-of-run : (script : Script) (stop : Stop) (failing_call : Option ℕ) (stopped : StoppedRun) (left : CrashedRun) (named : NamedBlocks) (lines : List ℕ)
    → IsLedTo IsZeroHome script.operations.items (state_of stopped.device) stopped.recorded.sealed.items stopped.recorded.acknowledged
    → HasRunAnew script stop.at_write failing_call stopped.device stopped.recorded.sealed.items stopped.recorded.acknowledged lines → IsStoppedBy stop.at_write stopped
    → IsCrashOf stopped.device stop.keep.now left.image → left.recorded ≡ stopped.recorded → AreNamedBy script named
    → IsEndOf script stop failing_call left.image left.recorded.sealed.items left.recorded.acknowledged named
end-of-run script stop failing_call stopped left named lines led outcomes stops crash recorded names =
    subst (λ (r : RunRecord). IsEndOf script stop failing_call left.image r.sealed.items r.acknowledged named) (sym recorded)
    (record { device = stopped.device; led = led; lines = lines; outcomes = outcomes; at_write = stopped.at_write; stops = stops; crash = crash; names = names })
