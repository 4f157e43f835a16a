use Rattle.std.proofs.lemmas.Result.{IfOk-weaker}
use Rattle.std.specs.Prelude.{◌≡◌, ◌≢◌, Bool, false, [], Option, Result, Ok, Err, IfOk, ℕ}
use Rattle.journal_model.specs.Disk.{reading}
use Rattle.journal_model.specs.Transaction.{History}
use Rattle.journal_model.specs.declared.refusal.JournalError.{JournalError}
use Rattle.journal_model.specs.declared.refusal.JournalError.TheVariants.{Device, Memory}
use Rattle.block_device.specs.Memory.{MemState, state_of}
use Rattle.journal_script.specs.declared.script.NamedBlocks.{NamedBlocks}
use Rattle.script_run.specs.Left.{IsCrashOf}
use Rattle.script_run.specs.OpenedImages.{IsUnopened}
use Rattle.script_threads.specs.Verdicts.{IsRecovered}
use Rattle.script_threads.specs.Verdicts.IsRecovered.{IsOpened, IsRefused}
use Rattle.script_threads.proofs.recovery_verdict.recovers.Goals as goal

-- An image that was opened.
pub returns-in-Ok : goal.returns-in-Ok
returns-in-Ok c =
    IfOk-weaker c.is_recovered.result _ _
    (λ right says. IsOpened c.crash.result c.in-Ok.opened (record { each = c.crash.ensures.image; shape_is = c.crash.ensures.shape }) c.in-Ok.ensures.opened says) c.is_recovered.ensures

-- An image that was refused.
refused : (device image : MemState) (sealed : History) (shown : Option ℕ) (named : NamedBlocks) (e : JournalError) (end : Result Bool JournalError) → IsCrashOf device [] image →
    IsUnopened image.shape (reading (state_of image).disk) e → IfOk end (λ right. (e ≢ Device) × (e ≢ Memory)) → IfOk end (λ right. right ≡ false) → IfOk end (IsRecovered device sealed shown named)
refused device image sealed shown named e (Err why) crash unopened other wrong = tt
refused device image sealed shown named e (Ok right) crash unopened other wrong = IsRefused image e crash (unopened other.0 other.1) wrong

pub returns-in-Err : goal.returns-in-Err
returns-in-Err c =
    refused c.args.device c.crash.result c.args.recorded.now.sealed.items c.args.recorded.now.acknowledged c.args.named.now c.in-Err.e c.unopened.result
    (record { each = c.crash.ensures.image; shape_is = c.crash.ensures.shape }) c.in-Err.ensures.err c.unopened.ensures.refused c.unopened.ensures.wrong
