use Rattle.std.proofs.lemmas.Result.{IfErr-weaker, IfOk-weaker}
use Rattle.journal_model.specs.Disk.{reading}
use Rattle.block_device.specs.Memory.{state_of}
use Rattle.script_run.specs.OpenedImages.{IsUnopened}
use Rattle.script_run.specs.Reopening.{IsAttempt}
use Rattle.script_sweep.proofs.swept.ThisJournalSwept.open_to.Goals as goal

pub returns-clause-attempt : goal.returns-clause-attempt
returns-clause-attempt c =
    IfOk-weaker c.open_to.result (IsAttempt (state_of c.args.image) c.args.k) (λ attempt. Unit {0} → IsAttempt (state_of c.args.image) c.args.k attempt)
    (λ attempt is keeps. is) c.open_to.ensures.attempt

-- a refusal is one of the contract
pub returns-clause-err : goal.returns-clause-err
returns-clause-err c =
    IfErr-weaker c.open_to.result (IsUnopened c.args.image.shape (reading (state_of c.args.image).disk))
    (λ e. Unit {0} → IsUnopened c.args.image.shape (reading (state_of c.args.image).disk) e) (λ e why keeps. why) c.open_to.ensures.err
