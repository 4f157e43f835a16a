use Rattle.std.proofs.lemmas.Result.{IfErr-weaker, IfOk-weaker}
use Rattle.journal_model.specs.Disk.{reading}
use Rattle.block_device.specs.Memory.{state_of}
use Rattle.script_run.specs.OpenedImages.{IsOpenedImage, IsUnopened}
use Rattle.script_sweep.proofs.swept.ThisJournalSwept.open.Goals as goal

pub returns-clause-opened : goal.returns-clause-opened
returns-clause-opened c =
    IfOk-weaker c.open_image.result (IsOpenedImage c.args.image.shape (state_of c.args.image).disk)
    (λ opened. Unit {0} → IsOpenedImage c.args.image.shape (state_of c.args.image).disk opened) (λ opened is keeps. is) c.open_image.ensures.opened

-- a refusal is one of the contract
pub returns-clause-err : goal.returns-clause-err
returns-clause-err c =
    IfErr-weaker c.open_image.result (IsUnopened c.args.image.shape (reading (state_of c.args.image).disk))
    (λ e. Unit {0} → IsUnopened c.args.image.shape (reading (state_of c.args.image).disk) e) (λ e why keeps. why) c.open_image.ensures.err
