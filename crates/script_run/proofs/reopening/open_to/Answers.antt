use Rattle.std.proofs.Common.{◌∙◌, ap, subst, sym}
use Rattle.std.proofs.lemmas.Result.{IfErr-weaker, IfOk-weaker}
use Rattle.journal_model.specs.declared.refusal.JournalError.{JournalError}
use Rattle.journal_model.specs.declared.refusal.JournalError.TheVariants.{Device, Memory}
use Rattle.journal_model.specs.Disk.{reading}
use Rattle.log_model.specs.Opening.{IsRefused}
use Rattle.std.specs.Prelude.{◌≡◌}
use Rattle.block_device.specs.Memory.{MemState, state_of}
use Rattle.block_device.specs.Stop.{inner_of}
use Rattle.script_run.specs.declared.opening.OpenedImage.{OpenedImage}
use Rattle.script_run.specs.OpenedImages.{IsUnopened}
use Rattle.script_run.specs.Reopening.{IsAttempt, IsStoppedAttempt, IsWholeAttempt}
use Rattle.script_run.proofs.Openings.{IsBroken-inside, IsDone-inside, IsMoment-inside, opened-image, stopped-attempt, whole-attempt}
use Rattle.script_run.proofs.reopening.open_to.Goals as goal

-- the opening ended
pub returns-in-Ok-clause-attempt : goal.returns-in-Ok-clause-attempt
returns-in-Ok-clause-attempt c =
    let image = c.args.image in
    let start = ap inner_of c.new.ensures in
    let device = c.into_inner.ensures ∙ ap inner_of c.into_device.ensures in
    let opened : OpenedImage = record { device = c.into_inner.result; report = c.report-report.result; next = c.next-next.result } in
    IfOk-weaker c.whole.result (IsWholeAttempt opened c.args.k) (IsAttempt (state_of image) c.args.k)
    (λ a.
    whole-attempt (state_of image) c.args.k opened a
    (opened-image image c.new.result.device c.in-Ok.opened.device.device opened _ start device c.report-report.ensures (c.in-Ok.ensures.report tt) (c.in-Ok.ensures.opened tt).home c.in-Ok.ensures.shape)
    (IsDone-inside image c.into_inner.result c.new.result c.in-Ok.opened.device start device (c.in-Ok.ensures.calls tt)))
    c.whole.ensures.whole

-- the opening failed
pub returns-in-Err-clause-attempt : goal.returns-in-Err-clause-attempt
returns-in-Err-clause-attempt c =
    let image = c.args.image in
    let start = ap inner_of c.new.ensures in
    let left = c.into_inner-in-Err in
    IfOk-weaker c.stopped.result (IsStoppedAttempt left.result c.args.k) (IsAttempt (state_of image) c.args.k)
    (λ a.
    stopped-attempt (state_of image) left.result c.args.k a
    (ap (λ (m : MemState). m.shape) left.ensures ∙ c.in-Err.ensures.shape ∙ ap (λ (m : MemState). m.shape) start)
    (IsMoment-inside image left.result c.new.result c.in-Err.device start left.ensures (c.in-Err.ensures.moments tt).now)
    (IsBroken-inside image left.result c.new.result c.in-Err.device start left.ensures (c.in-Err.ensures.calls tt)))
    c.stopped.ensures.stopped

-- it failed before that write: a refusal of the image's contents, no memory, or a device failure
pub returns-in-Ok-clause-err : goal.returns-in-Ok-clause-err
returns-in-Ok-clause-err c =
    let image = c.args.image in
    IfErr-weaker c.whole.result (λ e. e ≡ Device) (IsUnopened image.shape (reading (state_of image).disk)) (λ e is device memory. absurd (device is)) c.whole.ensures.other

pub returns-in-Err-clause-err : goal.returns-in-Err-clause-err
returns-in-Err-clause-err c =
    let image = c.args.image in
    let start = ap inner_of c.new.ensures in
    let told : IsUnopened image.shape (reading (state_of image).disk) c.in-Err.e = λ device memory.
    subst (λ (m : MemState). IsRefused m.shape (reading (state_of m).disk) c.in-Err.e) start ((c.in-Err.ensures.refused.content device memory).2 tt) in
    IfErr-weaker c.stopped.result (λ same. same ≡ c.in-Err.e) (IsUnopened image.shape (reading (state_of image).disk))
    (λ e same. subst (IsUnopened image.shape (reading (state_of image).disk)) (sym same) told) c.stopped.ensures.before
