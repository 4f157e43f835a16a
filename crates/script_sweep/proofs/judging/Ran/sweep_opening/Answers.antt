use Rattle.std.proofs.Common.{refl, subst}
use Rattle.std.proofs.lemmas.Result.{on_ok_weaker}
use Rattle.journal_model.specs.Disk.{reading}
use Rattle.block_device.specs.Memory.{MemState, state_of}
use Rattle.script_run.specs.OpenedImages.{IsUnopened}
use Rattle.script_sweep.specs.Sweeping.SweepsOpening.{EndsBefore, RefusesBefore, StopsThere}
use Rattle.script_sweep.proofs.Sweeps.{ends-before, stops-there}
use Rattle.script_sweep.proofs.judging.Ran.sweep_opening.Goals as goal

-- it stopped there
pub returns-in-Ok-Stopped : goal.returns-in-Ok-Stopped
returns-in-Ok-Stopped g c =
    on_ok_weaker c.sweep_stopped_opening.result
    (λ steps.
    StopsThere c.in-Ok-Stopped.device
    (stops-there g.J.Swept.keeps c.args.image.now c.in_ok-copy_of.field-0 c.args.j c.in-Ok-Stopped.field-0 c.in-Ok-Stopped.device c.in_ok-copy_of.ensures c.in-Ok-Stopped.field-0-is c.in-Ok-Stopped.ensures.attempt)
    steps)
    c.sweep_stopped_opening.ensures

-- or it ended before
pub returns-in-Ok-Whole : goal.returns-in-Ok-Whole
returns-in-Ok-Whole g c =
    EndsBefore c.in-Ok-Whole.field-0-0
    (ends-before g.J.Swept.keeps c.args.image.now c.in_ok-copy_of.field-0 c.args.j c.in-Ok-Whole.field-0 c.in-Ok-Whole.field-0-0 c.in_ok-copy_of.ensures c.in-Ok-Whole.field-0-is c.in-Ok-Whole.ensures.attempt)
    refl

-- or it was refused
pub returns : goal.returns
returns g c =
    on_ok_weaker c.note_refusal.result
    (λ counts. RefusesBefore c.in-Err.e c.note_refusal.new.not_right
    (λ keeps. subst (λ (m : MemState). IsUnopened m.shape (reading (state_of m).disk) c.in-Err.e) c.in_ok-copy_of.ensures (c.in-Err.ensures.err keeps)) counts refl) c.note_refusal.ensures
