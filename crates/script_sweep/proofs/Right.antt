-- Lemmas: the verdicts of a sweep of a journal that keeps its contracts.
use Rattle.std.proofs.Common.{ℕ, Bool, List, [], refl, true}
use Rattle.std.specs.Prelude.{◌≡◌, ◌↔◌, ◌<◌, All, IsTrue, Some, None}
use Rattle.journal_model.specs.declared.number.Area.TheVariants.{Home}
use Rattle.journal_model.specs.Disk.{reading}
use Rattle.log_model.specs.Opening.{numbered_below}
use Rattle.block_device.specs.Memory.{MemState, state_of}
use Rattle.recovery.specs.declared.opening.Report.{Report}
use Rattle.std.specs.BTreeSet.{keys}
use Rattle.journal_script.specs.declared.script.NamedBlocks.{NamedBlocks}
use Rattle.script_run.specs.declared.opening.OpenedImage.{OpenedImage}
use Rattle.script_run.specs.declared.running.StoppedRun.{StoppedRun}
use Rattle.script_run.specs.Left.{IsCrashOf}
use Rattle.script_run.specs.OpenedImages.{IsOpenedImage}
use Rattle.script_run.specs.Reopening.{FollowsOn, IsStoppedAt}
use Rattle.script_run.specs.Verdict.{IsRight}
use Rattle.script_run.proofs.Openings.{image-verdict, second-verdict, verdict-twice}
use Rattle.script_run.proofs.Verdicts.{by-right}
use Rattle.script_sweep.specs.Swept.{HasRunNamed, IsFirst}

-- the opening of a stopped run's crash image is right
pub first-right : (stopped : StoppedRun) (keep : List ℕ) (image : MemState) (opened : OpenedImage) (named : NamedBlocks) (right : Bool) → HasRunNamed stopped named
    → IsCrashOf stopped.device keep image → IsOpenedImage image.shape (state_of image).disk opened
    → All (λ b. b < opened.device.shape.home_blocks) (keys named.blocks)
    → (IsTrue right ↔ IsRight stopped.recorded.sealed.items stopped.recorded.acknowledged named (numbered_below opened.report.ends_at stopped.recorded.sealed.items) opened.device.shape.block_size (reading (state_of opened.device).disk Home))
    → right ≡ true
first-right stopped keep image opened named right run crash is there verdict =
    by-right run.operations stopped.device keep stopped.recorded.sealed.items stopped.recorded.acknowledged image None [] named right run.run run.directs crash
    (image-verdict stopped.recorded.sealed.items stopped.recorded.acknowledged named right image opened is there verdict)

-- so is the opening of a crash image of a stopped opening
pub again-right : (stopped : StoppedRun) (keep : List ℕ) (image : MemState) (first : Report) (j : ℕ) (device : MemState) (keep_again : List ℕ) (left : MemState) (opened : OpenedImage)
    (named : NamedBlocks) (right : Bool) → HasRunNamed stopped named → IsCrashOf stopped.device keep image → IsFirst image first → IsStoppedAt (state_of image) j device
    → IsCrashOf device keep_again left → IsOpenedImage left.shape (state_of left).disk opened
    → All (λ b. b < opened.device.shape.home_blocks) (keys named.blocks)
    → (IsTrue right ↔ FollowsOn first.clean first.ends_at opened.report.clean opened.report.ends_at
    × IsRight stopped.recorded.sealed.items stopped.recorded.acknowledged named (numbered_below first.ends_at stopped.recorded.sealed.items) opened.device.shape.block_size (reading (state_of opened.device).disk Home))
    → right ≡ true
again-right stopped keep image first j device keep_again left opened named right run crash tells stop crash_again is there verdict =
    let sealed = stopped.recorded.sealed.items in
    let shown = stopped.recorded.acknowledged in
    by-right run.operations stopped.device keep sealed shown image (Some j) keep_again named right run.run run.directs crash
    (verdict-twice sealed shown named j keep_again right first.clean first.ends_at first.transactions image image device left
    (record { shape = refl; disk = refl; past = refl }) tells stop crash_again.each crash_again.shape_is
    (second-verdict sealed shown named right left opened first is there verdict))
