-- A commit step on a device: what it does to engine and disk, and what holds at each moment.
use Rattle.std.proofs.Common.{arith, refl, sym, ap, subst, ◌∙◌}
use Rattle.std.specs.Prelude.{◌≡◌, ◌≢◌, ℕ, ◌≤◌, true, false, List, length, Some, None}
use Rattle.std.proofs.lemmas.Option.{none-some}
use Rattle.journal_model.specs.declared.entry.Batch.{Batch}
use Rattle.journal_model.specs.Disk.{Disk, Shape}
use Rattle.block_device.specs.State.{DeviceState, EachMoment}
use Rattle.journal_world.specs.declared.stage.Stage.{Stage}
use Rattle.journal_world.specs.declared.stage.Stage.TheVariants.{Idle, SuperblockWrite, SuperblockFlush, Blocks, CommitWrite, CommitFlush}
use Rattle.journal_world.specs.Call.{Call, IsAfterFault, after_success}
use Rattle.journal_world.specs.Engine.{CommitFaults, CommitSteps, Engine, call_due, call_in, stepped, stepped_from}
use Rattle.journal_world.specs.Sound.{OpensBetween, Sound}
use Rattle.journal_world.proofs.Faults.{fault-sound}
use Rattle.journal_world.proofs.Homes.{fault-home, step-home}
use Rattle.journal_world.proofs.Images.{images-open}
use Rattle.journal_world.proofs.Steps.{step-sound}
use Rattle.log_ledger.specs.declared.due.Due.{Due}
use Rattle.log_ledger.specs.declared.due.Due.TheVariants.{Nothing, Write as WriteDue, Flush as FlushDue}
use Rattle.log_ledger.specs.declared.progress.Progress.{Progress}
use Rattle.log_ledger.specs.declared.progress.Progress.TheVariants.{Idle as NoProgress, Step, Done}
use Rattle.log_ledger.specs.Due.{call_of}
use Rattle.log_ledger.specs.Steps.{IsProgress}
use Rattle.block_device.specs.Call.{IsOneMoment}
use Rattle.log_engine.specs.Engine.{IsDuringCommit, StepDid}
use Rattle.block_device.proofs.OneCall.{each-one}

-- a step with something due makes a call
pub call-there : (due : Due) (bytes : List ℕ) → (due ≡ Nothing → ⊥) → (call : Call) × (call_of due bytes ≡ Some call)
call-there Nothing bytes some = absurd (some refl)
call-there (WriteDue area place) bytes some = (_, refl)
call-there (FlushDue area) bytes some = (_, refl)

-- if a call is due, a transaction is being committed
pub busy : (e : Engine) (call : Call) → call_due e ≡ Some call → e.stage ≢ Idle
busy e call due idle = none-some call (sym (ap (call_in e) idle) ∙ due)

-- if no call is due, none is
pub idle-at : (e : Engine) (stage : Stage) → call_in e stage ≡ None → stage ≡ Idle
idle-at e Idle none = refl
idle-at e SuperblockWrite none = absurd (none-some _ (sym none))
idle-at e SuperblockFlush none = absurd (none-some _ (sym none))
idle-at e (Blocks k) none = absurd (none-some _ (sym none))
idle-at e CommitWrite none = absurd (none-some _ (sym none))
idle-at e CommitFlush none = absurd (none-some _ (sym none))

-- the unchanged disk is a moment of the step
pub during-now : (e : Engine) (disk : Disk) → Sound e disk → IsDuringCommit e disk disk
during-now e disk sound = record { home = record { same = λ b. refl }; opens = images-open e disk sound }

-- what opens within bounds opens within wider ones
opens-wider : (shape : Shape) (accepted : List Batch) (low lower high : ℕ) (disk : Disk) → lower ≤ low → OpensBetween shape accepted low high disk →
    OpensBetween shape accepted lower high disk
opens-wider shape accepted low lower high disk less opens = record {
  each = λ image left. let at = opens.each image left in (at.0, (let above : low ≤ at.0 = at.1 in omega arith), at.2, at.3);
}

-- the engine keeps shape and accepted batches, and commits no fewer
record Advances (old new : Engine) : Type 0 where
  shape : new.shape ≡ old.shape
  layout : new.layout ≡ old.layout
  accepted : new.accepted ≡ old.accepted
  committed : old.committed ≤ new.committed

advances-at : (e : Engine) (stage : Stage) → Advances e (stepped_from e stage)
advances-at e Idle = record { shape = refl; layout = refl; accepted = refl; committed = omega arith }
advances-at e SuperblockWrite = record { shape = refl; layout = refl; accepted = refl; committed = omega arith }
advances-at e SuperblockFlush = record { shape = refl; layout = refl; accepted = refl; committed = omega arith }
advances-at e (Blocks k) = record { shape = refl; layout = refl; accepted = refl; committed = omega arith }
advances-at e CommitWrite = record { shape = refl; layout = refl; accepted = refl; committed = omega arith }
advances-at e CommitFlush = record { shape = refl; layout = refl; accepted = refl; committed = omega arith }

-- a later engine's images open within the old bounds
opens-before : (old new : Engine) (disk : Disk) → Advances old new → Sound new disk →
    OpensBetween old.shape old.accepted old.committed (length old.accepted) disk
opens-before old new disk advances sound =
    let opens = images-open new disk sound in
    let shaped = subst (λ (s : Shape). OpensBetween s new.accepted new.committed (length new.accepted) disk) advances.shape opens in
    let taken = subst (λ (bs : List Batch). OpensBetween old.shape bs new.committed (length bs) disk) advances.accepted shaped in
    opens-wider old.shape old.accepted new.committed old.committed (length old.accepted) disk advances.committed taken

-- each moment of a successful step
pub each-step : (old new : Engine) (before after : DeviceState) → IsOneMoment before after → Sound old before.disk → CommitSteps old before.disk new after.disk →
    EachMoment (IsDuringCommit old before.disk) before after
each-step old new before after moment sound step =
    let advances : Advances old new = subst (Advances old) (sym step.engine) (advances-at old old.stage) in
    each-one (IsDuringCommit old before.disk) before after moment (during-now old before.disk sound)
    (record { home = step-home old new before.disk after.disk step; opens = opens-before old new after.disk advances (step-sound old new before.disk after.disk sound step) })

-- and of a failed one
pub each-fault : (old new : Engine) (before after : DeviceState) → IsOneMoment before after → Sound old before.disk → CommitFaults old before.disk new after.disk →
    EachMoment (IsDuringCommit old before.disk) before after
each-fault old new before after moment sound fault =
    let same : Advances old (record old { aborted = true }) = record { shape = refl; layout = refl; accepted = refl; committed = omega arith } in
    let advances : Advances old new = subst (Advances old) (sym fault.engine) same in
    each-one (IsDuringCommit old before.disk) before after moment (during-now old before.disk sound)
    (record { home = fault-home old new before.disk after.disk fault; opens = opens-before old new after.disk advances (fault-sound old new before.disk after.disk sound fault) })

-- what a step did, by its progress
pub step-did : (p : Progress) (old new : Engine) (disk after : Disk) → IsProgress p old new → CommitSteps old disk new after → StepDid p old disk new after
step-did NoProgress old new disk after progress step = absurd progress
step-did Step old new disk after progress step = (step, progress)
step-did (Done tid) old new disk after progress step = (step, progress.0, progress.1)

-- a failed step is the machine's, on a device whose shape stays
pub faults-here : (e : Engine) (shape : Shape) (call : Call) (disk after : Disk) → shape ≡ e.shape → e.aborted ≡ false → call_due e ≡ Some call →
    IsAfterFault call disk after → CommitFaults e disk (record e { shape = shape; aborted = true }) after
faults-here e shape call disk after same running due fault = record {
  running = running;
  call = call;
  due = due;
  engine = ap (λ (s : Shape). record e { shape = s; aborted = true }) same;
  disk_is = fault;
}

-- so is a successful one
pub steps-here : (e new : Engine) (call : Call) (disk after : Disk) → e.aborted ≡ false → call_due e ≡ Some call → new ≡ stepped e →
    after ≡ after_success call disk → CommitSteps e disk new after
steps-here e new call disk after running due engine is = record { running = running; call = call; due = due; engine = engine; disk_is = is }
