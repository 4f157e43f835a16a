-- A step of a commit that succeeds keeps the engine sound.
use Rattle.std.proofs.Common.{refl, sym, subst}
use Rattle.std.specs.Prelude.{◌≡◌, ◌+◌, nat_lt, Bool, length, Some}
use Rattle.std.proofs.lemmas.Option.{none-some, same_Some}
use Rattle.journal_model.specs.Disk.{Disk}
use Rattle.journal_world.specs.declared.stage.Stage.{Stage}
use Rattle.journal_world.specs.declared.stage.Stage.TheVariants.{Idle, SuperblockWrite, SuperblockFlush, Blocks, CommitWrite, CommitFlush}
use Rattle.journal_world.specs.Call.{Call, after_success}
use Rattle.journal_world.specs.Engine.{Engine, CommitSteps, call_in, due_blocks, stepped, stepped_from}
use Rattle.journal_world.specs.Sound.{Sound}
use Rattle.journal_world.proofs.Blocks.{blocks-sound, commit-sound}
use Rattle.journal_world.proofs.Changes.{at}
use Rattle.journal_world.proofs.Committing.{done-sound}
use Rattle.journal_world.proofs.Starting.{start-sound, started-sound}

-- equal calls leave the engine sound alike
same-call : (e : Engine) (disk : Disk) (call other : Call) → Some call ≡ Some other → Sound e (after_success call disk) →
    Sound e (after_success other disk)
same-call e disk call other same sound = subst (λ (c : Call). Sound e (after_success c disk)) (same_Some call other same) sound

-- the due call of a stage keeps the engine sound
step-at : (e : Engine) (stage : Stage) (a : Bool) (disk : Disk) (call : Call) → Sound (at e stage a) disk → call_in (at e stage a) stage ≡ Some call →
    Sound (stepped_from (at e stage a) stage) (after_success call disk)
step-at e Idle a disk call sound due = absurd (none-some call due)
step-at e SuperblockWrite a disk call sound due = same-call _ disk _ call due (start-sound e a disk sound)
step-at e SuperblockFlush a disk call sound due = same-call _ disk _ call due (started-sound e a disk sound)
step-at e (Blocks k) a disk call sound due = same-call _ disk _ call due (blocks-sound e a disk k (nat_lt (k + 1) (length (due_blocks e))) sound refl)
step-at e CommitWrite a disk call sound due = same-call _ disk _ call due (commit-sound e a disk sound)
step-at e CommitFlush a disk call sound due = same-call _ disk _ call due (done-sound e a disk sound)

-- a step of a commit keeps the engine sound
pub step-sound : (old new : Engine) (disk after : Disk) → Sound old disk → CommitSteps old disk new after → Sound new after
step-sound old new disk after sound step =
    let stepped_disk : Sound (stepped old) (after_success step.call disk) = step-at old old.stage old.aborted disk step.call sound step.due in
    let same_disk : Sound (stepped old) after = subst (λ (d : Disk). Sound (stepped old) d) (sym step.disk_is) stepped_disk in
    subst (λ (e : Engine). Sound e after) (sym step.engine) same_disk
