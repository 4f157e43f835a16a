-- No step of a commit writes home.
use Rattle.std.proofs.Common.{refl, ◌∙◌, ap, subst}
use Rattle.std.specs.Prelude.{◌≡◌, ℕ, Bool, true, false, Some, if◌then◌else◌, nat_lt, ◌+◌, length}
use Rattle.std.proofs.lemmas.Option.{same_Some, none-some}
use Rattle.journal_model.specs.declared.number.Area.TheVariants.{Log, Home}
use Rattle.journal_model.specs.Disk.{Disk}
use Rattle.journal_world.specs.declared.stage.Stage.{Stage}
use Rattle.journal_world.specs.declared.stage.Stage.TheVariants.{Idle, SuperblockWrite, SuperblockFlush, Blocks, CommitWrite, CommitFlush}
use Rattle.journal_world.specs.Call.{Call, IsAfterFault, after_success}
use Rattle.journal_world.specs.Call.IsAfterFault.{Undone, Whole, HandedOver}
use Rattle.journal_world.specs.Call.Call.{Write, Flush}
use Rattle.journal_world.specs.Engine.{Engine, CommitFaults, CommitSteps, call_in, due_blocks, write_block}
use Rattle.journal_world.specs.Sound.{KeepsHome}

-- a call to the log
abbrev pub IsLogCall : Call → Type 0
IsLogCall (Write area n v) = area ≡ Log
IsLogCall (Flush area) = area ≡ Log

-- each due call of a commit is one
log-calls : (e : Engine) (stage : Stage) (call : Call) → call_in e stage ≡ Some call → IsLogCall call
log-calls e Idle call due = absurd (none-some call due)
log-calls e SuperblockWrite call due = subst IsLogCall (same_Some _ call due) refl
log-calls e SuperblockFlush call due = subst IsLogCall (same_Some _ call due) refl
log-calls e (Blocks k) call due = subst IsLogCall (same_Some _ call due) (either (nat_lt (k + 1) (length (due_blocks e))) k)
  where
    either : (b : Bool) (k : ℕ) → IsLogCall (if b then write_block e k else Flush Log)
    either true k = refl
    either false k = refl
log-calls e CommitWrite call due = subst IsLogCall (same_Some _ call due) refl
log-calls e CommitFlush call due = subst IsLogCall (same_Some _ call due) refl

-- a log call that succeeds leaves home as it is
success-home : (call : Call) (disk : Disk) (b : ℕ) → IsLogCall call → after_success call disk Home b ≡ disk Home b
success-home (Write Log n v) disk b log = refl
success-home (Write Home n v) disk b log = cc
success-home (Flush Log) disk b log = refl
success-home (Flush Home) disk b log = cc

-- a log call that fails leaves home as it is
pub fault-same : (call : Call) (old new : Disk) (b : ℕ) → IsLogCall call → IsAfterFault call old new → new Home b ≡ old Home b
fault-same call old new b log (Undone c x y same) = ap (λ (d : Disk). d Home b) same
fault-same (Write Log n v) old new b log (Whole a m w x y same) = ap (λ (d : Disk). d Home b) same
fault-same (Write Home n v) old new b log (Whole a m w x y same) = cc
fault-same (Write Log n v) old new b log (HandedOver a m w x y same) = ap (λ (d : Disk). d Home b) same
fault-same (Write Home n v) old new b log (HandedOver a m w x y same) = cc

-- a step of a commit keeps home as it was
pub step-home : (old new : Engine) (disk after : Disk) → CommitSteps old disk new after → KeepsHome disk after
step-home old new disk after step = record {
  same = λ b. ap (λ (d : Disk). d Home b) step.disk_is ∙ success-home step.call disk b (log-calls old old.stage step.call step.due);
}

-- a failed step of a commit keeps home as it was
pub fault-home : (old new : Engine) (disk after : Disk) → CommitFaults old disk new after → KeepsHome disk after
fault-home old new disk after fault = record {
  same = λ b. fault-same fault.call disk after b (log-calls old old.stage fault.call fault.due) fault.disk_is;
}
