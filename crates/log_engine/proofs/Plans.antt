-- The plan is that of the transaction being committed, after any step.
use Rattle.std.proofs.Common.{arith, sym, ap, ap₂, subst, ◌∙◌}
use Rattle.std.specs.Prelude.{◌≡◌, ℕ, ◌+◌, ◌≤◌, List, length, Some, slice_get}
use Rattle.std.proofs.lemmas.Option.{none-some, same_Some, slice_get_past}
use Rattle.journal_model.specs.declared.entry.Batch.{Batch}
use Rattle.journal_model.specs.Disk.{Disk}
use Rattle.journal_world.specs.declared.stage.Stage.{Stage}
use Rattle.journal_world.specs.declared.stage.Stage.TheVariants.{Idle, SuperblockWrite, SuperblockFlush, Blocks, CommitWrite, CommitFlush}
use Rattle.journal_world.specs.Checkpoint.{RoundFaults, RoundSteps, begun}
use Rattle.journal_world.specs.Engine.{CommitSteps, Engine, accepting, stepped_from}
use Rattle.journal_world.specs.Sound.{IsPlain, StageAgrees}
use Rattle.journal_world.proofs.Elements.{get-last}
use Rattle.log_ledger.specs.declared.plan.LogPlan.{LogPlan}
use Rattle.log_ledger.specs.Steps.{MayHandOver}
use Rattle.log_ledger.specs.Ledger.{HasPlan}
use Rattle.log_ledger.specs.Text.{IsPlanOf}
use Rattle.log_ledger.proofs.Rounds.{call-keeps}
use Rattle.log_engine.proofs.Rounding.{begun-commit, both-keep}

-- if everything accepted is committed, there is nothing to plan
pub none-planned : (e : Engine) (plan : LogPlan) → length e.accepted ≤ e.committed → HasPlan e plan
none-planned e plan all = λ b stands. absurd (none-some b (sym (slice_get_past e.accepted e.committed all) ∙ stands))

-- so too if no commit is under way
pub idle-planned : (e : Engine) (plan : LogPlan) → IsPlain e → e.stage ≡ Idle → HasPlan e plan
idle-planned e plan plain idle =
    let agrees : StageAgrees e Idle = subst (StageAgrees e) idle plain.stage in
    none-planned e plan (let all = agrees.0 in omega arith)

-- the plan depends only on what is being committed
pub same-planned : (e new : Engine) (plan : LogPlan) → new.accepted ≡ e.accepted → new.committed ≡ e.committed → HasPlan e plan → HasPlan new plan
same-planned e new plan accepted committed planned = λ b stands.
    planned b (sym (ap₂ (λ (bs : List Batch) (n : ℕ). slice_get bs n) accepted committed) ∙ stands)

-- a batch accepted with its plan has it
pub taken-planned : (e new : Engine) (b : Batch) (plan : LogPlan) → IsPlain e → MayHandOver e b → new ≡ accepting e b → IsPlanOf b.entries plan → HasPlan new plan
taken-planned e new b plan plain may is planned = λ c stands.
    let agrees : StageAgrees e Idle = subst (StageAgrees e) may.idle plain.stage in
    let there : slice_get new.accepted new.committed ≡ Some b =
    ap (λ (x : Engine). slice_get x.accepted x.committed) is ∙ get-last e.accepted b e.committed agrees.0 in
    subst (λ (x : Batch). IsPlanOf x.entries plan) (same_Some b c (sym there ∙ stands)) planned

-- a commit step goes on with its transaction, or ends it
stepped-planned : (e : Engine) (plan : LogPlan) (stage : Stage) → StageAgrees e stage → HasPlan e plan → HasPlan (stepped_from e stage) plan
stepped-planned e plan Idle agrees planned = planned
stepped-planned e plan SuperblockWrite agrees planned = planned
stepped-planned e plan SuperblockFlush agrees planned = planned
stepped-planned e plan (Blocks k) agrees planned = planned
stepped-planned e plan CommitWrite agrees planned = planned
stepped-planned e plan CommitFlush agrees planned =
    none-planned (stepped_from e CommitFlush) plan (let one : length e.accepted ≡ e.committed + 1 = agrees.0 in omega arith)

pub step-planned : (old new : Engine) (disk after : Disk) (plan : LogPlan) → IsPlain old → CommitSteps old disk new after → HasPlan old plan → HasPlan new plan
step-planned old new disk after plan plain step planned =
    subst (λ (e : Engine). HasPlan e plan) (sym step.engine) (stepped-planned old plan old.stage plain.stage planned)

-- a checkpoint step leaves the plan
pub round-planned : (old new : Engine) (disk after : Disk) (plan : LogPlan) → RoundSteps old disk new after → HasPlan old plan → HasPlan new plan
round-planned old new disk after plan step planned =
    let keeps = both-keep old (begun old) new (begun-commit old old.round) (call-keeps (begun old) (begun old).round step.call new step.due) in
    same-planned old new plan keeps.accepted keeps.committed planned

-- so does a failed one
pub round-fault-planned : (old new : Engine) (disk after : Disk) (plan : LogPlan) → RoundFaults old disk new after → HasPlan old plan → HasPlan new plan
round-fault-planned old new disk after plan fault planned =
    let keeps = begun-commit old old.round in
    same-planned old new plan (ap (λ (e : Engine). e.accepted) fault.engine ∙ keeps.accepted) (ap (λ (e : Engine). e.committed) fault.engine ∙ keeps.committed) planned
