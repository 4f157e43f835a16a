-- The table has the last effects of the batches handed over, after any step.
use Rattle.std.proofs.Common.{refl, sym, ap, ◌∙◌}
use Rattle.std.specs.Prelude.{◌≡◌, ℕ, List, [], Option, None}
use Rattle.journal_model.specs.declared.entry.Batch.{Batch}
use Rattle.journal_model.specs.Disk.{Disk}
use Rattle.block_tables.specs.Effects.{EffectsValue, LastEffect, effect_on, last_among, noted_effect, once_committed}
use Rattle.block_tables.proofs.Noted.{noted-more}
use Rattle.journal_world.specs.declared.stage.Stage.{Stage}
use Rattle.journal_world.specs.declared.stage.Stage.TheVariants.{Idle, SuperblockWrite, SuperblockFlush, Blocks, CommitWrite, CommitFlush}
use Rattle.journal_world.specs.Checkpoint.{RoundFaults, RoundSteps, begun}
use Rattle.journal_world.specs.Engine.{CommitSteps, Engine, accepting, stepped_from}
use Rattle.log_ledger.proofs.Rounds.{call-keeps}
use Rattle.log_engine.specs.Engine.{HasEffects}
use Rattle.log_engine.proofs.Rounding.{begun-commit, both-keep}

-- if no batch was handed over, there are none
pub none-noted : (e : Engine) (table : EffectsValue) → e.accepted ≡ [] → ((b : ℕ) → effect_on table b ≡ None) → HasEffects e table
none-noted e table accepted effects = λ b. effects b ∙ ap (λ (bs : List Batch). noted_effect bs b None) (sym accepted)

-- they depend on the batches alone
pub same-noted : (e new : Engine) (table : EffectsValue) → new.accepted ≡ e.accepted → HasEffects e table → HasEffects new table
same-noted e new table accepted has = λ b. has b ∙ ap (λ (bs : List Batch). noted_effect bs b None) (sym accepted)

-- more room changes none of them
pub roomy-noted : (e : Engine) (table new : EffectsValue) → ((b : ℕ) → effect_on new b ≡ effect_on table b) → HasEffects e table → HasEffects e new
roomy-noted e table new effects has = λ b. effects b ∙ has b

-- an accepted batch is noted
pub taken-noted : (e new : Engine) (batch : Batch) (table noted : EffectsValue) → new ≡ accepting e batch →
    ((b : ℕ) → effect_on noted b ≡ last_among batch.tid batch.entries b (once_committed (effect_on table b))) → HasEffects e table → HasEffects new noted
taken-noted e new batch table noted is notes has = λ b.
    notes b ∙ ap (λ (o : Option LastEffect). last_among batch.tid batch.entries b (once_committed o)) (has b) ∙ sym (noted-more e.accepted batch b None)
    ∙ ap (λ (x : Engine). noted_effect x.accepted b None) (sym is)

-- a commit step hands over nothing
stepped-accepted : (e : Engine) (stage : Stage) → (stepped_from e stage).accepted ≡ e.accepted
stepped-accepted e Idle = refl
stepped-accepted e SuperblockWrite = refl
stepped-accepted e SuperblockFlush = refl
stepped-accepted e (Blocks k) = refl
stepped-accepted e CommitWrite = refl
stepped-accepted e CommitFlush = refl

pub step-noted : (old new : Engine) (disk after : Disk) (table : EffectsValue) → CommitSteps old disk new after → HasEffects old table → HasEffects new table
step-noted old new disk after table step has =
    same-noted old new table (ap (λ (e : Engine). e.accepted) step.engine ∙ stepped-accepted old old.stage) has

-- nor does a checkpoint step
pub round-noted : (old new : Engine) (disk after : Disk) (table : EffectsValue) → RoundSteps old disk new after → HasEffects old table → HasEffects new table
round-noted old new disk after table step has =
    let keeps = both-keep old (begun old) new (begun-commit old old.round) (call-keeps (begun old) (begun old).round step.call new step.due) in
    same-noted old new table keeps.accepted has

-- nor does a failed one
pub round-fault-noted : (old new : Engine) (disk after : Disk) (table : EffectsValue) → RoundFaults old disk new after → HasEffects old table → HasEffects new table
round-fault-noted old new disk after table fault has =
    let keeps = begun-commit old old.round in
    same-noted old new table (ap (λ (e : Engine). e.accepted) fault.engine ∙ keeps.accepted) has
