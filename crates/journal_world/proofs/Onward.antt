-- An engine goes on by each call: its transactions stay, and committed ones stay committed.
use Rattle.std.proofs.Common.{refl, sym, ◌∙◌, ap, subst, arith}
use Rattle.std.specs.Prelude.{◌≡◌, ◌≤◌, true}
use Rattle.journal_model.specs.Disk.{Disk}
use Rattle.journal_world.specs.declared.round.Round.{Round}
use Rattle.journal_world.specs.declared.round.Round.TheVariants.{Idle as NoRound, Copies, TailWrite, TailFlush}
use Rattle.journal_world.specs.declared.stage.Stage.{Stage}
use Rattle.journal_world.specs.declared.stage.Stage.TheVariants.{Idle, SuperblockWrite, SuperblockFlush, Blocks, CommitWrite, CommitFlush}
use Rattle.journal_world.specs.Call.{Call}
use Rattle.journal_world.specs.Checkpoint.{RoundCall, RoundFaults, RoundSteps, begun, begun_from}
use Rattle.journal_world.specs.Checkpoint.RoundCall.{CopyHome, FlushHome, WriteTail, FlushTail}
use Rattle.journal_world.specs.Engine.{CommitFaults, CommitSteps, Engine, stepped_from}

-- the engine has the other's measures and transactions, and no fewer committed
pub record GoesOn (old new : Engine) : Type 0 where
  pub shape : new.shape ≡ old.shape
  pub layout : new.layout ≡ old.layout
  pub ring : new.ring ≡ old.ring
  pub first : new.first ≡ old.first
  pub accepted : new.accepted ≡ old.accepted
  pub committed : old.committed ≤ new.committed

-- an engine that is aborted goes on
pub aborted-on : (e : Engine) → GoesOn e (record e { aborted = true })
aborted-on e = record { shape = refl; layout = refl; ring = refl; first = refl; accepted = refl; committed = omega arith }

-- an engine goes on by each call of a commit that succeeds
stepped-on : (e : Engine) (stage : Stage) → GoesOn e (stepped_from e stage)
stepped-on e Idle = record { shape = refl; layout = refl; ring = refl; first = refl; accepted = refl; committed = omega arith }
stepped-on e SuperblockWrite = record { shape = refl; layout = refl; ring = refl; first = refl; accepted = refl; committed = omega arith }
stepped-on e SuperblockFlush = record { shape = refl; layout = refl; ring = refl; first = refl; accepted = refl; committed = omega arith }
stepped-on e (Blocks k) = record { shape = refl; layout = refl; ring = refl; first = refl; accepted = refl; committed = omega arith }
stepped-on e CommitWrite = record { shape = refl; layout = refl; ring = refl; first = refl; accepted = refl; committed = omega arith }
stepped-on e CommitFlush = record { shape = refl; layout = refl; ring = refl; first = refl; accepted = refl; committed = omega arith }

-- an engine goes on by a step of a commit
pub step-on : (old new : Engine) (disk after : Disk) → CommitSteps old disk new after → GoesOn old new
step-on old new disk after step = subst (GoesOn old) (sym step.engine) (stepped-on old old.stage)

-- an engine goes on by a failed step of a commit
pub fault-on : (old new : Engine) (disk after : Disk) → CommitFaults old disk new after → GoesOn old new
fault-on old new disk after fault = subst (GoesOn old) (sym fault.engine) (aborted-on old)

-- an engine goes on when a round begins
begun-on : (e : Engine) (round : Round) → GoesOn e (begun_from e round)
begun-on e NoRound = record { shape = refl; layout = refl; ring = refl; first = refl; accepted = refl; committed = omega arith }
begun-on e (Copies transaction block) = record { shape = refl; layout = refl; ring = refl; first = refl; accepted = refl; committed = omega arith }
begun-on e TailWrite = record { shape = refl; layout = refl; ring = refl; first = refl; accepted = refl; committed = omega arith }
begun-on e TailFlush = record { shape = refl; layout = refl; ring = refl; first = refl; accepted = refl; committed = omega arith }

-- an engine goes on by each call of a round that succeeds
call-on : (e : Engine) (round : Round) (call : Call) (new : Engine) → RoundCall e round call new → GoesOn e new
call-on e round call new (CopyHome transaction block i b v next) = record { shape = refl; layout = refl; ring = refl; first = refl; accepted = refl; committed = omega arith }
call-on e round call new (FlushHome transaction block none) = record { shape = refl; layout = refl; ring = refl; first = refl; accepted = refl; committed = omega arith }
call-on e round call new WriteTail = record { shape = refl; layout = refl; ring = refl; first = refl; accepted = refl; committed = omega arith }
call-on e round call new FlushTail = record { shape = refl; layout = refl; ring = refl; first = refl; accepted = refl; committed = omega arith }

-- an engine goes on over two steps
on-on : (old mid new : Engine) → GoesOn old mid → GoesOn mid new → GoesOn old new
on-on old mid new one other =
    let committed : old.committed ≤ mid.committed = one.committed in
    let more : mid.committed ≤ new.committed = other.committed in
    record {
      shape = other.shape ∙ one.shape;
      layout = other.layout ∙ one.layout;
      ring = other.ring ∙ one.ring;
      first = other.first ∙ one.first;
      accepted = other.accepted ∙ one.accepted;
      committed = omega arith;
    }

-- an engine goes on by a step of a round
pub round-on : (old new : Engine) (disk after : Disk) → RoundSteps old disk new after → GoesOn old new
round-on old new disk after step = on-on old (begun old) new (begun-on old old.round) (call-on (begun old) (begun old).round step.call new step.due)

-- an engine goes on by a failed step of a round
pub round-fault-on : (old new : Engine) (disk after : Disk) → RoundFaults old disk new after → GoesOn old new
round-fault-on old new disk after fault =
    let begins : GoesOn old (begun old) = begun-on old old.round in
    subst (GoesOn old) (sym fault.engine)
    (record {
      shape = begins.shape;
      layout = begins.layout;
      ring = begins.ring;
      first = begins.first;
      accepted = begins.accepted;
      committed = begins.committed;
    })

-- a call of a commit that succeeds leaves `aborted` as it is
stepped-unfailed : (e : Engine) (stage : Stage) → (stepped_from e stage).aborted ≡ e.aborted
stepped-unfailed e Idle = refl
stepped-unfailed e SuperblockWrite = refl
stepped-unfailed e SuperblockFlush = refl
stepped-unfailed e (Blocks k) = refl
stepped-unfailed e CommitWrite = refl
stepped-unfailed e CommitFlush = refl

pub step-unfailed : (old new : Engine) (disk after : Disk) → CommitSteps old disk new after → new.aborted ≡ old.aborted
step-unfailed old new disk after step = ap (λ (e : Engine). e.aborted) step.engine ∙ stepped-unfailed old old.stage

-- the beginning of a round leaves `aborted` as it is
begun-unfailed : (e : Engine) (round : Round) → (begun_from e round).aborted ≡ e.aborted
begun-unfailed e NoRound = refl
begun-unfailed e (Copies transaction block) = refl
begun-unfailed e TailWrite = refl
begun-unfailed e TailFlush = refl

call-unfailed : (e : Engine) (round : Round) (call : Call) (new : Engine) → RoundCall e round call new → new.aborted ≡ e.aborted
call-unfailed e round call new (CopyHome transaction block i b v next) = refl
call-unfailed e round call new (FlushHome transaction block none) = refl
call-unfailed e round call new WriteTail = refl
call-unfailed e round call new FlushTail = refl

pub round-unfailed : (old new : Engine) (disk after : Disk) → RoundSteps old disk new after → new.aborted ≡ old.aborted
round-unfailed old new disk after step =
    call-unfailed (begun old) (begun old).round step.call new step.due ∙ begun-unfailed old old.round
