-- A checkpoint step on a device: what it does to engine and disk, and what holds at each moment.
use Rattle.std.proofs.Common.{refl, sym, ap, subst, ◌∙◌}
use Rattle.std.specs.Prelude.{◌≡◌, ℕ, true, false, List, length}
use Rattle.journal_model.specs.declared.entry.Batch.{Batch}
use Rattle.journal_model.specs.Disk.{Disk, Shape}
use Rattle.block_device.specs.State.{DeviceState, EachMoment}
use Rattle.journal_world.specs.declared.round.Round.{Round}
use Rattle.journal_world.specs.declared.round.Round.TheVariants.{Idle as NoRound, Copies, TailWrite, TailFlush}
use Rattle.journal_world.specs.Call.{IsAfterFault, after_success}
use Rattle.journal_world.specs.Checkpoint.{HasRound, RoundCall, RoundFaults, RoundSteps, begun, begun_from}
use Rattle.journal_world.specs.Engine.{Engine}
use Rattle.journal_world.specs.Sound.{OpensBetween, Sound}
use Rattle.journal_world.proofs.HomeCopies.{keeps-copies, round-fault-home, round-home}
use Rattle.journal_world.proofs.Images.{images-open}
use Rattle.journal_world.proofs.RoundFaults.{round-fault-sound}
use Rattle.journal_world.proofs.RoundSteps.{round-sound}
use Rattle.log_ledger.specs.declared.due.Due.{Due}
use Rattle.log_ledger.specs.declared.progress.Progress.{Progress}
use Rattle.log_ledger.specs.declared.progress.Progress.TheVariants.{Idle as NoProgress, Step, Done}
use Rattle.log_ledger.specs.declared.ledger.Ledger.{Ledger}
use Rattle.log_ledger.specs.Steps.{IsRoundProgress}
use Rattle.log_ledger.specs.Ledger.{Runs, engine_of}
use Rattle.log_ledger.specs.Rounds.{HasDue, HasGone}
use Rattle.log_ledger.proofs.Ledgers.{fault-taken}
use Rattle.log_ledger.proofs.Pendings.{aborted-keeps}
use Rattle.log_ledger.proofs.Rounds.{KeepsCommit, call-keeps, one-call}
use Rattle.log_ledger.proofs.Running.{fault-runs}
use Rattle.block_device.specs.Call.{IsOneMoment}
use Rattle.log_engine.specs.Engine.{IsDuringRound, RoundDid}
use Rattle.block_device.proofs.OneCall.{each-one}

-- the unchanged disk is a moment of the step
pub during-round : (e : Engine) (disk : Disk) → Sound e disk → IsDuringRound e disk disk
during-round e disk sound = record { home = keeps-copies e disk disk (record { same = λ b. refl }); opens = images-open e disk sound }

-- the begin of a round changes the round alone
pub begun-commit : (e : Engine) (round : Round) → KeepsCommit e (begun_from e round)
begun-commit e NoRound = record { shape = refl; layout = refl; uuid = refl; accepted = refl; committed = refl; start = refl }
begun-commit e (Copies transaction block) = record { shape = refl; layout = refl; uuid = refl; accepted = refl; committed = refl; start = refl }
begun-commit e TailWrite = record { shape = refl; layout = refl; uuid = refl; accepted = refl; committed = refl; start = refl }
begun-commit e TailFlush = record { shape = refl; layout = refl; uuid = refl; accepted = refl; committed = refl; start = refl }

pub both-keep : (e m new : Engine) → KeepsCommit e m → KeepsCommit m new → KeepsCommit e new
both-keep e m new one other = record {
  shape = other.shape ∙ one.shape;
  layout = other.layout ∙ one.layout;
  uuid = other.uuid ∙ one.uuid;
  accepted = other.accepted ∙ one.accepted;
  committed = other.committed ∙ one.committed;
  start = other.start ∙ one.start;
}

-- a later engine's images open within the old bounds
opens-alike : (old new : Engine) (disk : Disk) → KeepsCommit old new → Sound new disk →
    OpensBetween old.shape old.accepted old.committed (length old.accepted) disk
opens-alike old new disk keeps sound =
    let opens = images-open new disk sound in
    let shaped = subst (λ (s : Shape). OpensBetween s new.accepted new.committed (length new.accepted) disk) keeps.shape opens in
    let taken = subst (λ (bs : List Batch). OpensBetween old.shape bs new.committed (length bs) disk) keeps.accepted shaped in
    subst (λ (n : ℕ). OpensBetween old.shape old.accepted n (length old.accepted) disk) keeps.committed taken

-- each moment of a successful step
pub each-round : (old new : Engine) (before after : DeviceState) → IsOneMoment before after → Sound old before.disk →
    RoundSteps old before.disk new after.disk → EachMoment (IsDuringRound old before.disk) before after
each-round old new before after moment sound step =
    let keeps = both-keep old (begun old) new (begun-commit old old.round) (call-keeps (begun old) (begun old).round step.call new step.due) in
    each-one (IsDuringRound old before.disk) before after moment (during-round old before.disk sound)
    (record {
      home = round-home old new before.disk after.disk step;
      opens = opens-alike old new after.disk keeps (round-sound old new before.disk after.disk sound step);
    })

-- and of a failed one
pub each-round-fault : (old new : Engine) (before after : DeviceState) → IsOneMoment before after → Sound old before.disk →
    RoundFaults old before.disk new after.disk → EachMoment (IsDuringRound old before.disk) before after
each-round-fault old new before after moment sound fault =
    let aborts : KeepsCommit (begun old) (record (begun old) { aborted = true }) =
    record { shape = refl; layout = refl; uuid = refl; accepted = refl; committed = refl; start = refl } in
    let keeps = both-keep old (begun old) new (begun-commit old old.round) (subst (KeepsCommit (begun old)) (sym fault.engine) aborts) in
    each-one (IsDuringRound old before.disk) before after moment (during-round old before.disk sound)
    (record {
      home = round-fault-home old new before.disk after.disk fault;
      opens = opens-alike old new after.disk keeps (round-fault-sound old new before.disk after.disk sound fault);
    })

-- what a step did, by its progress
pub round-did : (p : Progress) (old new : Engine) (disk after : Disk) → IsRoundProgress p new → RoundSteps old disk new after → RoundDid p old disk new after
round-did NoProgress old new disk after progress step = absurd progress
round-did Step old new disk after progress step = (step, progress)
round-did (Done tid) old new disk after progress step = (step, progress.0, progress.1)

-- a running ledger runs once aborted, on a device of the same shape
pub aborted-runs : (s t : Shape) (l : Ledger) → t ≡ s → Runs s l → Runs t (record l { aborted = true })
aborted-runs s t l same runs =
    let here : Runs s (record l { aborted = true }) = record {
      plain = fault-runs (engine_of s l) s runs.plain refl;
      taken = fault-taken s s l refl runs.taken;
      pending = aborted-keeps (engine_of s l) l.pending runs.pending;
      kept = runs.kept;
    } in
    subst (λ (x : Shape). Runs x (record l { aborted = true })) (sym same) here

module _ (s t : Shape) (l m : Ledger) (due : Due) (bytes : List ℕ) (disk after : Disk) (same : t ≡ s) (running : l.aborted ≡ false)
    (has : HasRound (engine_of s l)) (is : engine_of s m ≡ begun (engine_of s l)) (h : HasDue (engine_of s m) due bytes) where
  -- the round's due call is one of the machine's
  pub round-due : RoundCall (begun (engine_of s l)) (begun (engine_of s l)).round h.call h.stepped
  round-due = subst (λ (x : Engine). RoundCall x x.round h.call h.stepped) is h.round

  -- if it fails, the machine's engine fails
  pub round-faults : IsAfterFault h.call disk after → RoundFaults (engine_of s l) disk (engine_of t (record m { aborted = true })) after
  round-faults fault = record {
    running = running;
    round = has;
    call = h.call;
    stepped = h.stepped;
    due = round-due;
    engine = ap (λ (x : Shape). engine_of x (record m { aborted = true })) same ∙ ap (λ (x : Engine). record x { aborted = true }) is;
    disk_is = fault;
  }

  -- if it succeeds, so does the machine's
  pub round-steps : (n : Ledger) → Runs s m → HasGone t m n → after ≡ after_success h.call disk → RoundSteps (engine_of s l) disk (engine_of t n) after
  round-steps n runs gone done =
      let there : HasGone s m n = subst (λ (x : Shape). HasGone x m n) same gone in
      let one = one-call (engine_of s m) m.round h.call there.call h.stepped (engine_of s n) runs.plain h.round there.round in
      let steps : RoundSteps (engine_of s l) disk (engine_of s n) after = record {
        running = running;
        round = has;
        call = h.call;
        due = subst (RoundCall (begun (engine_of s l)) (begun (engine_of s l)).round h.call) one.1 round-due;
        disk_is = done;
      } in
      subst (λ (x : Shape). RoundSteps (engine_of s l) disk (engine_of x n) after) (sym same) steps
