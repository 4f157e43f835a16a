-- A journal's turn: the engine's step beside the front, and what holds at each moment.
use Rattle.std.proofs.Common.{arith, refl, sym, ap, subst, ◌∙◌}
use Rattle.std.specs.Prelude.{◌≡◌, ℕ, ◌<◌, ◌≤◌, List, [], ◌∷◌, length}
use Rattle.std.specs.List.{AllByRecursion}
use Rattle.journal_model.specs.declared.entry.Batch.{Batch}
use Rattle.journal_model.specs.Disk.{Disk, Shape}
use Rattle.log_model.specs.Room.{IsCapacity}
use Rattle.journal_model.specs.Transaction.{History}
use Rattle.block_device.specs.State.{DeviceState, EachMoment}
use Rattle.journal_world.specs.declared.stage.Stage.{Stage}
use Rattle.journal_world.specs.declared.stage.Stage.TheVariants.{Idle, SuperblockWrite, SuperblockFlush, Blocks, CommitWrite, CommitFlush}
use Rattle.journal_world.specs.declared.round.Round.{Round}
use Rattle.journal_world.specs.declared.round.Round.TheVariants.{Idle as NoRound, Copies, TailWrite, TailFlush}
use Rattle.journal_world.specs.Call.{Call}
use Rattle.journal_world.specs.Checkpoint.{RoundCall, RoundFaults, RoundSteps, begun, begun_from}
use Rattle.journal_world.specs.Checkpoint.RoundCall.{CopyHome, FlushHome, WriteTail, FlushTail}
use Rattle.journal_world.specs.Engine.{AreBatchesOf, CommitFaults, CommitSteps, Engine, stepped_from}
use Rattle.journal_world.specs.Front.{Front, fresh_front}
use Rattle.journal_world.specs.Journal.{IsFresh, Journal, fresh_engine}
use Rattle.journal_world.specs.Sound.{OpensBetween}
use Rattle.journal_world.proofs.Batches.{same-length}
use Rattle.log_engine.specs.Engine.{IsDuringCommit, IsDuringRound}
use Rattle.journal_steps.specs.Journal.{Agrees, IsDuringCheckTurn, IsDuringTurn, OpensNow, OpensOver}
use Rattle.journal_steps.proofs.Audited.{fresh-kept}

-- what opens over batches opens over their transactions
pub opens-over : (shape : Shape) (ts : History) (accepted : List Batch) (low : ℕ) (disk : Disk) → AreBatchesOf ts accepted →
    OpensBetween shape accepted low (length accepted) disk → OpensOver shape ts low (length ts) disk
opens-over shape ts accepted low disk are opens = record {
  each = λ image left.
      let at = opens.each image left in
      let same = same-length ts accepted are in
      let high : at.0 ≤ length accepted = at.2 in
      (at.0, at.1, (omega arith), at.3.opens ts are, at.3.count ts are);
}

-- so it does for a journal whose front and engine agree
pub opens-now : (j : Journal) (disk : Disk) → Agrees j →
    OpensBetween j.engine.shape j.engine.accepted j.engine.committed (length j.engine.accepted) disk → OpensNow j disk
opens-now j disk agrees opens = opens-over j.engine.shape j.front.sealed j.engine.accepted j.engine.committed disk agrees.batches opens

-- if the device does nothing, the disk is as in a turn
pub during-stay : (j : Journal) (disk : Disk) → OpensNow j disk → IsDuringTurn j disk disk
during-stay j disk opens = record { home = record { same = λ b. refl }; opens = opens }

-- a weaker property holds of each disk of a list
all-weaker : (P Q : Disk → Type 0) → ((disk : Disk) → P disk → Q disk) → (disks : List Disk) → AllByRecursion P disks → AllByRecursion Q disks
all-weaker P Q weaker [] all = tt
all-weaker P Q weaker (d ∷ disks) all = (weaker d all.0, all-weaker P Q weaker disks all.1)

-- each moment of a commit step is one of the turn
pub each-turn : (j : Journal) (before after : DeviceState) → Agrees j → EachMoment (IsDuringCommit j.engine before.disk) before after →
    EachMoment (IsDuringTurn j before.disk) before after
each-turn j before after agrees each =
    let weaker = λ (disk : Disk) (during : IsDuringCommit j.engine before.disk disk). turned disk during in
    record { since = each.since; past = each.past; each = all-weaker _ _ weaker each.since each.each; now = weaker after.disk each.now }
  where
    turned : (disk : Disk) → IsDuringCommit j.engine before.disk disk → IsDuringTurn j before.disk disk
    turned disk during = record { home = during.home; opens = opens-now j disk agrees during.opens }

-- each moment of a checkpoint step is one of the checkpoint turn
pub each-check : (j : Journal) (before after : DeviceState) → Agrees j → EachMoment (IsDuringRound j.engine before.disk) before after →
    EachMoment (IsDuringCheckTurn j before.disk) before after
each-check j before after agrees each =
    let weaker = λ (disk : Disk) (during : IsDuringRound j.engine before.disk disk). checked disk during in
    record { since = each.since; past = each.past; each = all-weaker _ _ weaker each.since each.each; now = weaker after.disk each.now }
  where
    checked : (disk : Disk) → IsDuringRound j.engine before.disk disk → IsDuringCheckTurn j before.disk disk
    checked disk during = record { home = during.home; opens = opens-now j disk agrees during.opens }

-- what a commit or checkpoint step leaves as it was
pub record Keeps (old new : Engine) : Type 0 where
  pub shape : new.shape ≡ old.shape
  pub layout : new.layout ≡ old.layout
  pub accepted : new.accepted ≡ old.accepted
  pub first : new.first ≡ old.first
  pub ring : new.ring ≡ old.ring

keeps-at : (e : Engine) (stage : Stage) → Keeps e (stepped_from e stage)
keeps-at e Idle = record { shape = refl; layout = refl; accepted = refl; first = refl; ring = refl }
keeps-at e SuperblockWrite = record { shape = refl; layout = refl; accepted = refl; first = refl; ring = refl }
keeps-at e SuperblockFlush = record { shape = refl; layout = refl; accepted = refl; first = refl; ring = refl }
keeps-at e (Blocks k) = record { shape = refl; layout = refl; accepted = refl; first = refl; ring = refl }
keeps-at e CommitWrite = record { shape = refl; layout = refl; accepted = refl; first = refl; ring = refl }
keeps-at e CommitFlush = record { shape = refl; layout = refl; accepted = refl; first = refl; ring = refl }

pub step-keeps : (old new : Engine) (disk after : Disk) → CommitSteps old disk new after → Keeps old new
step-keeps old new disk after step = subst (Keeps old) (sym step.engine) (keeps-at old old.stage)

pub fault-keeps : (old new : Engine) (disk after : Disk) → CommitFaults old disk new after → Keeps old new
fault-keeps old new disk after fault = subst (Keeps old) (sym fault.engine) (record { shape = refl; layout = refl; accepted = refl; first = refl; ring = refl })

-- the begin of a round keeps it
begun-keeps : (e : Engine) (round : Round) → Keeps e (begun_from e round) × ((begun_from e round).committed ≡ e.committed)
begun-keeps e NoRound = (record { shape = refl; layout = refl; accepted = refl; first = refl; ring = refl }, refl)
begun-keeps e (Copies transaction block) = (record { shape = refl; layout = refl; accepted = refl; first = refl; ring = refl }, refl)
begun-keeps e TailWrite = (record { shape = refl; layout = refl; accepted = refl; first = refl; ring = refl }, refl)
begun-keeps e TailFlush = (record { shape = refl; layout = refl; accepted = refl; first = refl; ring = refl }, refl)

-- each call of a round keeps it
call-keeps : (e : Engine) (round : Round) (call : Call) (new : Engine) → RoundCall e round call new → Keeps e new × (new.committed ≡ e.committed)
call-keeps e round call new (CopyHome transaction block i b v next) = (record { shape = refl; layout = refl; accepted = refl; first = refl; ring = refl }, refl)
call-keeps e round call new (FlushHome transaction block none) = (record { shape = refl; layout = refl; accepted = refl; first = refl; ring = refl }, refl)
call-keeps e round call new WriteTail = (record { shape = refl; layout = refl; accepted = refl; first = refl; ring = refl }, refl)
call-keeps e round call new FlushTail = (record { shape = refl; layout = refl; accepted = refl; first = refl; ring = refl }, refl)

-- a checkpoint step commits nothing
pub round-keeps : (old new : Engine) (disk after : Disk) → RoundSteps old disk new after → Keeps old new × (new.committed ≡ old.committed)
round-keeps old new disk after step =
    let begins = begun-keeps old old.round in
    let calls = call-keeps (begun old) (begun old).round step.call new step.due in (
      record { shape = calls.0.shape ∙ begins.0.shape; layout = calls.0.layout ∙ begins.0.layout; accepted = calls.0.accepted ∙ begins.0.accepted; first = calls.0.first ∙ begins.0.first; ring = calls.0.ring ∙ begins.0.ring },
      calls.1 ∙ begins.1,
    )

-- nor does a failed one
pub round-fault-keeps : (old new : Engine) (disk after : Disk) → RoundFaults old disk new after → Keeps old new × (new.committed ≡ old.committed)
round-fault-keeps old new disk after fault =
    let begins = begun-keeps old old.round in
    subst (λ (e : Engine). Keeps old e × (e.committed ≡ old.committed)) (sym fault.engine)
    (record { shape = begins.0.shape; layout = begins.0.layout; accepted = begins.0.accepted; first = begins.0.first; ring = begins.0.ring }, begins.1)

-- front and engine of a new journal agree
pub fresh-agrees : (shape : Shape) (superblock : List ℕ) (next capacity : ℕ) (j : Journal) → j.engine ≡ fresh_engine shape superblock next →
    j.front ≡ fresh_front j.engine.layout j.engine.shape.home_blocks capacity next → IsCapacity j.engine.layout j.engine.ring.blocks capacity →
    0 < next → Agrees j
fresh-agrees shape superblock next capacity j engine front is some =
    let e : Engine = j.engine in
    let accepted : e.accepted ≡ [] = ap (λ (x : Engine). x.accepted) engine in
    let none : length e.accepted ≡ 0 = ap (λ (bs : List Batch). length bs) accepted in
    let first : e.first ≡ next = ap (λ (x : Engine). x.first) engine in
    let committed : e.committed ≡ 0 = ap (λ (x : Engine). x.committed) engine in
    let made : Front = fresh_front e.layout e.shape.home_blocks capacity next in
    let agrees : Agrees (record { front = made; engine = e }) = record {
      layout = refl;
      home_blocks = refl;
      aborted = sym (ap (λ (x : Engine). x.aborted) engine);
      batches = subst (AreBatchesOf []) (sym accepted) tt;
      number = omega arith;
      finished = omega arith;
      mark = refl;
      steps = tt;
      joined = λ none. absurd (omega arith);
      locked = λ lock. cc;
      capacity = is;
      credits = omega arith;
      handles = fresh-kept e.layout e.shape.home_blocks capacity next;
    } in
    subst Agrees (sym (ap (λ (f : Front). record { front = f; engine = e }) front)) agrees

-- it is as an opening leaves it
pub fresh-journal : (shape : Shape) (superblock : List ℕ) (next capacity : ℕ) (j : Journal) → j.engine ≡ fresh_engine shape superblock next →
    j.front ≡ fresh_front j.engine.layout j.engine.shape.home_blocks capacity next → IsCapacity j.engine.layout j.engine.ring.blocks capacity →
    IsFresh shape superblock next j
fresh-journal shape superblock next capacity j engine front is =
    let credits : j.front.capacity ≡ capacity = ap (λ (f : Front). f.capacity) front in
    record {
      engine = engine;
      front = front ∙ ap (λ (n : ℕ). fresh_front j.engine.layout j.engine.shape.home_blocks n next) (sym credits);
      capacity = subst (IsCapacity j.engine.layout j.engine.ring.blocks) (sym credits) is;
    }

-- a fresh journal is fresh by its engine's own fields
pub fresh-itself : (shape : Shape) (superblock : List ℕ) (next : ℕ) (j : Journal) → IsFresh shape superblock next j →
    IsFresh j.engine.shape j.engine.superblock j.engine.first j
fresh-itself shape superblock next j fresh =
    let e : Engine = j.engine in
    let is : e ≡ fresh_engine shape superblock next = fresh.engine in
    subst (λ (s : Shape). IsFresh s e.superblock e.first j) (sym (ap (λ (x : Engine). x.shape) is))
    (subst (λ (v : List ℕ). IsFresh shape v e.first j) (sym (ap (λ (x : Engine). x.superblock) is))
    (subst (λ (n : ℕ). IsFresh shape superblock n j) (sym (ap (λ (x : Engine). x.first) is)) fresh))
