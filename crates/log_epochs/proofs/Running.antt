-- What a running engine keeps, and what each crash image keeps then.
use Rattle.std.proofs.Common.{refl, sym, ◌∙◌, ap, subst}
use Rattle.std.specs.Prelude.{◌≡◌, ℕ, suc, List, [], ◌∷◌, Some, None}
use Rattle.journal_model.specs.declared.entry.Batch.{Batch}
use Rattle.journal_model.specs.declared.number.Area.TheVariants.{Home}
use Rattle.journal_model.specs.Disk.{Disk, Image, Leaves, Shape}
use Rattle.journal_model.specs.Transaction.{AreNumbered, History}
use Rattle.journal_world.specs.declared.round.Round.{Round}
use Rattle.journal_world.specs.declared.round.Round.TheVariants.{Idle as NoRound, Copies, TailWrite, TailFlush}
use Rattle.journal_world.specs.declared.stage.Stage.{Stage}
use Rattle.journal_world.specs.declared.stage.Stage.TheVariants.{Idle, SuperblockWrite, SuperblockFlush, Blocks, CommitWrite, CommitFlush}
use Rattle.journal_world.specs.Call.{Call}
use Rattle.journal_world.specs.Call.Call.{Write, Flush}
use Rattle.journal_world.specs.Checkpoint.{RoundCall, begun, begun_from}
use Rattle.journal_world.specs.Checkpoint.RoundCall.{CopyHome, FlushHome, WriteTail, FlushTail}
use Rattle.journal_world.specs.Engine.{AreBatchesOf, Engine, stepped_from}
use Rattle.journal_world.specs.Sound.{AreNumberedFrom, Sound}
use Rattle.journal_world.proofs.Accepted.{accepts-sound}
use Rattle.journal_world.proofs.DirectCalls.{direct-fault-sound, direct-sound}
use Rattle.journal_world.proofs.DirectRights.{direct-fault-right, direct-right, flush-directs, write-directs}
use Rattle.journal_world.proofs.Faults.{abort-sound, fault-sound}
use Rattle.journal_world.proofs.HomeRights.{HomeRight, abort-right, fault-right, rightly-left, round-fault-right, round-right, step-right, taken-right}
use Rattle.journal_world.proofs.Images.{images-open}
use Rattle.journal_world.proofs.RoundFaults.{round-fault-sound}
use Rattle.journal_world.proofs.RoundSteps.{round-sound}
use Rattle.journal_world.proofs.Steps.{step-sound}
use Rattle.log_epochs.specs.EnginePromise.{KeepsImage, KeepsNow}
use Rattle.log_epochs.specs.EngineSteps.{Event, Happens, with_directs}
use Rattle.log_epochs.specs.EngineSteps.Event.{Accept, Read, CommitStep, CommitFault, CheckpointStep, CheckpointFault, ReadFault, DirectWrite, DirectWriteFault, DirectSync, DirectSyncFault}
use Rattle.log_epochs.specs.Epoch.{Epoch}

-- the invariant of a running engine
pub record IsRunning (shape : Shape) (opening : Disk) (directs : List (ℕ × List ℕ)) (engine : Engine) (disk : Disk) : Type 0 where
  pub shape_is : engine.shape ≡ shape
  pub sound : Sound engine disk
  pub home : HomeRight opening directs engine disk

-- a call of a commit keeps the shape
stepped-shape : (e : Engine) (stage : Stage) → (stepped_from e stage).shape ≡ e.shape
stepped-shape e Idle = refl
stepped-shape e SuperblockWrite = refl
stepped-shape e SuperblockFlush = refl
stepped-shape e (Blocks k) = refl
stepped-shape e CommitWrite = refl
stepped-shape e CommitFlush = refl

-- the beginning of a round keeps the shape
begun-shape : (e : Engine) (round : Round) → (begun_from e round).shape ≡ e.shape
begun-shape e NoRound = refl
begun-shape e (Copies transaction block) = refl
begun-shape e TailWrite = refl
begun-shape e TailFlush = refl

-- a call of a round keeps the shape
call-shape : (e : Engine) (round : Round) (call : Call) (new : Engine) → RoundCall e round call new → new.shape ≡ e.shape
call-shape e round call new (CopyHome transaction block i b v next) = refl
call-shape e round call new (FlushHome transaction block none) = refl
call-shape e round call new WriteTail = refl
call-shape e round call new FlushTail = refl

-- each step keeps the shape
event-shape : (old new : Engine) (disk after : Disk) (event : Event) → Happens old disk event new after → new.shape ≡ old.shape
event-shape old new disk after (Accept b) happens = ap (λ (e : Engine). e.shape) happens.engine.after
event-shape old new disk after (Read b v) happens = ap (λ (e : Engine). e.shape) happens.engine
event-shape old new disk after CommitStep happens = ap (λ (e : Engine). e.shape) happens.engine ∙ stepped-shape old old.stage
event-shape old new disk after CommitFault happens = ap (λ (e : Engine). e.shape) happens.engine
event-shape old new disk after CheckpointStep happens =
    call-shape (begun old) (begun old).round happens.call new happens.due ∙ begun-shape old old.round
event-shape old new disk after CheckpointFault happens = ap (λ (e : Engine). e.shape) happens.engine ∙ begun-shape old old.round
event-shape old new disk after ReadFault happens = ap (λ (e : Engine). e.shape) happens.engine
event-shape old new disk after (DirectWrite b v) happens = ap (λ (e : Engine). e.shape) happens.engine
event-shape old new disk after (DirectWriteFault b v) happens = ap (λ (e : Engine). e.shape) happens.engine
event-shape old new disk after DirectSync happens = ap (λ (e : Engine). e.shape) happens.engine
event-shape old new disk after DirectSyncFault happens = ap (λ (e : Engine). e.shape) happens.engine

-- each step keeps the engine sound
event-sound : (old new : Engine) (disk after : Disk) (event : Event) → Sound old disk → Happens old disk event new after → Sound new after
event-sound old new disk after (Accept b) sound happens = subst (Sound new) (sym happens.disk_is) (accepts-sound old b new disk sound happens.engine)
event-sound old new disk after (Read b v) sound happens =
    subst (Sound new) (sym happens.disk_is) (subst (λ (e : Engine). Sound e disk) (sym happens.engine) sound)
event-sound old new disk after CommitStep sound happens = step-sound old new disk after sound happens
event-sound old new disk after CommitFault sound happens = fault-sound old new disk after sound happens
event-sound old new disk after CheckpointStep sound happens = round-sound old new disk after sound happens
event-sound old new disk after CheckpointFault sound happens = round-fault-sound old new disk after sound happens
event-sound old new disk after ReadFault sound happens =
    subst (Sound new) (sym happens.disk_is) (subst (λ (e : Engine). Sound e disk) (sym happens.engine) (abort-sound old disk sound))
event-sound old new disk after (DirectWrite b v) sound happens = direct-sound old new disk after (Write Home b v) sound happens
event-sound old new disk after (DirectWriteFault b v) sound happens = direct-fault-sound old new disk after (Write Home b v) sound happens
event-sound old new disk after DirectSync sound happens = direct-sound old new disk after (Flush Home) sound happens
event-sound old new disk after DirectSyncFault sound happens = direct-fault-sound old new disk after (Flush Home) sound happens

-- each step keeps permitted values at home
event-right : (opening : Disk) (directs : List (ℕ × List ℕ)) (old new : Engine) (disk after : Disk) (event : Event) → HomeRight opening directs old disk →
    Happens old disk event new after → HomeRight opening (with_directs event directs) new after
event-right opening directs old new disk after (Accept b) right happens =
    subst (HomeRight opening directs new) (sym happens.disk_is) (taken-right opening directs old new b disk happens.engine right)
event-right opening directs old new disk after (Read b v) right happens =
    subst (HomeRight opening directs new) (sym happens.disk_is) (subst (λ (e : Engine). HomeRight opening directs e disk) (sym happens.engine) right)
event-right opening directs old new disk after CommitStep right happens = step-right opening directs old new disk after happens right
event-right opening directs old new disk after CommitFault right happens = fault-right opening directs old new disk after happens right
event-right opening directs old new disk after CheckpointStep right happens = round-right opening directs old new disk after happens right
event-right opening directs old new disk after CheckpointFault right happens = round-fault-right opening directs old new disk after happens right
event-right opening directs old new disk after ReadFault right happens =
    subst (HomeRight opening directs new) (sym happens.disk_is)
    (subst (λ (e : Engine). HomeRight opening directs e disk) (sym happens.engine) (abort-right opening directs old disk right))
event-right opening directs old new disk after (DirectWrite b v) right happens =
    direct-right opening directs ((b, v) ∷ directs) old new disk after (Write Home b v) (write-directs directs b v) happens right
event-right opening directs old new disk after (DirectWriteFault b v) right happens =
    direct-fault-right opening directs ((b, v) ∷ directs) old new disk after (Write Home b v) (write-directs directs b v) happens right
event-right opening directs old new disk after DirectSync right happens =
    direct-right opening directs directs old new disk after (Flush Home) (flush-directs directs) happens right
event-right opening directs old new disk after DirectSyncFault right happens =
    direct-fault-right opening directs directs old new disk after (Flush Home) (flush-directs directs) happens right

-- each step keeps the invariant
pub event-runs : (shape : Shape) (opening : Disk) (directs : List (ℕ × List ℕ)) (old new : Engine) (disk after : Disk) (event : Event) →
    IsRunning shape opening directs old disk → Happens old disk event new after → IsRunning shape opening (with_directs event directs) new after
event-runs shape opening directs old new disk after event runs happens = record {
  shape_is = event-shape old new disk after event happens ∙ runs.shape_is;
  sound = event-sound old new disk after event runs.sound happens;
  home = event-right opening directs old new disk after event runs.home happens;
}

-- the transactions of numbered batches are numbered
pub batches-numbered : (first : ℕ) (ts : History) (bs : List Batch) → AreNumberedFrom first bs → AreBatchesOf ts bs → AreNumbered first ts
batches-numbered first [] bs numbered are = tt
batches-numbered first (t ∷ ts) [] numbered are = absurd are
batches-numbered first (t ∷ ts) (b ∷ bs) numbered are = (sym are.0 ∙ numbered.0, batches-numbered (suc first) ts bs numbered.1 are.2)

-- the epoch of an engine that runs
abbrev pub running_epoch : Disk → List (ℕ × List ℕ) → Engine → Epoch
running_epoch opening directs e = record { opening = opening; engine = e; directs = directs; pin = None }

-- each crash image keeps the promise
left-kept : (opening : Disk) (directs : List (ℕ × List ℕ)) (e : Engine) (disk : Disk) (image : Image) → Sound e disk → HomeRight opening directs e disk →
    Leaves disk image → KeepsImage e.shape (running_epoch opening directs e) image
left-kept opening directs e disk image sound home leaves ts are =
    let (n, low, high, to) = (images-open e disk sound).each image leaves in
    record {
      n = n;
      low = low;
      high = high;
      count = to.count ts are;
      opens = to.opens ts are;
      others = rightly-left e e.shape.home_blocks n ts opening directs disk image home low are leaves;
      numbered = batches-numbered e.first ts e.accepted sound.plain.numbered are;
    }

pub running-keeps : (shape : Shape) (opening : Disk) (directs : List (ℕ × List ℕ)) (e : Engine) (disk : Disk) → IsRunning shape opening directs e disk →
    KeepsNow shape (Some (running_epoch opening directs e)) disk
running-keeps shape opening directs e disk runs = λ image leaves.
    subst (λ (s : Shape). KeepsImage s (running_epoch opening directs e) image) runs.shape_is
    (left-kept opening directs e disk image runs.sound runs.home leaves)
