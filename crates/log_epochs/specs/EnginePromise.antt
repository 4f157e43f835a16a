-- What every run of moves keeps of an engine's world: each epoch's transactions, and the rule for home.
-- Source: the GoJournal paper; journal.rst (a copy goes home only after its commit).
use Rattle.std.specs.Prelude.{◌≡◌, ⊤, ℕ, ◌≤◌, List, [], ◌∷◌, length, Option, Some, None, unwrap_or}
use Rattle.std.specs.List.{AllByRecursion}
use Rattle.journal_model.specs.declared.number.Area.TheVariants.{Home}
use Rattle.journal_model.specs.Disk.{Disk, Image, IsOneOf, Leaves, Shape, held}
use Rattle.log_model.specs.HomeChange.{Addition, HomeAddsOnly, OthersRightlyHeld}
use Rattle.log_model.specs.Opening.{IsClean, IsCountOf, Opens}
use Rattle.log_model.specs.Replay.{IsNewest}
use Rattle.journal_model.specs.Transaction.{AreNumbered, History}
use Rattle.journal_world.specs.Checkpoint.{IsNewestCopy}
use Rattle.journal_world.specs.Direct.{IsAddedDirectly}
use Rattle.journal_world.specs.Engine.{AreBatchesOf, Engine}
use Rattle.log_epochs.specs.EngineSteps.{Event}
use Rattle.log_epochs.specs.EngineSteps.Event.{Accept, Read, CommitStep, CommitFault, CheckpointStep, CheckpointFault, ReadFault, DirectWrite, DirectWriteFault, DirectSync, DirectSyncFault}
use Rattle.log_epochs.specs.Epoch.{Ended, Epoch}
use Rattle.log_epochs.specs.EngineWorld.{Move, Moves, Phase, World}
use Rattle.log_epochs.specs.EngineWorld.Move.{Step, CloseStep, CloseFault, GiveUp, Stop, Begin, OpeningStep, OpeningFault, AnswerOk, Upgrade}
use Rattle.log_epochs.specs.EngineWorld.Phase.{Shut, Opening, Upgrading, Running, Closing, Closed}

-- What an image keeps, for transactions with the epoch's batches. It opens to a number n from the committed to the accepted
-- ones, their count by the log of the pin (of the image, if there is no pin). The blocks that the first n leave to home have
-- permitted values, and numbers follow one another.
pub record Kept (shape : Shape) (epoch : Epoch) (ts : History) (image : Image) : Type 0 where
  pub n : ℕ
  pub low : epoch.engine.committed ≤ n
  pub high : n ≤ length epoch.engine.accepted
  pub count : IsCountOf shape (unwrap_or epoch.pin image) ts n
  pub opens : Opens shape ts n image
  pub others : OthersRightlyHeld shape.home_blocks epoch.opening epoch.directs ts n (image Home)
  pub numbered : AreNumbered epoch.engine.first ts

abbrev pub KeepsImage : Shape → Epoch → Image → Type 0
KeepsImage shape epoch image = (ts : History) → AreBatchesOf ts epoch.engine.accepted → Kept shape epoch ts image

-- nothing is promised before the first opening that answers Ok
abbrev pub KeepsNow : Shape → Option Epoch → Disk → Type 0
KeepsNow shape None disk = ⊤
KeepsNow shape (Some epoch) disk = (image : Image) → Leaves disk image → KeepsImage shape epoch image

-- Every crash image of the disk that an epoch ended with is clean and keeps the epoch's promise.
pub record EndedWell (shape : Shape) (x : Ended) : Type 0 where
  pub pin : Image
  pub pin_is : x.epoch.pin ≡ Some pin
  pub clean : (image : Image) → Leaves x.after image → IsClean shape image
  pub keeps : (image : Image) → Leaves x.after image → KeepsImage shape x.epoch image

-- each epoch began on the disk that the one before ended with
abbrev pub Continues : Option Epoch → List Ended → Type 0
Continues None [] = ⊤
Continues (Some epoch) [] = ⊤
Continues None (x ∷ xs) = ⊥
Continues (Some epoch) (x ∷ xs) = (x.after ≡ epoch.opening) × Continues (Some x.epoch) xs

pub record IsClosed (shape : Shape) (epoch : Epoch) (image : Image) : Type 0 where
  pub clean : IsClean shape image
  pub all : (ts : History) → AreBatchesOf ts epoch.engine.accepted → Opens shape ts (length epoch.engine.accepted) image

abbrev pub KeepsClosed : Shape → Option Epoch → Disk → Phase → Type 0
KeepsClosed shape (Some epoch) disk Closed = (image : Image) → Leaves disk image → IsClosed shape epoch image
KeepsClosed shape None disk Closed = ⊥
KeepsClosed shape epoch disk Shut = ⊤
KeepsClosed shape epoch disk (Opening found stage) = ⊤
KeepsClosed shape epoch disk (Upgrading block stage) = ⊤
KeepsClosed shape epoch disk Running = ⊤
KeepsClosed shape epoch disk Closing = ⊤

-- what a step may add to home: a direct write its bytes, if the block is left to home; a round the newest committed copy
abbrev pub StepMayAdd : Engine → Event → Addition
StepMayAdd e (DirectWrite block bytes) b v = IsAddedDirectly e block bytes b v
StepMayAdd e (DirectWriteFault block bytes) b v = IsAddedDirectly e block bytes b v
StepMayAdd e DirectSync b v = ⊥
StepMayAdd e DirectSyncFault b v = ⊥
StepMayAdd e (Accept batch) b v = ⊥
StepMayAdd e (Read block bytes) b v = ⊥
StepMayAdd e CommitStep b v = ⊥
StepMayAdd e CommitFault b v = ⊥
StepMayAdd e CheckpointStep b v = (i : ℕ) × IsNewestCopy e i b v
StepMayAdd e CheckpointFault b v = (i : ℕ) × IsNewestCopy e i b v
StepMayAdd e ReadFault b v = ⊥

abbrev pub EngineMayAdd : Option Epoch → Event → Addition
EngineMayAdd None event b v = ⊥
EngineMayAdd (Some epoch) event b v = StepMayAdd epoch.engine event b v

-- an opening may add newest live copies of its chain
abbrev pub OpeningMayAdd : Phase → Addition
OpeningMayAdd (Opening found stage) b v = IsNewest found.texts b v
OpeningMayAdd Shut b v = ⊥
OpeningMayAdd (Upgrading block stage) b v = ⊥
OpeningMayAdd Running b v = ⊥
OpeningMayAdd Closing b v = ⊥
OpeningMayAdd Closed b v = ⊥

-- a crash leaves one of the values held
abbrev pub MayAdd : World → Move → Addition
MayAdd w (Step event) b v = EngineMayAdd w.epoch event b v
MayAdd w OpeningStep b v = OpeningMayAdd w.phase b v
MayAdd w OpeningFault b v = OpeningMayAdd w.phase b v
MayAdd w (Stop left) b v = IsOneOf (held (w.disk Home b)) v
MayAdd w CloseStep b v = ⊥
MayAdd w CloseFault b v = ⊥
MayAdd w GiveUp b v = ⊥
MayAdd w (Begin found) b v = ⊥
MayAdd w AnswerOk b v = ⊥
MayAdd w (Upgrade move) b v = ⊥

-- Each epoch keeps its promise: the current one in every crash image of now, an ended one in every crash image of its end.
-- The next move adds to home only what it may.
pub record KeepsPromise (w : World) : Type 0 where
  pub now : KeepsNow w.shape w.epoch w.disk
  pub ended : AllByRecursion (EndedWell w.shape) w.ended
  pub follows : Continues w.epoch w.ended
  pub closed : KeepsClosed w.shape w.epoch w.disk w.phase
  pub home : (move : Move) (new : World) → Moves w move new → HomeAddsOnly (MayAdd w move) w.disk new.disk
