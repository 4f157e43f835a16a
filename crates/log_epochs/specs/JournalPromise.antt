-- What every run of moves keeps of a journal's world: whole handles, all acknowledged transactions, and the rule for home.
-- Source: the GoJournal paper (atomic handles over a disk that may crash at any step), journalling.rst.
use Rattle.std.specs.Prelude.{◌≡◌, ⊤, ℕ, ◌≤◌, List, [], ◌∷◌, ◌++◌, length, Option, Some, None, unwrap_or}
use Rattle.journal_model.specs.declared.number.Area.TheVariants.{Home}
use Rattle.journal_model.specs.Disk.{Disk, Image, Leaves, Shape}
use Rattle.log_model.specs.HomeChange.{Addition, HomeAddsOnly, IsCommittedCopy, IsDirectWrite, OthersRightlyHeld}
use Rattle.log_model.specs.Opening.{IsClean, IsCountOf, Opens}
use Rattle.journal_model.specs.Record.{EachHandleOnce, IsLegal, acknowledged}
use Rattle.journal_model.specs.Transaction.{AreNumbered, History}
use Rattle.journal_world.specs.Front.{Front, IsOpen, finished_count, handle_numbers, handles_of, read_step, revoke_step, transactions, write_step}
use Rattle.journal_world.specs.Front.FrontEvent.{RevokeBlock, WriteBlock}
use Rattle.journal_world.specs.Journal.{Event, KeepsFront}
use Rattle.journal_world.specs.Journal.Event.{FrontStep, Seal, CommitStep, CommitFault, CheckpointStep, CheckpointFault, ReadBlock, ReadFault, DirectWrite, DirectWriteFault, DirectSync, DirectSyncFault, Finish, AbortMark}
use Rattle.log_epochs.specs.Epoch.{Ended, Epoch}
use Rattle.log_epochs.specs.EnginePromise.{Continues, MayAdd as BelowMayAdd}
use Rattle.log_epochs.specs.EngineWorld.{Phase}
use Rattle.log_epochs.specs.EngineWorld.Move.{AnswerOk}
use Rattle.log_epochs.specs.EngineWorld.Phase.{Shut, Opening, Upgrading, Running, Closing, Closed}
use Rattle.log_epochs.specs.JournalWorld.{JournalWorld, Move, Moves, Told}
use Rattle.log_epochs.specs.JournalWorld.Move.{Step, Answer, Below}

-- What an image keeps, with one n from the acknowledged to the sealed transactions, their count by the log of the pin (of the
-- image, if there is no pin). An opening gives each block its last copy in the first n, else the permitted value at home. Numbers
-- follow one another. Each handle lies in one transaction with all its steps. Each recorded read of a block written earlier gave
-- the last write's bytes.
pub record Kept (shape : Shape) (epoch : Epoch) (told : Told) (image : Image) : Type 0 where
  pub n : ℕ
  pub low : acknowledged told.answered told.front.sealed ≤ n
  pub high : n ≤ length told.front.sealed
  pub count : IsCountOf shape (unwrap_or epoch.pin image) told.front.sealed n
  pub opens : Opens shape told.front.sealed n image
  pub others : OthersRightlyHeld shape.home_blocks epoch.opening epoch.directs told.front.sealed n (image Home)
  pub numbered : AreNumbered epoch.engine.first told.front.sealed
  pub joined : handles_of (transactions told.front) ≡ handle_numbers told.front.given
  pub handles : EachHandleOnce (transactions told.front)
  pub legal : IsLegal (transactions told.front)

-- nothing is promised before the first opening that answers Ok
abbrev pub KeepsNow : Shape → Option Epoch → Disk → Told → Type 0
KeepsNow shape None disk told = ⊤
KeepsNow shape (Some epoch) disk told = (image : Image) → Leaves disk image → Kept shape epoch told image

-- every crash image of the disk that an epoch ended with is clean and keeps the promise
pub record EndedWell (shape : Shape) (x : Ended) (told : Told) : Type 0 where
  pub pin : Image
  pub pin_is : x.epoch.pin ≡ Some pin
  pub clean : (image : Image) → Leaves x.after image → IsClean shape image
  pub keeps : (image : Image) → Leaves x.after image → Kept shape x.epoch told image

abbrev pub HaveEndedWell : Shape → List Ended → List Told → Type 0
HaveEndedWell shape [] [] = ⊤
HaveEndedWell shape (x ∷ xs) (t ∷ ts) = EndedWell shape x t × HaveEndedWell shape xs ts
HaveEndedWell shape [] (t ∷ ts) = ⊥
HaveEndedWell shape (x ∷ xs) [] = ⊥

pub record IsClosed (shape : Shape) (ts : History) (image : Image) : Type 0 where
  pub clean : IsClean shape image
  pub all : Opens shape ts (length ts) image

abbrev pub KeepsClosed : Shape → Disk → Told → Phase → Type 0
KeepsClosed shape disk told Closed = (image : Image) → Leaves disk image → IsClosed shape told.front.sealed image
KeepsClosed shape disk told Shut = ⊤
KeepsClosed shape disk told (Opening found stage) = ⊤
KeepsClosed shape disk told (Upgrading block stage) = ⊤
KeepsClosed shape disk told Running = ⊤
KeepsClosed shape disk told Closing = ⊤

-- what a step may add to home: a direct write its bytes, if it has the right to; a round the copy that the committed transactions
-- leave
abbrev pub StepMayAdd : Epoch → Front → Event → Addition
StepMayAdd epoch f (DirectWrite block bytes) b v = IsDirectWrite (transactions f) epoch.engine.committed (finished_count f) block bytes b v
StepMayAdd epoch f (DirectWriteFault block bytes) b v = IsDirectWrite (transactions f) epoch.engine.committed (finished_count f) block bytes b v
StepMayAdd epoch f DirectSync b v = ⊥
StepMayAdd epoch f DirectSyncFault b v = ⊥
StepMayAdd epoch f (FrontStep event) b v = ⊥
StepMayAdd epoch f Seal b v = ⊥
StepMayAdd epoch f CommitStep b v = ⊥
StepMayAdd epoch f CommitFault b v = ⊥
StepMayAdd epoch f CheckpointStep b v = IsCommittedCopy f.sealed epoch.engine.committed b v
StepMayAdd epoch f CheckpointFault b v = IsCommittedCopy f.sealed epoch.engine.committed b v
StepMayAdd epoch f (ReadBlock h block bytes) b v = ⊥
StepMayAdd epoch f ReadFault b v = ⊥
StepMayAdd epoch f Finish b v = ⊥
StepMayAdd epoch f AbortMark b v = ⊥

abbrev pub JournalMayAdd : Option Epoch → Front → Event → Addition
JournalMayAdd None f event b v = ⊥
JournalMayAdd (Some epoch) f event b v = StepMayAdd epoch f event b v

abbrev pub MayAdd : JournalWorld → Move → Addition
MayAdd w (Step event) b v = JournalMayAdd w.below.epoch w.told.front event b v
MayAdd w (Answer tid) b v = ⊥
MayAdd w (Below move) b v = BelowMayAdd w.below move b v

abbrev pub KeepsFrontNow : Option Epoch → Told → Type 0
KeepsFrontNow None told = ⊤
KeepsFrontNow (Some epoch) told = KeepsFront told.front epoch.engine

-- What a move does to the steps of handles: nothing; one more write, revoke or read of an open handle; a seal of them all, without
-- an open handle; or a new epoch.
pub data MakesSteps (move : Move) (old new : Front) : Type 0 where
  NoStep : new.sealed ≡ old.sealed → new.running.steps ≡ old.running.steps → MakesSteps move old new
  OneWrite : (h b : ℕ) (v : List ℕ) → move ≡ Step (FrontStep (WriteBlock h b v)) → IsOpen old h → new.sealed ≡ old.sealed →
      new.running.steps ≡ old.running.steps ++ write_step h b v ∷ [] → MakesSteps move old new
  OneRevoke : (h b : ℕ) → move ≡ Step (FrontStep (RevokeBlock h b)) → IsOpen old h → new.sealed ≡ old.sealed →
      new.running.steps ≡ old.running.steps ++ revoke_step h b ∷ [] → MakesSteps move old new
  OneRead : (h b : ℕ) (v : List ℕ) → move ≡ Step (ReadBlock h b v) → IsOpen old h → new.sealed ≡ old.sealed →
      new.running.steps ≡ old.running.steps ++ read_step h b v ∷ [] → MakesSteps move old new
  Sealed : move ≡ Step Seal → old.open_handles ≡ [] → new.sealed ≡ old.sealed ++ old.running ∷ [] → new.running.steps ≡ [] → MakesSteps move old new
  Begun : move ≡ Below AnswerOk → new.sealed ≡ [] → new.running.steps ≡ [] → MakesSteps move old new

-- Each epoch keeps its promise: the current one in every crash image of now, an ended one in every crash image of its end. Front
-- and engine agree. The next move adds to home only what it may, and steps only of an open handle.
pub record KeepsPromise (w : JournalWorld) : Type 0 where
  pub now : KeepsNow w.below.shape w.below.epoch w.below.disk w.told
  pub ended : HaveEndedWell w.below.shape w.below.ended w.past
  pub follows : Continues w.below.epoch w.below.ended
  pub closed : KeepsClosed w.below.shape w.below.disk w.told w.below.phase
  pub front : KeepsFrontNow w.below.epoch w.told
  pub steps : (move : Move) (new : JournalWorld) → Moves w move new → MakesSteps move w.told.front new.told.front
  pub home : (move : Move) (new : JournalWorld) → Moves w move new → HomeAddsOnly (MayAdd w move) w.below.disk new.below.disk
