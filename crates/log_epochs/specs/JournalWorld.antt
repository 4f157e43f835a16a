-- The journal's world: the engine's, with each epoch's front and answers. Contracts of the running crates cite its steps.
-- Source: the GoJournal paper (atomic handles over a disk that may crash at any step), journalling.rst.
use Rattle.std.specs.Prelude.{◌≡◌, ⊤, ℕ, ◌≤◌, List, [], ◌∷◌, Option, Some, None}
use Rattle.journal_model.specs.Disk.{Disk, Image}
use Rattle.journal_world.specs.Front.{Front}
use Rattle.journal_world.specs.Journal.{Event, Happens, IsFresh, Journal}
use Rattle.journal_world.specs.Journal.Event.{FrontStep, Seal, CommitStep as Commit, CommitFault as CommitFails, CheckpointStep as Checkpoint, CheckpointFault as CheckpointFails, ReadBlock, ReadFault as ReadFails, DirectWrite as WriteDirect, DirectWriteFault as WriteDirectFails, DirectSync as SyncDirect, DirectSyncFault as SyncDirectFails, Finish, AbortMark}
use Rattle.log_epochs.specs.EngineSteps.{Event as EngineEvent}
use Rattle.log_epochs.specs.EngineSteps.Event.{Accept, Read, CommitStep, CommitFault, CheckpointStep, CheckpointFault, ReadFault, DirectWrite, DirectWriteFault, DirectSync, DirectSyncFault}
use Rattle.log_epochs.specs.EngineWorld.{Begins as BelowBegins, Move as BelowMove, Moves as BelowMoves, Phase, World}
use Rattle.log_epochs.specs.EngineWorld.Move.{Step as EngineStep, CloseStep, CloseFault, GiveUp, Stop, Begin, OpeningStep, OpeningFault, AnswerOk, Upgrade}
use Rattle.log_epochs.specs.EngineWorld.Phase.{Running}
use Rattle.log_epochs.specs.Epoch.{Epoch, pinning}

-- an epoch's front, and the transactions acknowledged in it
pub record Told : Type 0 where
  pub front : Front
  pub answered : List ℕ

pub record JournalWorld : Type 0 where
  pub below : World
  pub told : Told  -- of the current epoch
  pub past : List Told  -- of the ended epochs, as `below` has them

pub data Move : Type 0 where
  Step : (event : Event) → Move  -- a step of the journal, also one that fails
  Answer : (tid : ℕ) → Move  -- the mark acknowledges a transaction, in a wait or a status
  Below : (move : BelowMove) → Move  -- a move of the engine's world that is no step of the journal

abbrev pub journal_of : Epoch → Told → Journal
journal_of epoch told = record { front = told.front; engine = epoch.engine }

-- direct writes since the opening, newest first, failed ones too
abbrev pub with_directs : Event → List (ℕ × List ℕ) → List (ℕ × List ℕ)
with_directs (WriteDirect b v) directs = (b, v) ∷ directs
with_directs (WriteDirectFails b v) directs = (b, v) ∷ directs
with_directs SyncDirect directs = directs
with_directs SyncDirectFails directs = directs
with_directs (FrontStep event) directs = directs
with_directs Seal directs = directs
with_directs Commit directs = directs
with_directs CommitFails directs = directs
with_directs Checkpoint directs = directs
with_directs CheckpointFails directs = directs
with_directs (ReadBlock h b v) directs = directs
with_directs ReadFails directs = directs
with_directs Finish directs = directs
with_directs AbortMark directs = directs

pub record Steps (old : JournalWorld) (event : Event) (new : JournalWorld) : Type 0 where
  pub running : old.below.phase ≡ Running
  pub epoch : Epoch
  pub now : old.below.epoch ≡ Some epoch
  pub journal : Journal
  pub happens : Happens (journal_of epoch old.told) old.below.disk event journal new.below.disk
  pub after : new ≡ record old {
    below = record old.below { disk = new.below.disk; epoch = Some (record epoch { engine = journal.engine; directs = with_directs event epoch.directs }) };
    told = record old.told { front = journal.front };
  }

-- a wait or a status acknowledges a transaction up to the mark
pub record Answers (old : JournalWorld) (tid : ℕ) (new : JournalWorld) : Type 0 where
  pub running : old.below.phase ≡ Running
  pub marked : tid ≤ old.told.front.mark
  pub after : new ≡ record old { told = record old.told { answered = tid ∷ old.told.answered } }

pub record IsFreshTold (epoch : Epoch) (told : Told) : Type 0 where
  pub journal : IsFresh epoch.engine.shape epoch.engine.superblock epoch.engine.first (journal_of epoch told)
  pub unanswered : told.answered ≡ []

pub record TellsSame (old new : JournalWorld) : Type 0 where
  pub told : new.told ≡ old.told
  pub past : new.past ≡ old.past

abbrev pub telling : Option Epoch → Told → List Told → List Told
telling None told past = past
telling (Some epoch) told past = told ∷ past

pub record TellsAnew (old new : JournalWorld) : Type 0 where
  pub epoch : Epoch
  pub now : new.below.epoch ≡ Some epoch
  pub fresh : IsFreshTold epoch new.told
  pub past : new.past ≡ telling old.below.epoch old.told old.past

-- each step of the engine but a read is a step of the journal
abbrev pub TellsAfterStep : EngineEvent → JournalWorld → JournalWorld → Type 0
TellsAfterStep (Read block bytes) old new = TellsSame old new
TellsAfterStep (Accept batch) old new = ⊥
TellsAfterStep CommitStep old new = ⊥
TellsAfterStep CommitFault old new = ⊥
TellsAfterStep CheckpointStep old new = ⊥
TellsAfterStep CheckpointFault old new = ⊥
TellsAfterStep ReadFault old new = ⊥
TellsAfterStep (DirectWrite block bytes) old new = ⊥
TellsAfterStep (DirectWriteFault block bytes) old new = ⊥
TellsAfterStep DirectSync old new = ⊥
TellsAfterStep DirectSyncFault old new = ⊥

abbrev pub TellsAfter : BelowMove → JournalWorld → JournalWorld → Type 0
TellsAfter (EngineStep event) old new = TellsAfterStep event old new
TellsAfter CloseStep old new = TellsSame old new
TellsAfter CloseFault old new = TellsSame old new
TellsAfter GiveUp old new = TellsSame old new
TellsAfter (Stop left) old new = TellsSame old new
TellsAfter (Begin found) old new = TellsSame old new
TellsAfter OpeningStep old new = TellsSame old new
TellsAfter OpeningFault old new = TellsSame old new
TellsAfter AnswerOk old new = TellsAnew old new
TellsAfter (Upgrade move) old new = TellsSame old new

pub record GoesBelow (old : JournalWorld) (move : BelowMove) (new : JournalWorld) : Type 0 where
  pub below : BelowMoves old.below move new.below
  pub tells : TellsAfter move old new

abbrev pub Moves : JournalWorld → Move → JournalWorld → Type 0
Moves old (Step event) new = Steps old event new
Moves old (Answer tid) new = Answers old tid new
Moves old (Below move) new = GoesBelow old move new

-- these moves, in order, may lead from old to new
abbrev pub Leads : JournalWorld → List Move → JournalWorld → Type 0
Leads old [] new = new ≡ old
Leads old (move ∷ moves) new = (mid : JournalWorld) × Moves old move mid × Leads mid moves new

abbrev pub TellsNothing : Option Epoch → Told → Type 0
TellsNothing None told = ⊤
TellsNothing (Some epoch) told = IsFreshTold epoch told

-- a device that nobody has opened, or a journal just made on an opened log
pub record Begins (w : JournalWorld) : Type 0 where
  pub below : BelowBegins w.below
  pub fresh : TellsNothing w.below.epoch w.told
  pub first : w.past ≡ []

-- the epoch is unchanged, or pinned
pub data PinsAtMost (old new : Option Epoch) : Type 0 where
  Unpinned : new ≡ old → PinsAtMost old new
  PinnedAt : (image : Image) → new ≡ pinning old image → PinsAtMost old new

-- moves of an opening lead to this disk; besides only the phase changes, and the epoch may be pinned
pub record ComesTo (w : JournalWorld) (disk : Disk) : Type 0 where
  pub phase : Phase
  pub epoch : Option Epoch
  pub pins : PinsAtMost w.below.epoch epoch
  pub moves : List Move
  pub leads : Leads w moves (record w { below = record w.below { disk = disk; phase = phase; epoch = epoch } })
