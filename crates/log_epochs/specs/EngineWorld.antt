-- Who works on the device over the whole life of a log, and which moves may come.
-- Source: the GoJournal paper (a disk that may crash at any step); fs/jbd2/recovery.c by behaviour.
use Rattle.std.specs.Prelude.{◌≡◌, ℕ, List, [], ◌∷◌, ◌++◌, replicate, Option, Some, None}
use Rattle.journal_model.specs.declared.number.Area.TheVariants.{Log}
use Rattle.journal_model.specs.Disk.{Disk, Image, Leaves, Shape, disk_of, reading}
use Rattle.journal_world.specs.Call.{Call, after_success, IsAfterFault}
use Rattle.journal_world.specs.Call.Call.{Write, Flush}
use Rattle.journal_world.specs.Engine.{Engine}
use Rattle.journal_world.specs.Opening.{IsOpenedLog, cleaned}
use Rattle.log_epochs.specs.EngineSteps.{Event, Happens, MayClose, closed_superblock, with_directs}
use Rattle.log_epochs.specs.Epoch.{Ended, Epoch, ending, fresh_epoch, pinning, pinning_at}
use Rattle.log_epochs.specs.OpeningRun.{IsFoundOn}
use Rattle.log_epochs.specs.OpeningSteps.{Found, OpeningCall, OpeningStage, next_of}
use Rattle.log_epochs.specs.OpeningSteps.OpeningStage.{LogFlush, Done}
use Rattle.log_epochs.specs.UpgradeSteps.{IsUpgradableOn, UpgradeCall, UpgradeStage, pinning_in}
use Rattle.log_epochs.specs.UpgradeSteps.UpgradeStage.{LogFlush as LogUnflushed}

pub data Phase : Type 0 where
  Shut : Phase  -- nobody: never opened, crashed, or handed out
  Opening : (found : Found) → (stage : OpeningStage) → Phase
  Upgrading : (block : List ℕ) → (stage : UpgradeStage) → Phase  -- of a log with this superblock
  Running : Phase  -- the epoch's engine
  Closing : Phase  -- the clean superblock is written and not flushed
  Closed : Phase  -- the close answered Ok

pub record World : Type 0 where
  pub shape : Shape  -- of the device
  pub disk : Disk
  pub phase : Phase
  pub epoch : Option Epoch  -- none until an opening answers Ok
  pub ended : List Ended  -- newest first

pub data CloseCall (e : Engine) : Phase → Call → Phase → Type 0 where
  WriteClosed : MayClose e → CloseCall e Running (Write Log 0 (closed_superblock e)) Closing
  FlushClosed : CloseCall e Closing (Flush Log) Closed

pub data UpgradeMove : Type 0 where
  BeginUpgrade : (block : List ℕ) → UpgradeMove  -- the superblock was read and tested
  UpgradeStep : UpgradeMove
  UpgradeFault : UpgradeMove

pub data Move : Type 0 where
  Step : (event : Event) → Move  -- a step of the engine, also one that fails
  CloseStep : Move
  CloseFault : Move
  GiveUp : Move  -- the device is handed out, without a crash
  Stop : (left : Image) → Move  -- a crash, at any time
  Begin : (found : Found) → Move  -- an opening read and tested the log
  OpeningStep : Move
  OpeningFault : Move
  AnswerOk : Move  -- the opening answers Ok
  Upgrade : (move : UpgradeMove) → Move  -- of a log on which nobody works

pub record Steps (old : World) (event : Event) (new : World) : Type 0 where
  pub running : old.phase ≡ Running
  pub epoch : Epoch
  pub now : old.epoch ≡ Some epoch
  pub engine : Engine
  pub happens : Happens epoch.engine old.disk event engine new.disk
  pub after : new ≡ record old { disk = new.disk; epoch = Some (record epoch { engine = engine; directs = with_directs event epoch.directs }) }

pub record Closes (old new : World) : Type 0 where
  pub epoch : Epoch
  pub now : old.epoch ≡ Some epoch
  pub call : Call
  pub phase : Phase
  pub due : CloseCall epoch.engine old.phase call phase
  pub after : new ≡ record old { disk = after_success call old.disk; phase = phase }

pub record CloseFails (old new : World) : Type 0 where
  pub epoch : Epoch
  pub now : old.epoch ≡ Some epoch
  pub call : Call
  pub phase : Phase
  pub due : CloseCall epoch.engine old.phase call phase
  pub disk_is : IsAfterFault call old.disk new.disk
  pub after : new ≡ record old { disk = new.disk; phase = Shut }

pub record GivesUp (old new : World) : Type 0 where
  pub after : new ≡ record old { phase = Shut }

pub record Stops (old : World) (left : Image) (new : World) : Type 0 where
  pub leaves : Leaves old.disk left
  pub after : new ≡ record old { disk = disk_of left; phase = Shut; epoch = pinning old.epoch left }

pub record BeginsOpening (old : World) (found : Found) (new : World) : Type 0 where
  pub shut : old.phase ≡ Shut
  pub found_is : IsFoundOn old.shape found old.disk
  pub after : new ≡ record old { phase = Opening found LogFlush }

pub record Recovers (old new : World) : Type 0 where
  pub found : Found
  pub stage : OpeningStage
  pub next : OpeningStage
  pub opening : old.phase ≡ Opening found stage
  pub call : Call
  pub due : OpeningCall old.shape found old.disk stage call next
  pub after : new ≡ record old {
    disk = after_success call old.disk;
    phase = Opening found next;
    epoch = pinning_at stage old.epoch (reading old.disk);
  }

pub record RecoveryFails (old new : World) : Type 0 where
  pub found : Found
  pub stage : OpeningStage
  pub next : OpeningStage
  pub opening : old.phase ≡ Opening found stage
  pub call : Call
  pub due : OpeningCall old.shape found old.disk stage call next
  pub disk_is : IsAfterFault call old.disk new.disk
  pub after : new ≡ record old { disk = new.disk; phase = Shut }

-- the current epoch ends, and a new history begins
pub record AnswersOk (old new : World) : Type 0 where
  pub found : Found
  pub opening : old.phase ≡ Opening found Done
  pub after : new ≡ record old {
    phase = Running;
    epoch = Some (fresh_epoch old.shape (cleaned (found.image Log 0) (next_of found)) (next_of found) old.disk);
    ended = ending old.epoch old.disk old.ended;
  }

pub record BeginsUpgrade (old : World) (block : List ℕ) (new : World) : Type 0 where
  pub shut : old.phase ≡ Shut
  pub on : IsUpgradableOn old.shape block old.disk
  pub after : new ≡ record old { phase = Upgrading block LogUnflushed }

pub record Upgrades (old new : World) : Type 0 where
  pub block : List ℕ
  pub stage : UpgradeStage
  pub next : UpgradeStage
  pub upgrading : old.phase ≡ Upgrading block stage
  pub call : Call
  pub due : UpgradeCall block stage call next
  pub after : new ≡ record old {
    disk = after_success call old.disk;
    phase = Upgrading block next;
    epoch = pinning_in stage old.epoch (reading old.disk);
  }

pub record UpgradeFails (old new : World) : Type 0 where
  pub block : List ℕ
  pub stage : UpgradeStage
  pub next : UpgradeStage
  pub upgrading : old.phase ≡ Upgrading block stage
  pub call : Call
  pub due : UpgradeCall block stage call next
  pub disk_is : IsAfterFault call old.disk new.disk
  pub after : new ≡ record old { disk = new.disk; phase = Shut }

abbrev pub UpgradeMoves : World → UpgradeMove → World → Type 0
UpgradeMoves old (BeginUpgrade block) new = BeginsUpgrade old block new
UpgradeMoves old UpgradeStep new = Upgrades old new
UpgradeMoves old UpgradeFault new = UpgradeFails old new

abbrev pub Moves : World → Move → World → Type 0
Moves old (Step event) new = Steps old event new
Moves old CloseStep new = Closes old new
Moves old CloseFault new = CloseFails old new
Moves old GiveUp new = GivesUp old new
Moves old (Stop left) new = Stops old left new
Moves old (Begin found) new = BeginsOpening old found new
Moves old OpeningStep new = Recovers old new
Moves old OpeningFault new = RecoveryFails old new
Moves old AnswerOk new = AnswersOk old new
Moves old (Upgrade move) new = UpgradeMoves old move new

-- these moves, in order, may lead from old to new
abbrev pub Leads : World → List Move → World → Type 0
Leads old [] new = new ≡ old
Leads old (move ∷ moves) new = (mid : World) × Moves old move mid × Leads mid moves new

-- a life begins with a device that nobody has opened, with any content, or with an engine just made on an opened log
pub data Begins (w : World) : Type 0 where
  Unopened : w.phase ≡ Shut → w.epoch ≡ None → w.ended ≡ [] → Begins w
  Made : (superblock : List ℕ) (next : ℕ) → IsOpenedLog w.shape w.disk superblock next → w.phase ≡ Running →
      w.epoch ≡ Some (fresh_epoch w.shape superblock next w.disk) → w.ended ≡ [] → Begins w

-- after an opening that answered Ok, an engine runs on this disk
abbrev pub opened_world : World → Disk → List ℕ → ℕ → World
opened_world w disk superblock next = record w {
  disk = disk;
  phase = Running;
  epoch = Some (fresh_epoch w.shape superblock next disk);
  ended = ending (pinning w.epoch (reading w.disk)) disk w.ended;
}

-- In any world where nobody works on the old disk, an opening may make some calls and answer Ok; then an engine runs on the new
-- disk.
pub record LeadsToEngine (shape : Shape) (old new : Disk) (superblock : List ℕ) (next : ℕ) : Type 0 where
  pub found : Found
  pub leads : (w : World) → w.shape ≡ shape → w.disk ≡ old → w.phase ≡ Shut →
      (calls : ℕ) × Leads w (Begin found ∷ replicate calls OpeningStep ++ AnswerOk ∷ []) (opened_world w new superblock next)

pub record ComesToRun (w : World) : Type 0 where
  pub moves : List Move
  pub end : World
  pub leads : Leads w moves end
  pub running : end.phase ≡ Running
