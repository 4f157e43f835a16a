-- Which steps an engine makes beside its disk, and which two calls close its log.
-- Source: journal.rst, fs/jbd2/journal.c by behaviour (the superblock of a journal that is destroyed says that
-- the log is clean).
use Rattle.std.specs.Prelude.{◌≡◌, ℕ, ◌+◌, true, false, List, ◌∷◌}
use Rattle.journal_model.specs.declared.entry.Batch.{Batch}
use Rattle.journal_model.specs.declared.number.Area.TheVariants.{Home}
use Rattle.journal_model.specs.Disk.{Disk}
use Rattle.log_model.specs.Superblock.{with_tail}
use Rattle.journal_world.specs.declared.stage.Stage.TheVariants.{Idle}
use Rattle.journal_world.specs.Call.Call.{Write, Flush}
use Rattle.journal_world.specs.Checkpoint.{IsRead, RoundFaults, RoundSteps}
use Rattle.journal_world.specs.Direct.{DirectFaults, DirectSteps}
use Rattle.journal_world.specs.Engine.{Accepts, CommitFaults, CommitSteps, Engine}

pub data Event : Type 0 where
  Accept : (batch : Batch) → Event
  Read : (block : ℕ) → (bytes : List ℕ) → Event
  CommitStep : Event
  CommitFault : Event
  CheckpointStep : Event
  CheckpointFault : Event
  ReadFault : Event
  DirectWrite : (block : ℕ) → (bytes : List ℕ) → Event
  DirectWriteFault : (block : ℕ) → (bytes : List ℕ) → Event
  DirectSync : Event
  DirectSyncFault : Event

pub record Takes (old : Engine) (disk : Disk) (b : Batch) (new : Engine) (after : Disk) : Type 0 where
  pub engine : Accepts old b new
  pub disk_is : after ≡ disk

pub record Reads (old : Engine) (disk : Disk) (b : ℕ) (v : List ℕ) (new : Engine) (after : Disk) : Type 0 where
  pub running : old.aborted ≡ false
  pub gives : IsRead old disk b v
  pub engine : new ≡ old
  pub disk_is : after ≡ disk

-- a failed read of home aborts the engine
pub record ReadFails (old : Engine) (disk : Disk) (new : Engine) (after : Disk) : Type 0 where
  pub running : old.aborted ≡ false
  pub engine : new ≡ record old { aborted = true }
  pub disk_is : after ≡ disk

-- the step of each event
abbrev pub Happens : Engine → Disk → Event → Engine → Disk → Type 0
Happens old disk (Accept b) new after = Takes old disk b new after
Happens old disk (Read b v) new after = Reads old disk b v new after
Happens old disk CommitStep new after = CommitSteps old disk new after
Happens old disk CommitFault new after = CommitFaults old disk new after
Happens old disk CheckpointStep new after = RoundSteps old disk new after
Happens old disk CheckpointFault new after = RoundFaults old disk new after
Happens old disk ReadFault new after = ReadFails old disk new after
Happens old disk (DirectWrite b v) new after = DirectSteps old disk (Write Home b v) new after
Happens old disk (DirectWriteFault b v) new after = DirectFaults old disk (Write Home b v) new after
Happens old disk DirectSync new after = DirectSteps old disk (Flush Home) new after
Happens old disk DirectSyncFault new after = DirectFaults old disk (Flush Home) new after

-- direct writes since the opening, newest first, failed ones too
abbrev pub with_directs : Event → List (ℕ × List ℕ) → List (ℕ × List ℕ)
with_directs (DirectWrite b v) directs = (b, v) ∷ directs
with_directs (DirectWriteFault b v) directs = (b, v) ∷ directs
with_directs DirectSync directs = directs
with_directs DirectSyncFault directs = directs
with_directs (Accept batch) directs = directs
with_directs (Read b v) directs = directs
with_directs CommitStep directs = directs
with_directs CommitFault directs = directs
with_directs CheckpointStep directs = directs
with_directs CheckpointFault directs = directs
with_directs ReadFault directs = directs

-- all is committed and released, and the log is not clean
pub record MayClose (e : Engine) : Type 0 where
  pub running : e.aborted ≡ false
  pub started : e.started ≡ true
  pub idle : e.stage ≡ Idle
  pub released : e.released ≡ e.committed

-- clean, with the number of the next transaction
abbrev pub closed_superblock : Engine → List ℕ
closed_superblock e = with_tail e.superblock (e.first + e.committed) 0
