-- Which blocks may be written directly, past the log, and what such a write and its flush do.
-- Source: this project's own rule, by what journal.rst says of revokes (a block that is no longer journalled may be
-- written in place).
use Rattle.std.specs.Prelude.{◌≡◌, ℕ, ◌≤◌, true, false, List, length, map, Some, slice_get, Contains}
use Rattle.journal_model.specs.declared.entry.Batch.{Batch}
use Rattle.journal_model.specs.declared.number.Area.TheVariants.{Home}
use Rattle.journal_model.specs.Block.{IsAllowedBlock}
use Rattle.journal_model.specs.Disk.{Disk}
use Rattle.log_model.specs.HomeChange.{Addition, HomeAddsOnly, IsDirectWrite}
use Rattle.journal_model.specs.Transaction.{History}
use Rattle.journal_world.specs.Call.{Call, after_success, IsAfterFault}
use Rattle.journal_world.specs.Call.Call.{Write, Flush}
use Rattle.journal_world.specs.Checkpoint.{IsNewestCopy}
use Rattle.journal_world.specs.Engine.{Engine, AreBatchesOf}

-- no accepted, uncommitted transaction has an entry of the block
abbrev pub HasNoDueEntry : Engine → ℕ → Type 0
HasNoDueEntry e b = (j : ℕ) (due : Batch) → e.committed ≤ j → slice_get e.accepted j ≡ Some due → Contains (map (λ p. p.0) due.entries) b → ⊥

-- The block has no newest committed copy, and no accepted, uncommitted transaction has an entry of it.
pub record IsLeftToHome (e : Engine) (b : ℕ) : Type 0 where
  pub none_newest : (i : ℕ) (v : List ℕ) → IsNewestCopy e i b v → ⊥
  pub none_due : HasNoDueEntry e b

-- a direct write of such a block, or the flush of home
pub data DirectCall (e : Engine) : Call → Type 0 where
  WriteDirect : (b : ℕ) (v : List ℕ) → IsLeftToHome e b → IsAllowedBlock e.layout e.shape.home_blocks b → length v ≡ e.shape.block_size →
      DirectCall e (Write Home b v)
  SyncDirect : DirectCall e (Flush Home)

-- the engine stays as it is
pub record DirectSteps (old : Engine) (disk : Disk) (call : Call) (new : Engine) (after : Disk) : Type 0 where
  pub running : old.aborted ≡ false
  pub due : DirectCall old call
  pub engine : new ≡ old
  pub disk_is : after ≡ after_success call disk

-- a failed direct call aborts the journal
pub record DirectFaults (old : Engine) (disk : Disk) (call : Call) (new : Engine) (after : Disk) : Type 0 where
  pub running : old.aborted ≡ false
  pub due : DirectCall old call
  pub engine : new ≡ record old { aborted = true }
  pub disk_is : IsAfterFault call disk after

-- a direct write may add its bytes to a block that is left to home
abbrev pub IsAddedDirectly : Engine → ℕ → List ℕ → Addition
IsAddedDirectly e block bytes b v = IsLeftToHome e block × (b ≡ block) × (v ≡ bytes)

-- home changed by this direct write alone, of a block that the accepted transactions leave to home
pub record DirectsHome (e : Engine) (block : ℕ) (bytes : List ℕ) (old new : Disk) : Type 0 where
  pub adds : (ts : History) → AreBatchesOf ts e.accepted → HomeAddsOnly (IsDirectWrite ts e.committed e.committed block bytes) old new
