-- An upgrade as a machine: one write of the superblock makes a clean log of 32-bit block numbers one of 64-bit numbers.
-- This project's own.
use Rattle.std.specs.Prelude.{◌≡◌, ℕ, List, length, None, Option}
use Rattle.journal_model.specs.declared.number.Area.TheVariants.{Log}
use Rattle.journal_model.specs.Disk.{Disk, Image, Shape}
use Rattle.log_model.specs.Superblock.{revoke_feature, super_in, super_refusal, widened}
use Rattle.journal_world.specs.Call.{Call}
use Rattle.journal_world.specs.Call.Call.{Write, Flush}
use Rattle.log_epochs.specs.Epoch.{Epoch, pinning}

-- which device call of an upgrade is due
pub data UpgradeStage : Type 0 where
  LogFlush : UpgradeStage  -- the superblock was read and tested; due: the flush of the log
  SuperblockWrite : UpgradeStage  -- due: the write of the superblock of a wide log
  SuperblockFlush : UpgradeStage  -- due: its flush
  Done : UpgradeStage  -- Ok may be answered

-- accepted, of a clean log of 32-bit block numbers
pub record IsUpgradable (shape : Shape) (block : List ℕ) : Type 0 where
  pub size : length block ≡ shape.block_size
  pub accepted : super_refusal shape block ≡ None
  pub is_narrow : (super_in block).s_feature_incompat ≡ revoke_feature
  pub clean : (super_in block).s_start ≡ 0

pub record IsUpgradableOn (shape : Shape) (block : List ℕ) (disk : Disk) : Type 0 where
  pub read : (disk Log 0).reads ≡ block
  pub may : IsUpgradable shape block

pub data UpgradeCall (block : List ℕ) : UpgradeStage → Call → UpgradeStage → Type 0 where
  FlushLog : UpgradeCall block LogFlush (Flush Log) SuperblockWrite
  WriteSuperblock : UpgradeCall block SuperblockWrite (Write Log 0 (widened block)) SuperblockFlush
  FlushSuperblock : UpgradeCall block SuperblockFlush (Flush Log) Done

-- the first flush of the log pins what the device reads
abbrev pub pinning_in : UpgradeStage → Option Epoch → Image → Option Epoch
pinning_in LogFlush epoch image = pinning epoch image
pinning_in SuperblockWrite epoch image = epoch
pinning_in SuperblockFlush epoch image = epoch
pinning_in Done epoch image = epoch
