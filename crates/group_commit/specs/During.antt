-- What holds at each moment of a call that takes turns.
use Rattle.std.specs.Prelude.{ℕ, ◌≤◌, List, length}
use Rattle.journal_model.specs.Disk.{Disk}
use Rattle.journal_model.specs.Transaction.{History}
use Rattle.log_model.specs.HomeChange.{HomeAddsOnly, IsCommittedCopy}
use Rattle.block_device.specs.State.{DeviceState, EachMoment}
use Rattle.journal_world.specs.Journal.{Journal}
use Rattle.journal_steps.specs.Journal.{OpensNow, OpensOver}
use Rattle.journal_steps.specs.Values.{JournalValue}
use Rattle.group_commit.specs.Close.{IsSealedInClose}

-- the copy of the block that the first n transactions leave, of those sealed before the call or of all that it seals; n lies between
-- the number committed before the call and this most
pub record IsCopyOfTurns (j : Journal) (most b : ℕ) (v : List ℕ) : Type 0 where
  pub sealed : History
  pub among : IsSealedInClose j.front sealed
  pub n : ℕ
  pub low : j.engine.committed ≤ n
  pub high : n ≤ most
  pub copy : IsCommittedCopy sealed n b v

-- A moment of such a call on this journal: each crash image opens over the transactions sealed by then, to some number from `least` to
-- all. `least` is at least the number committed before the call, and home gained only copies that at most the first `least`
-- transactions leave. So a copy is home only once no crash can take its transaction back.
pub record IsDuringTurns (j : Journal) (old disk : Disk) : Type 0 where
  pub least : ℕ
  pub low : j.engine.committed ≤ least
  pub home : HomeAddsOnly (IsCopyOfTurns j least) old disk
  pub sealed : History
  pub among : IsSealedInClose j.front sealed
  pub opens : OpensOver j.engine.shape sealed least (length sealed) disk

-- this holds at each moment from one journal to the other, and in between home gained only copies of transactions that are committed at
-- the end
pub record HoldsDuringTurns {D : Type 0} (state : D → DeviceState) (old new : JournalValue D) : Type 0 where
  pub each : EachMoment (IsDuringTurns old.journal (state old.device).disk) (state old.device) (state new.device)
  pub count : old.journal.engine.committed ≤ new.journal.engine.committed
  pub home : HomeAddsOnly (IsCopyOfTurns old.journal new.journal.engine.committed) (state old.device).disk (state new.device).disk

-- a moment of checkpoint rounds: home gained newest committed copies alone, and each crash image opens
pub record IsDuringRounds (j : Journal) (old disk : Disk) : Type 0 where
  pub home : HomeAddsOnly (IsCommittedCopy j.front.sealed j.engine.committed) old disk
  pub opens : OpensNow j disk

-- this holds at each moment from one journal to the other
pub record HoldsDuringRounds {D : Type 0} (state : D → DeviceState) (old new : JournalValue D) : Type 0 where
  pub each : EachMoment (IsDuringRounds old.journal (state old.device).disk) (state old.device) (state new.device)
