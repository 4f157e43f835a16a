-- Extension, start and restart of handles: what these calls do, and why they are refused.
-- Source: journalling.rst (journal_extend, journal_restart).
use Rattle.std.specs.Prelude.{◌≡◌, ℕ, ◌≤◌}
use Rattle.journal_model.specs.declared.refusal.JournalError.{JournalError}
use Rattle.block_device.specs.State.{DeviceState}
use Rattle.journal_world.specs.Front.{Front, credits_left, reserving}
use Rattle.journal_world.specs.Front.FrontEvent.{ExtendHandle, Join, Reserve, StopHandle}
use Rattle.journal_world.specs.Journal.Event.{FrontStep}
use Rattle.journal_front.specs.Front.{ExtendRefused, IsOpenHandle, JoinRefused, ReserveRefused}
use Rattle.journal_steps.specs.Journal.{Does}
use Rattle.journal_front.specs.Values.{HandleValue}
use Rattle.journal_steps.specs.Values.{JournalValue}

-- credits are granted, and an open handle gets them
pub record Extends {D : Type 0} (state : D → DeviceState) (h n : ℕ) (old new : JournalValue D) : Type 0 where
  pub granted : JournalValue D
  pub reserves : Does state old (FrontStep (Reserve n)) granted
  pub extends : Does state granted (FrontStep (ExtendHandle h n)) new
  pub device : granted.device ≡ old.device

-- why the extension is refused; credits that were granted are given back
pub data ExtensionRefused (f : Front) (h : HandleValue) (n : ℕ) (e : JournalError) : Type 0 where
  NotGranted : ReserveRefused f n e → ExtensionRefused f h n e
  NotExtended : n ≤ credits_left f → ExtendRefused (reserving f n) h n e → ExtensionRefused f h n e

-- credits are granted, and a handle joins with them
pub record Starts {D : Type 0} (state : D → DeviceState) (n : ℕ) (old new : JournalValue D) : Type 0 where
  pub granted : JournalValue D
  pub reserves : Does state old (FrontStep (Reserve n)) granted
  pub joins : Does state granted (FrontStep (Join n)) new
  pub device : granted.device ≡ old.device

-- why the start is refused; credits that were granted are given back
pub data StartRefused (f : Front) (n : ℕ) (e : JournalError) : Type 0 where
  Ungranted : ReserveRefused f n e → StartRefused f n e
  NotJoined : n ≤ credits_left f → JoinRefused (reserving f n) n e → StartRefused f n e

-- a handle is stopped if it is open; else nothing changes
pub record EndsHandle {D : Type 0} (state : D → DeviceState) (h : HandleValue) (old new : JournalValue D) : Type 0 where
  pub stops : IsOpenHandle old.journal.front h → Does state old (FrontStep (StopHandle h.number)) new
  pub other : (IsOpenHandle old.journal.front h → ⊥) → new ≡ old
  pub device : new.device ≡ old.device

-- a handle is stopped, and a new one starts
pub record Restarts {D : Type 0} (state : D → DeviceState) (h : HandleValue) (n : ℕ) (old new : JournalValue D) : Type 0 where
  pub stopped : JournalValue D
  pub ends : EndsHandle state h old stopped
  pub starts : Starts state n stopped new

-- the handle is stopped, but the start of a new one is refused
pub record RestartRefused {D : Type 0} (state : D → DeviceState) (h : HandleValue) (n : ℕ) (old new : JournalValue D) (e : JournalError) : Type 0 where
  pub ends : EndsHandle state h old new
  pub why : StartRefused new.journal.front n e
