-- What each call of a journal did, whatever it answered.
use Rattle.std.specs.Prelude.{◌≡◌, ◌≢◌, ℕ, List, length, Result, IfErr, OnOk}
use Rattle.journal_model.specs.declared.refusal.JournalError.{JournalError}
use Rattle.journal_model.specs.declared.refusal.JournalError.TheVariants.{Device}
use Rattle.block_device.specs.Call.{MakesOneCall, OnlyReads}
use Rattle.block_device.specs.State.{DeviceState, MakesAtMostOneCall}
use Rattle.journal_world.specs.Journal.Event.{DirectSync, DirectWrite, ReadBlock}
use Rattle.journal_front.specs.Values.{HandleValue}
use Rattle.journal_steps.specs.Direct.{DirectSyncRefused, DirectWriteRefused, IsDuringDirectSync, IsDuringDirectWrite, MayWriteDirectly}
use Rattle.journal_steps.specs.Journal.{Does, NewestDid, NewestRefused, OpensNow, ReadRefused, RegistersRead}
use Rattle.journal_steps.specs.Legal.{KeepsLegal}
use Rattle.journal_steps.specs.Values.{JournalValue}

-- a read by this handle, into a buffer of the bytes `before`, which then has the bytes v
pub record Reads {D A : Type 0} (state : D → DeviceState) (honest : D → Type 0) (old : JournalValue D) (h : HandleValue) (b : ℕ) (before v : List ℕ)
    (new : JournalValue D) (result : Result A JournalError) : Type 0 where
  pub ok : OnOk result (honest new.device → Does state old (ReadBlock h.number b v) new)
  pub registers : OnOk result (RegistersRead state old h b v new)  -- reads need not be correct for this
  pub err : IfErr result (ReadRefused state old h b new)
  pub untouched : IfErr result (λ e. v ≡ before)
  pub same_length : length v ≡ length before

-- a read without a handle, into such a buffer
pub record ReadsNewest {D A : Type 0} (state : D → DeviceState) (honest : D → Type 0) (old : JournalValue D) (b : ℕ) (before v : List ℕ)
    (new : JournalValue D) (result : Result A JournalError) : Type 0 where
  pub ok : OnOk result (NewestDid state honest old b v new)
  pub err : IfErr result (NewestRefused state old b new)
  pub untouched : IfErr result (λ e. e ≢ Device → v ≡ before)
  pub same_length : length v ≡ length before

-- what either read leaves, with at most one call of the device
pub record LeftByRead {D A : Type 0} (state : D → DeviceState) (honest : D → Type 0) (old new : JournalValue D) (result : Result A JournalError) : Type 0 where
  pub device : OnlyReads state honest old.device new.device
  pub legal : KeepsLegal honest old → KeepsLegal honest new
  pub opens : honest old.device → OpensNow new.journal (state new.device).disk
  pub calls : MakesAtMostOneCall (state old.device) (state new.device)
  pub no_fault : OnOk result ((state new.device).faults ≡ (state old.device).faults)

-- a direct write of the bytes v
pub record WritesDirectly {D A : Type 0} (state : D → DeviceState) (honest : D → Type 0) (old : JournalValue D) (b : ℕ) (v : List ℕ)
    (new : JournalValue D) (result : Result A JournalError) : Type 0 where
  pub right : OnOk result (MayWriteDirectly old.journal b)
  pub ok : OnOk result (Does state old (DirectWrite b v) new)
  pub err : IfErr result (DirectWriteRefused state old b v new)
  pub no_fault : OnOk result ((state new.device).faults ≡ (state old.device).faults)
  pub device : MakesOneCall state honest (IsDuringDirectWrite old.journal b v (state old.device).disk) old.device new.device

-- a flush of home
pub record SyncsDirectly {D A : Type 0} (state : D → DeviceState) (honest : D → Type 0) (old new : JournalValue D) (result : Result A JournalError) : Type 0 where
  pub ok : OnOk result (Does state old DirectSync new)
  pub err : IfErr result (DirectSyncRefused state old new)
  pub no_fault : OnOk result ((state new.device).faults ≡ (state old.device).faults)
  pub device : MakesOneCall state honest (IsDuringDirectSync old.journal (state old.device).disk) old.device new.device
