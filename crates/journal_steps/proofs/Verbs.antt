-- What a read leaves follows from what it did.
use Rattle.std.proofs.Common.{sym, ap, subst}
use Rattle.std.specs.Prelude.{◌≡◌, ℕ, List, Result, Ok, Err, IfErr, OnOk}
use Rattle.journal_model.specs.declared.refusal.JournalError.{JournalError}
use Rattle.journal_model.specs.Disk.{Disk}
use Rattle.block_device.specs.Call.{OnlyReads}
use Rattle.block_device.specs.State.{DeviceState, MakesAtMostOneCall}
use Rattle.journal_world.specs.Engine.{Engine}
use Rattle.journal_world.specs.Front.{Front}
use Rattle.journal_world.specs.Journal.{Journal}
use Rattle.journal_world.specs.Journal.Event.{ReadFault}
use Rattle.journal_front.specs.Values.{HandleValue}
use Rattle.journal_steps.specs.Journal.{Does, NewestDid, NewestRefused, OpensNow, ReadRefused, RegistersRead}
use Rattle.journal_steps.specs.Journal.NewestRefused.{NewestAborted, NewestOutside, NewestRevoked, NewestFailed}
use Rattle.journal_steps.specs.Journal.ReadRefused.{ReadKeptOut, ReadRevoked, ReadUnnoted, ReadFailed}
use Rattle.journal_steps.specs.Values.{JournalValue}
use Rattle.journal_steps.specs.Verbs.{LeftByRead, Reads, ReadsNewest}
use Rattle.journal_steps.proofs.LegalSteps.{alike-legal, newest-legal, read-legal}
use Rattle.journal_steps.proofs.Rounding.{opens-same}

-- each crash image opens as before
module _ {D : Type 0} (state : D → DeviceState) (old new : JournalValue D) (still : (state new.device).disk ≡ (state old.device).disk)
    (opens : OpensNow old.journal (state old.device).disk) where
  opens-alike : new.journal ≡ old.journal → OpensNow new.journal (state new.device).disk
  opens-alike same =
      subst (λ (d : Disk). OpensNow new.journal d) (sym still) (subst (λ (j : Journal). OpensNow j (state old.device).disk) (sym same) opens)

  opens-failed : Does state old ReadFault new → OpensNow new.journal (state new.device).disk
  opens-failed did =
      opens-same old.journal.front new.journal.front old.journal.engine new.journal.engine _ _ (ap (λ (f : Front). f.sealed) did.front)
      (ap (λ (e : Engine). e.shape) did.engine) (ap (λ (e : Engine). e.committed) did.engine) still opens

  opens-refused : (h : HandleValue) (b : ℕ) (e : JournalError) → ReadRefused state old h b new e → OpensNow new.journal (state new.device).disk
  opens-refused h b e (ReadKeptOut out same) = opens-alike (ap (λ (v : JournalValue D). v.journal) same)
  opens-refused h b e (ReadRevoked may last same is) = opens-alike (ap (λ (v : JournalValue D). v.journal) same)
  opens-refused h b e (ReadUnnoted may last same faults is) = opens-alike same
  opens-refused h b e (ReadFailed may last kept did faults is) = opens-failed did

  opens-read : {A : Type 0} (r : Result A JournalError) (h : HandleValue) (b : ℕ) (v : List ℕ) → OnOk r (RegistersRead state old h b v new) →
      IfErr r (ReadRefused state old h b new) → OpensNow new.journal (state new.device).disk
  opens-read (Ok a) h b v did why =
      opens-same old.journal.front new.journal.front old.journal.engine new.journal.engine _ _ (ap (λ (f : Front). f.sealed) did.front)
      (ap (λ (e : Engine). e.shape) did.engine) (ap (λ (e : Engine). e.committed) did.engine) still opens
  opens-read (Err e) h b v did why = opens-refused h b e why

  newest-refused : (b : ℕ) (e : JournalError) → NewestRefused state old b new e → OpensNow new.journal (state new.device).disk
  newest-refused b e (NewestAborted aborted same is) = opens-alike (ap (λ (v : JournalValue D). v.journal) same)
  newest-refused b e (NewestOutside running may same is) = opens-alike (ap (λ (v : JournalValue D). v.journal) same)
  newest-refused b e (NewestRevoked running may last same is) = opens-alike (ap (λ (v : JournalValue D). v.journal) same)
  newest-refused b e (NewestFailed running may last kept did faults is) = opens-failed did

  opens-newest : {A : Type 0} (honest : D → Type 0) (r : Result A JournalError) (b : ℕ) (v : List ℕ) → OnOk r (NewestDid state honest old b v new) →
      IfErr r (NewestRefused state old b new) → OpensNow new.journal (state new.device).disk
  opens-newest honest (Ok a) b v did why = opens-alike did.same
  opens-newest honest (Err e) b v did why = newest-refused b e why

pub on-any : {A E P : Type 0} (r : Result A E) → P → OnOk r P
on-any (Ok a) p = p
on-any (Err e) p = tt

module _ {D A : Type 0} (state : D → DeviceState) (honest : D → Type 0) (old new : JournalValue D) (r : Result A JournalError)
    (opens : honest old.device → OpensNow old.journal (state old.device).disk) (device : OnlyReads state honest old.device new.device)
    (calls : MakesAtMostOneCall (state old.device) (state new.device)) (no_fault : OnOk r ((state new.device).faults ≡ (state old.device).faults)) where
  pub left-read : (h : HandleValue) (b : ℕ) (before v : List ℕ) → Reads state honest old h b before v new r → LeftByRead state honest old new r
  left-read h b before v reads = record {
    device = device;
    legal = λ legal. read-legal state honest old new device.honest legal r h b v reads.ok reads.err;
    opens = λ well. opens-read state old new device.stays.disk (opens well) r h b v reads.registers reads.err;
    calls = calls;
    no_fault = no_fault;
  }

  pub left-newest : (b : ℕ) (before v : List ℕ) → ReadsNewest state honest old b before v new r → LeftByRead state honest old new r
  left-newest b before v reads = record {
    device = device;
    legal = λ legal. newest-legal state honest old new device.honest legal r b v reads.ok reads.err;
    opens = λ well. opens-newest state old new device.stays.disk (opens well) honest r b v reads.ok reads.err;
    calls = calls;
    no_fault = no_fault;
  }

  pub left-alike : new.journal ≡ old.journal → LeftByRead state honest old new r
  left-alike same = record {
    device = device;
    legal = λ legal. alike-legal state honest old new device.honest legal same;
    opens = λ well. opens-alike state old new device.stays.disk (opens well) same;
    calls = calls;
    no_fault = no_fault;
  }
