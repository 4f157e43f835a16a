-- A direct device call: what it does to engine and disk, and what holds at each moment.
use Rattle.std.proofs.Common.{refl, sym, ap, subst}
use Rattle.std.specs.Prelude.{◌≡◌, ℕ, true, false, List, length, Result, Ok, Err, IfErr, OnErr, OnOk}
use Rattle.journal_model.specs.declared.number.Area.TheVariants.{Home}
use Rattle.journal_model.specs.declared.refusal.JournalError.{JournalError}
use Rattle.journal_model.specs.declared.refusal.JournalError.TheVariants.{Device}
use Rattle.journal_model.specs.Disk.{Disk, Shape}
use Rattle.log_model.specs.HomeChange.{HomeAddsOnly}
use Rattle.block_device.specs.State.{CountsFaults, DeviceState, EachMoment}
use Rattle.journal_world.specs.Call.{Call, IsAfterFault, after_success}
use Rattle.journal_world.specs.Call.Call.{Flush, Write}
use Rattle.journal_world.specs.Direct.{DirectCall, DirectFaults, DirectSteps}
use Rattle.journal_world.specs.Engine.{Engine}
use Rattle.journal_world.specs.Sound.{OpensBetween, Sound}
use Rattle.journal_world.proofs.DirectCalls.{direct-adds, direct-fault-adds, direct-fault-sound, direct-sound}
use Rattle.journal_world.proofs.DirectRights.{direct-fault-home, direct-home}
use Rattle.journal_world.proofs.HomeCopies.{adds-none}
use Rattle.journal_world.proofs.Images.{images-open}
use Rattle.block_device.specs.Call.{IsOneMoment}
use Rattle.log_engine.specs.Direct.{DirectSyncRefused, DirectWriteRefused, IsDuringDirectSync, IsDuringDirectWrite, NoAddition}
use Rattle.log_engine.specs.Direct.DirectSyncRefused.{SyncFailed}
use Rattle.log_engine.specs.Direct.DirectWriteRefused.{WriteFailed}
use Rattle.log_engine.specs.Engine.{EngineValue}
use Rattle.block_device.proofs.OneCall.{each-one}

-- a successful direct call is the machine's, on a device whose shape stays
pub directs-here : (e : Engine) (shape : Shape) (call : Call) (disk after : Disk) → shape ≡ e.shape → e.aborted ≡ false → DirectCall e call →
    after ≡ after_success call disk → DirectSteps e disk call (record e { shape = shape }) after
directs-here e shape call disk after same running due done = record {
  running = running;
  due = due;
  engine = ap (λ (s : Shape). record e { shape = s }) same;
  disk_is = done;
}

-- so is a failed one
pub direct-faults-here : (e : Engine) (shape : Shape) (call : Call) (disk after : Disk) → shape ≡ e.shape → e.aborted ≡ false → DirectCall e call →
    IsAfterFault call disk after → DirectFaults e disk call (record e { shape = shape; aborted = true }) after
direct-faults-here e shape call disk after same running due fault = record {
  running = running;
  due = due;
  engine = ap (λ (s : Shape). record e { shape = s; aborted = true }) same;
  disk_is = fault;
}

-- after the call each crash image opens to a number within the same bounds
step-opens : (old new : Engine) (disk after : Disk) (call : Call) → Sound old disk → DirectSteps old disk call new after →
    OpensBetween old.shape old.accepted old.committed (length old.accepted) after
step-opens old new disk after call sound step =
    images-open old after (subst (λ (e : Engine). Sound e after) step.engine (direct-sound old new disk after call sound step))

fault-opens : (old new : Engine) (disk after : Disk) (call : Call) → Sound old disk → DirectFaults old disk call new after →
    OpensBetween old.shape old.accepted old.committed (length old.accepted) after
fault-opens old new disk after call sound fault =
    images-open (record old { aborted = true }) after
    (subst (λ (e : Engine). Sound e after) fault.engine (direct-fault-sound old new disk after call sound fault))

module _ (e : Engine) (b : ℕ) (v : List ℕ) where
  -- the unchanged disk is a moment of a direct write
  pub during-write : (disk : Disk) → Sound e disk → IsDuringDirectWrite e b v disk disk
  during-write disk sound = record { home = record { adds = λ ts are. adds-none _ disk disk (λ c. refl) }; opens = images-open e disk sound }

  -- each moment of a direct write, failed or not
  pub each-write : {T E : Type 0} (r : Result T E) (new : Engine) (before after : DeviceState) → IsOneMoment before after → Sound e before.disk →
      OnOk r (DirectSteps e before.disk (Write Home b v) new after.disk) → OnErr r (DirectFaults e before.disk (Write Home b v) new after.disk) →
      EachMoment (IsDuringDirectWrite e b v before.disk) before after
  each-write (Ok x) new before after moment sound step fault =
      each-one (IsDuringDirectWrite e b v before.disk) before after moment (during-write before.disk sound)
      (record {
        home = direct-home e new before.disk after.disk b v step;
        opens = step-opens e new before.disk after.disk (Write Home b v) sound step;
      })
  each-write (Err x) new before after moment sound step fault =
      each-one (IsDuringDirectWrite e b v before.disk) before after moment (during-write before.disk sound)
      (record {
        home = direct-fault-home e new before.disk after.disk b v fault;
        opens = fault-opens e new before.disk after.disk (Write Home b v) sound fault;
      })

-- a flush writes nothing
flush-none : (b : ℕ) (v : List ℕ) → Flush Home ≡ Write Home b v → ⊥
flush-none b v same = cc

module _ (e : Engine) where
  pub during-sync : (disk : Disk) → Sound e disk → IsDuringDirectSync e disk disk
  during-sync disk sound = record { home = adds-none NoAddition disk disk (λ b. refl); opens = images-open e disk sound }

  -- each moment of the flush of home, failed or not
  pub each-sync : {T E : Type 0} (r : Result T E) (new : Engine) (before after : DeviceState) → IsOneMoment before after → Sound e before.disk →
      OnOk r (DirectSteps e before.disk (Flush Home) new after.disk) → OnErr r (DirectFaults e before.disk (Flush Home) new after.disk) →
      EachMoment (IsDuringDirectSync e before.disk) before after
  each-sync (Ok x) new before after moment sound step fault =
      each-one (IsDuringDirectSync e before.disk) before after moment (during-sync before.disk sound)
      (record {
        home =
            subst (HomeAddsOnly NoAddition before.disk) (sym step.disk_is)
            (direct-adds NoAddition e before.disk (Flush Home) (λ b v same left. flush-none b v same) step.due);
        opens = step-opens e new before.disk after.disk (Flush Home) sound step;
      })
  each-sync (Err x) new before after moment sound step fault =
      each-one (IsDuringDirectSync e before.disk) before after moment (during-sync before.disk sound)
      (record {
        home = direct-fault-adds NoAddition e before.disk after.disk (Flush Home) (λ b v same left. flush-none b v same) fault.due fault.disk_is;
        opens = fault-opens e new before.disk after.disk (Flush Home) sound fault;
      })

module _ {D T : Type 0} (state : D → DeviceState) (old new : EngineValue D) where
  -- a direct write refused after its call has failed
  pub write-lost : (r : Result T JournalError) (b : ℕ) (v : List ℕ) →
      OnErr r (DirectFaults old.engine (state old.device).disk (Write Home b v) new.engine (state new.device).disk) → IfErr r (λ e. e ≡ Device) →
      CountsFaults r (state old.device) (state new.device) → IfErr r (λ e. DirectWriteRefused state old b v new e)
  write-lost (Ok x) b v fault is count = tt
  write-lost (Err e) b v fault is count = subst (DirectWriteRefused state old b v new) (sym is) (WriteFailed fault count)

  -- so has a flush of home
  pub sync-lost : (r : Result T JournalError) →
      OnErr r (DirectFaults old.engine (state old.device).disk (Flush Home) new.engine (state new.device).disk) → IfErr r (λ e. e ≡ Device) →
      CountsFaults r (state old.device) (state new.device) → IfErr r (λ e. DirectSyncRefused state old new e)
  sync-lost (Ok x) fault is count = tt
  sync-lost (Err e) fault is count = subst (DirectSyncRefused state old new) (sym is) (SyncFailed fault count)
