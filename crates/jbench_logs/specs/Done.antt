-- What a command on a log leaves of its device.
use Rattle.std.specs.Prelude.{◌≡◌, ◌⊎◌, ℕ, Bool, true, false, List, Option, None}
use Rattle.std.specs.Io.KnownBytes.{Appends}
use Rattle.journal_model.specs.declared.number.Area.TheVariants.{Home}
use Rattle.journal_model.specs.declared.refusal.JournalError.{JournalError}
use Rattle.journal_model.specs.Disk.{Disk, Shape, flushed, reading}
use Rattle.log_model.specs.declared.log.Text.{Text}
use Rattle.block_device.specs.State.{DeviceState, EachMoment, Stays}
use Rattle.journal_world.specs.Opening.{IsOpening}
use Rattle.log_epochs.specs.OpeningRun.{IsMoment}
use Rattle.recovery.specs.Making.{IsMakingMoment}
use Rattle.recovery.specs.Opening.{IsDone, IsFormatted, OpeningRefused, Tells}
use Rattle.recovery.specs.Planned.{IsPlanned}
use Rattle.recovery.specs.Upgrade.{IsUpgradeBroken, IsUpgraded}
use Rattle.damaged_logs.specs.Before.{BeforeRefused, IsMomentBefore, IsOpeningBefore, TellsBefore}
use Rattle.damaged_logs.specs.BeforeSteps.{HasDoneBefore}
use Rattle.damaged_logs.specs.Planned.{IsPlannedBefore}
use Rattle.jbench_logs.specs.declared.damage.TakenLog.{TakenLog}
use Rattle.jbench_logs.specs.declared.plans.Planned.{Planned}
use Rattle.jbench_logs.specs.Said.{recovered_text}

-- a log of this many blocks, with this UUID and 64-bit or 32-bit block numbers, was made and is durable; then home was made durable as it
-- read
pub record IsMade (maxlen : ℕ) (uuid : List ℕ) (wide : Bool) (old new : DeviceState) : Type 0 where
  pub formatted : Disk
  pub of_log : IsFormatted old.shape maxlen uuid wide old.disk formatted
  pub of_home : new.disk ≡ flushed formatted Home

-- a moment of that: home is unchanged, and the superblock comes last; or all is done
pub data IsMakeMoment (shape : Shape) (maxlen : ℕ) (uuid : List ℕ) (wide : Bool) (old disk : Disk) : Type 0 where
  OfLog : IsMakingMoment shape maxlen uuid wide old disk → IsMakeMoment shape maxlen uuid wide old disk
  OfHome : (formatted : Disk) → IsFormatted shape maxlen uuid wide old formatted → disk ≡ flushed formatted Home → IsMakeMoment shape maxlen uuid wide old disk

-- an opening made the calls that are due for what it read, and home is what the log's complete transactions leave
pub record IsRecovered (old new : DeviceState) : Type 0 where
  pub superblock : List ℕ
  pub next : ℕ
  pub opening : IsOpening old.shape old.disk new.disk superblock next
  pub calls : IsDone old new

-- an opening was done, with this next number and this report
pub record IsOpeningTold (old new : DeviceState) (clean : Bool) (ends_at transactions next : ℕ) : Type 0 where
  pub superblock : List ℕ
  pub opening : IsOpening old.shape old.disk new.disk superblock next
  pub tells : Tells old.shape (reading old.disk) clean ends_at transactions

-- an opening's line or object was written. If reads were correct, the opening was so. It has no number if none is left for the next opening
pub record SaysOpened (json : Bool) (honest : Type 0) (old new : DeviceState) (before written : Option (List ℕ)) : Type 0 where
  pub clean : Bool
  pub ends_at : ℕ
  pub transactions : ℕ
  pub next : ℕ
  pub said : Appends before written (recovered_text json clean ends_at transactions next)
  pub told : honest → IsOpeningTold old new clean ends_at transactions next

-- an upgrade was done: the log was empty, and the calls due for its superblock were made
pub record HasUpgraded (old new : DeviceState) : Type 0 where
  pub sequence : ℕ
  pub is : IsUpgraded old new sequence

-- what an upgrade leaves, whatever its result: it was done, or it only read, or it made some of its calls
abbrev pub IsUpgradeLeft : DeviceState → DeviceState → Type 0
IsUpgradeLeft old new = HasUpgraded old new ⊎ IsUpgradeBroken old new

-- an opening in spite of damage took these transactions, and this is the report on them
pub record IsTakenBefore (old new : DeviceState) (taken : TakenLog) : Type 0 where
  pub texts : List Text
  pub greatest : ℕ
  pub superblock : List ℕ
  pub opening : IsOpeningBefore old.shape old.disk new.disk texts greatest taken.stopped_by superblock taken.next
  pub calls : HasDoneBefore old new taken.stopped_by superblock taken.next
  pub tells : TellsBefore (reading old.disk) texts taken.report.clean taken.report.ends_at taken.report.transactions

-- an opening in spite of damage was done
pub record IsRecoveredBefore (old new : DeviceState) : Type 0 where
  pub taken : TakenLog
  pub is : IsTakenBefore old new taken

-- an opening would do this, in spite of damage or not
pub record IsPlanOf (before_damage : Bool) (state : DeviceState) (p : Planned) : Type 0 where
  pub plain : before_damage ≡ false →
      IsPlanned state.shape state.disk p.plan.report.clean p.plan.report.ends_at p.plan.report.transactions p.plan.blocks p.plan.next × (p.stopped_by ≡ None)
  pub before : before_damage ≡ true →
      IsPlannedBefore state.shape state.disk p.stopped_by p.plan.report.clean p.plan.report.ends_at p.plan.report.transactions p.plan.blocks p.plan.next

-- it was found out
pub record IsFoundOut (before_damage : Bool) (state : DeviceState) : Type 0 where
  pub planned : Planned
  pub is : IsPlanOf before_damage state planned

-- why an opening is refused, in spite of damage or not
abbrev pub IsRefusalOf : (before_damage : Bool) → (honest : Type 0) → DeviceState → DeviceState → JournalError → Type 0
IsRefusalOf true honest old new e = BeforeRefused honest old new e
IsRefusalOf false honest old new e = OpeningRefused honest old new e

-- what `recover` did, by its options
abbrev pub Recovers : (dry_run before_damage : Bool) → DeviceState → DeviceState → Type 0
Recovers true before_damage old new = IsFoundOut before_damage old
Recovers false true old new = IsRecoveredBefore old new
Recovers false false old new = IsRecovered old new

-- what it goes through, by its options, also where it is refused: the moments of its opening, if reads were correct; a dry run only reads
abbrev pub PassesAs : (dry_run before_damage : Bool) → (honest : Type 0) → DeviceState → DeviceState → Type 0
PassesAs true before_damage honest old new = Stays old new
PassesAs false true honest old new = honest → EachMoment (IsMomentBefore old.shape old.disk) old new
PassesAs false false honest old new = honest → EachMoment (IsMoment old.shape old.disk) old new

-- an opening of a device in this state was refused for such a cause, and afterwards the device was at most read
pub record IsRefusedBy {V : Type 0} (Refusal : (honest : Type 0) → DeviceState → DeviceState → JournalError → Type 0) (state : V → DeviceState) (honest : V → Type 0) (old : DeviceState) (new : V) : Type 0 where
  pub left : V
  pub e : JournalError
  pub is : Refusal (honest left) old (state left) e
  pub stays : Stays (state left) (state new)
  pub trust : honest new → honest left
