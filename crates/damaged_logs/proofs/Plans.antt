-- A plan says what the opening in spite of damage does.
use Rattle.std.proofs.Common.{◌∙◌, arith, inl, inr}
use Rattle.std.specs.Prelude.{◌≡◌, ℕ, ◌+◌, ◌==◌, Bool, List, length, Option}
use Rattle.journal_model.specs.declared.refusal.JournalError.{JournalError}
use Rattle.journal_model.specs.Disk.{Disk, Shape, reading}
use Rattle.log_model.specs.declared.log.Text.{Text}
use Rattle.log_model.specs.Superblock.{Super}
use Rattle.block_device.specs.State.{DeviceState, Stays}
use Rattle.block_device.proofs.OneCall.{stays-joins}
use Rattle.log_scan.specs.Scanning.{IsChainOf}
use Rattle.log_scan.proofs.Listed.{damage-around}
use Rattle.recovery.specs.Gather.{IsReplayRefused, TablesValue, tables_of}
use Rattle.recovery.specs.HomeCopies.{home_copies}
use Rattle.recovery.specs.Opening.{IsWellRead}
use Rattle.recovery.proofs.Examining.{on-stays}
use Rattle.recovery.proofs.Plans.{planned-blocks}
use Rattle.damaged_logs.specs.Before.{BeforeRefused}
use Rattle.damaged_logs.specs.Before.BeforeRefused.{ByReading}
use Rattle.damaged_logs.specs.BeforeSteps.{IsReadBefore, IsReadBeforeOn}
use Rattle.damaged_logs.specs.Planned.{IsPlannedBefore}
use Rattle.damaged_logs.proofs.BeforeReading.{before-later, chain-held}
use Rattle.damaged_logs.proofs.BeforeRecovering.{read-tells}

-- the plan of one that takes the transactions before the damage
pub is-planned-before : (s t : DeviceState) (superblock : List ℕ) (fields : Super) (transactions greatest : ℕ) (stopped : Option JournalError) →
    IsReadBefore s.shape superblock fields transactions greatest stopped → (tables : TablesValue) (texts : List Text) →
    IsReadBeforeOn s.shape s.disk superblock fields transactions tables greatest stopped texts → Stays s t → (clean : Bool) (ends_at blocks next : ℕ) →
    clean ≡ (fields.s_start == 0) → ends_at ≡ fields.s_sequence + transactions → next ≡ greatest + 1 →
    ((ts : List Text) → IsChainOf fields t.shape.home_blocks (reading t.disk) ts → transactions ≡ length ts → tables ≡ tables_of fields.s_sequence ts → blocks ≡ length (home_copies ts)) →
    (transactions ≡ 0 → blocks ≡ 0) → IsPlannedBefore s.shape s.disk stopped clean ends_at transactions blocks next
is-planned-before s t superblock fields transactions greatest stopped is tables texts on stays clean ends_at blocks next reported ends number counted none = record {
  texts = texts;
  greatest = greatest;
  takes = on.takes;
  tells = read-tells s superblock fields transactions greatest stopped is tables texts on clean ends_at reported ends;
  blocks_are = planned-blocks s t fields transactions blocks tables texts stays on.holds.started on.count on.tables_are is.clean counted none;
  next_is = number;
}

-- there is no plan
pub plan-refused-before : (honest : Type 0) (s t u : DeviceState) (superblock : List ℕ) (fields : Super) (transactions greatest : ℕ) (stopped : Option JournalError) (tables : TablesValue) (e : JournalError) →
    IsWellRead s.shape superblock fields → Stays s t → Stays t u → t.faults ≡ s.faults →
    (honest → (texts : List Text) × IsReadBeforeOn s.shape s.disk superblock fields transactions tables greatest stopped texts) →
    IsReplayRefused honest fields transactions t u e → BeforeRefused honest s u e
plan-refused-before honest s t u superblock fields transactions greatest stopped tables e well first second same on (inl failure) = before-later honest s t u e same failure
plan-refused-before honest s t u superblock fields transactions greatest stopped tables e well first second same on (inr otherwise) =
    let behind = well.accepted.behind in
    ByReading e
    (λ trust.
    let read = on trust in
    on-stays (λ (m : Shape) (d : Disk). (texts : List Text) → IsChainOf fields m.home_blocks (reading d) texts → transactions ≡ length texts → ⊥) s t first
    (otherwise.never trust) read.0 (chain-held fields s.shape.home_blocks (reading s.disk) read.0 transactions read.1.holds read.1.count otherwise.some) read.1.count)
    (otherwise.no_fault ∙ same) (damage-around fields.s_first fields.s_maxlen 1 s.shape.log_blocks e (omega arith) well.accepted.within otherwise.names)
    (inl (stays-joins s t u first second))
