-- A plan says what the opening does.
use Rattle.std.proofs.Common.{refl, sym, ◌∙◌, arith, inl, inr}
use Rattle.std.specs.Prelude.{◌≡◌, ◌≢◌, ℕ, ◌+◌, ◌<◌, ◌==◌, Bool, List, [], ◌∷◌, length}
use Rattle.std.proofs.lemmas.Bool.{cases_eq}
use Rattle.journal_model.specs.declared.refusal.JournalError.{JournalError}
use Rattle.journal_model.specs.Disk.{Disk, Shape, reading}
use Rattle.log_model.specs.declared.log.Text.{Text}
use Rattle.log_model.specs.Superblock.{Super}
use Rattle.block_device.specs.State.{DeviceState, Stays}
use Rattle.block_device.proofs.OneCall.{stays-joins}
use Rattle.log_scan.specs.Scanning.{IsChainOf}
use Rattle.log_epochs.specs.OpeningSteps.{Found}
use Rattle.recovery.specs.Gather.{IsReplayRefused, TablesValue, tables_of}
use Rattle.recovery.specs.HomeCopies.{home_copies}
use Rattle.recovery.specs.Opening.{IsExaminedOn, IsRingRefusal, IsWellRead, OpeningRefused}
use Rattle.recovery.specs.Opening.IsRingRefusal.{NamesDamaged}
use Rattle.recovery.specs.Planned.{IsPlanned}
use Rattle.recovery.proofs.Examining.{content-refused, failure-refused, later-failure, on-stays, ring-content, ring-device, ring-memory}
use Rattle.recovery.proofs.Recovering.{examined-next, examined-tells}

-- without texts no copy goes home
no-texts : (texts : List Text) → length texts ≡ 0 → length (home_copies texts) ≡ 0
no-texts [] none = refl
no-texts (t ∷ ts) none = absurd (omega arith)

-- the copies counted are those that go home; in a clean log none
pub planned-blocks : (s : DeviceState) (t : DeviceState) (fields : Super) (transactions blocks : ℕ) (tables : TablesValue) (texts : List Text) → Stays s t →
    (fields.s_start ≢ 0 → IsChainOf fields s.shape.home_blocks (reading s.disk) texts) → transactions ≡ length texts →
    (fields.s_start ≢ 0 → tables ≡ tables_of fields.s_sequence texts) → (fields.s_start ≡ 0 → transactions ≡ 0) →
    ((ts : List Text) → IsChainOf fields t.shape.home_blocks (reading t.disk) ts → transactions ≡ length ts → tables ≡ tables_of fields.s_sequence ts → blocks ≡ length (home_copies ts)) →
    (transactions ≡ 0 → blocks ≡ 0) → blocks ≡ length (home_copies texts)
planned-blocks s t fields transactions blocks tables texts stays chain number are clean counted none =
    elim (cases_eq fields.s_start 0) [
      | inl start ↦ let empty = clean start in none empty ∙ sym (no-texts texts (sym number ∙ empty))
      | inr started ↦
          on-stays (λ (m : Shape) (d : Disk). (ts : List Text) → IsChainOf fields m.home_blocks (reading d) ts → transactions ≡ length ts → tables ≡ tables_of fields.s_sequence ts → blocks ≡ length (home_copies ts))
          s t stays counted texts (chain started) number (are started)
    ]

-- what was examined and counted is the plan of an opening
pub is-planned : (s t : DeviceState) (superblock : List ℕ) (fields : Super) (transactions : ℕ) (tables : TablesValue) (found : Found) →
    IsExaminedOn s.shape s.disk superblock fields transactions tables found → Stays s t → (fields.s_start ≡ 0 → transactions ≡ 0) → (clean : Bool) (ends_at blocks next : ℕ) →
    clean ≡ (fields.s_start == 0) → ends_at ≡ fields.s_sequence + transactions → next ≡ fields.s_sequence + transactions + 1 →
    ((ts : List Text) → IsChainOf fields t.shape.home_blocks (reading t.disk) ts → transactions ≡ length ts → tables ≡ tables_of fields.s_sequence ts → blocks ≡ length (home_copies ts)) →
    (transactions ≡ 0 → blocks ≡ 0) → IsPlanned s.shape s.disk clean ends_at transactions blocks next
is-planned s t superblock fields transactions tables found on stays empty clean ends_at blocks next reported ends number counted none = record {
  found = found;
  is = on.is;
  tells = examined-tells s superblock fields transactions tables found on clean ends_at reported ends;
  blocks_are = planned-blocks s t fields transactions blocks tables found.texts stays on.texts on.count on.tables_are empty counted none;
  next_is = examined-next s superblock fields transactions tables found on next number;
}

-- a log with transactions is not clean
has-started : (fields : Super) (transactions : ℕ) → (fields.s_start ≡ 0 → transactions ≡ 0) → 0 < transactions → fields.s_start ≢ 0
has-started fields transactions clean some start = let none = clean start in omega arith

-- why there is no plan
pub plan-refused : (honest : Type 0) (s t u : DeviceState) (superblock : List ℕ) (fields : Super) (transactions : ℕ) (tables : TablesValue) (e : JournalError) →
    IsWellRead s.shape superblock fields → Stays s t → Stays t u → t.faults ≡ s.faults →
    (honest → (found : Found) × IsExaminedOn s.shape s.disk superblock fields transactions tables found) → (fields.s_start ≡ 0 → transactions ≡ 0) →
    IsReplayRefused honest fields transactions t u e → OpeningRefused honest s u e
plan-refused honest s t u superblock fields transactions tables e well first second same on clean (inl failure) =
    failure-refused honest s u e (stays-joins s t u first second) (later-failure s t u e same failure)
plan-refused honest s t u superblock fields transactions tables e well first second same on clean (inr otherwise) =
    let named : IsRingRefusal fields.s_first fields.s_maxlen e = NamesDamaged e otherwise.names in
    content-refused honest s u e (stays-joins s t u first second) (otherwise.no_fault ∙ same) (ring-device fields.s_first fields.s_maxlen e named)
    (ring-memory fields.s_first fields.s_maxlen e named) (ring-content s.shape superblock fields e well named)
    (λ trust.
    let examined = on trust in
    absurd
    (on-stays (λ (m : Shape) (d : Disk). (texts : List Text) → IsChainOf fields m.home_blocks (reading d) texts → transactions ≡ length texts → ⊥) s t first
    (otherwise.never trust) examined.0.texts (examined.1.texts (has-started fields transactions clean otherwise.some)) examined.1.count))
