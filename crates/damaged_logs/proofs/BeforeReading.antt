-- What is taken of a log whose refusals are passed over, and why it is refused nevertheless.
use Rattle.std.proofs.Common.{refl, sym, ◌∙◌, ap, subst, arith, inl, inr}
use Rattle.std.specs.Prelude.{◌≡◌, ◌≢◌, ℕ, ◌+◌, ◌<◌, ◌≤◌, ◌==◌, true, List, length, Option, None, Some, MatchOption}
use Rattle.std.proofs.lemmas.Bool.{cases_eq}
use Rattle.std.proofs.lemmas.Bool.Decides.{nat_tests}
use Rattle.journal_model.specs.declared.number.Area.TheVariants.{Log}
use Rattle.journal_model.specs.declared.refusal.JournalError.{JournalError}
use Rattle.journal_model.specs.declared.refusal.JournalError.TheVariants.{BadLength, Memory, SequenceEnd}
use Rattle.journal_model.specs.Disk.{Disk, Image, Shape, reading}
use Rattle.log_model.specs.declared.log.Text.{Text}
use Rattle.log_model.specs.Chain.{IsAhead}
use Rattle.log_model.specs.Opening.{IsRefused, greatest_number, ring_of, super_of}
use Rattle.log_model.specs.Opening.IsRefused.{ByAhead, ByDamage, ByNumber, BySuperblock as RefusedBySuperblock}
use Rattle.log_model.specs.Superblock.{Super, super_in}
use Rattle.block_device.specs.State.{DeviceState, IsDeviceFailure, Stays}
use Rattle.block_device.proofs.OneCall.{stays-joins}
use Rattle.log_scan.specs.Finding.{most_bytes}
use Rattle.log_scan.proofs.Listed.{damage-around}
use Rattle.log_epochs.proofs.Keeping.{one-limit}
use Rattle.recovery.specs.Gather.{IsGatherRefused, TablesValue, tables_of}
use Rattle.recovery.specs.Opening.{IsReadingRefused, IsRefusedLog, IsTested, IsWellRead}
use Rattle.recovery.proofs.Examining.{IsLayout, later-failure, limit-image, on-stays, refused-image, taken}
use Rattle.damaged_logs.specs.Before.{AreTaken, BeforeRefused, HasGreatest, IsGreatest, IsPassedOver, Takes}
use Rattle.damaged_logs.specs.Before.AreTaken.{OfChain, OfClean}
use Rattle.damaged_logs.specs.Before.BeforeRefused.{ByDevice, ByMemory, ByNumber as RefusedByNumber, ByReading, BySuperblock}
use Rattle.damaged_logs.specs.BeforeSteps.{HoldsTexts, IsReadBeforeOn, IsSurveyed}
use Rattle.log_scan.specs.Scanning.{IsChainOf}

-- an image that passes the tests is refused only for its numbers
not-refused : (shape : Shape) (image : Image) (transactions : ℕ) → IsLayout shape image → IsTested (super_of image) shape.home_blocks image transactions →
    (e : JournalError) → e ≢ SequenceEnd → IsRefused shape image e → ⊥
not-refused shape image transactions is tested e other (RefusedBySuperblock f refused) = let accepted = is.accepted in cc
not-refused shape image transactions is tested e other (ByDamage k damaged) = (tested.has.scanned damaged.started.started).are.undamaged k damaged.damaged
not-refused shape image transactions is tested e other (ByAhead limit place has ahead lowest) =
    tested.none_ahead place
    (subst (λ (n : ℕ). IsAhead (ring_of (super_of image)) image n place)
    (one-limit shape image limit ((super_of image).s_sequence + transactions) has (limit-image shape image transactions is tested.has)) ahead)
not-refused shape image transactions is tested e other (ByNumber limit has none great) = other refl

-- the refusal that is passed over
passed-over : (shape : Shape) (image : Image) (transactions : ℕ) (stopped : Option JournalError) → IsLayout shape image →
    MatchOption stopped (IsTested (super_of image) shape.home_blocks image transactions) (λ e. (e ≢ SequenceEnd) × IsRefusedLog (super_of image) shape.home_blocks image e) →
    IsPassedOver shape image stopped
passed-over shape image transactions None is tested = not-refused shape image transactions is tested
passed-over shape image transactions (Some e) is refused = (refused.0, refused-image shape image e is refused.1)

-- the texts that a log holds are taken of its image
taken-texts : (shape : Shape) (image : Image) (texts : List Text) → IsLayout shape image → HoldsTexts (super_of image) shape.home_blocks image texts → AreTaken shape image texts
taken-texts shape image texts is holds =
    elim (cases_eq (super_of image).s_start 0) [
      | inl clean ↦ subst (AreTaken shape image) (sym (holds.clean clean)) (OfClean (record { accepted = is.accepted; clean = clean }))
      | inr started ↦ OfChain texts (record { accepted = is.accepted; started = started }) (holds.started started)
    ]

-- what is taken of a disk
pub record IsTakenOn (shape : Shape) (disk : Disk) (fields : Super) (transactions greatest : ℕ) (stopped : Option JournalError) : Type 0 where
  pub texts : List Text
  pub takes : Takes shape (reading disk) texts greatest stopped
  pub holds : HoldsTexts fields shape.home_blocks (reading disk) texts
  pub count : transactions ≡ length texts

-- what was surveyed is taken
pub taken-on : (s t : DeviceState) (superblock : List ℕ) (fields : Super) (transactions greatest : ℕ) (stopped : Option JournalError) → IsWellRead s.shape superblock fields →
    superblock ≡ reading s.disk Log 0 → Stays s t → IsSurveyed fields t.shape.home_blocks (reading t.disk) transactions greatest stopped →
    IsTakenOn s.shape s.disk fields transactions greatest stopped
taken-on s t superblock fields transactions greatest stopped well read stays found =
    let image : Image = reading s.disk in
    let same : fields ≡ super_of image = well.fields_are ∙ ap super_in read in
    let is = taken s.shape image superblock fields well read in
    let own : IsSurveyed fields s.shape.home_blocks image transactions greatest stopped =
    on-stays (λ (m : Shape) (d : Disk). IsSurveyed fields m.home_blocks (reading d) transactions greatest stopped) s t stays found in
    let there : IsSurveyed (super_of image) s.shape.home_blocks image transactions greatest stopped =
    subst (λ (f : Super). IsSurveyed f s.shape.home_blocks image transactions greatest stopped) same own in
    record {
      texts = there.texts;
      takes = record {
        taken = taken-texts s.shape image there.texts is there.holds;
        greatest_is =
            subst (λ (n : ℕ). IsGreatest (super_of image) image n greatest) (ap (λ (n : ℕ). (super_of image).s_sequence + n) there.number) there.greatest_is;
        passed_over = passed-over s.shape image transactions stopped is there.stopped_is;
      };
      holds = subst (λ (f : Super). HoldsTexts f s.shape.home_blocks image there.texts) (sym same) there.holds;
      count = there.number;
    }

-- its greatest number is known
greatest-on : (shape : Shape) (disk : Disk) (fields : Super) (transactions greatest : ℕ) (stopped : Option JournalError) →
    IsTakenOn shape disk fields transactions greatest stopped → HasGreatest shape (reading disk) greatest
greatest-on shape disk fields transactions greatest stopped is = record { texts = is.texts; stopped = stopped; takes = is.takes }

-- refused: the device failed
pub before-failure : (honest : Type 0) (s t : DeviceState) (e : JournalError) → IsDeviceFailure s t e → BeforeRefused honest s t e
before-failure honest s t e (is, counted) = subst (BeforeRefused honest s t) (sym is) (ByDevice counted)

-- refused after calls that did not fail
pub before-later : (honest : Type 0) (s t u : DeviceState) (e : JournalError) → t.faults ≡ s.faults → IsDeviceFailure t u e → BeforeRefused honest s u e
before-later honest s t u e same failure = before-failure honest s u e (later-failure s t u e same failure)

-- refused: memory ran out
memory-before : (honest : Type 0) (s t : DeviceState) (e : JournalError) → e ≡ Memory → Stays s t → t.faults ≡ s.faults →
    (honest → s.shape.block_size ≤ most_bytes → (greatest : ℕ) × HasGreatest s.shape (reading s.disk) greatest × (greatest < greatest_number)) → BeforeRefused honest s t e
memory-before honest s t e is stays same known = subst (BeforeRefused honest s t) (sym is) (ByMemory stays same known)

-- refused: block 0 is refused, or could not be read
pub reading-before : (honest : Type 0) (s t : DeviceState) (e : JournalError) → Stays s t → IsReadingRefused honest s t e → BeforeRefused honest s t e
reading-before honest s t e stays (inl failure) = before-failure honest s t e failure
reading-before honest s t e stays (inr (inl (memory, same, large))) = memory-before honest s t e memory stays same (λ trust small. absurd (omega arith))
reading-before honest s t e stays (inr (inr (listed, same, refused))) = BySuperblock e stays same listed refused

-- refused: no number is left
pub numbers-before : (honest : Type 0) (s t u : DeviceState) (superblock : List ℕ) (fields : Super) (transactions greatest : ℕ) (stopped : Option JournalError) →
    IsWellRead s.shape superblock fields → (honest → superblock ≡ reading s.disk Log 0) → Stays s t → Stays t u → u.faults ≡ s.faults → greatest_number ≤ greatest →
    (honest → IsSurveyed fields t.shape.home_blocks (reading t.disk) transactions greatest stopped) → BeforeRefused honest s u SequenceEnd
numbers-before honest s t u superblock fields transactions greatest stopped well read first second same great found =
    RefusedByNumber (stays-joins s t u first second) same
    (λ trust. (
      greatest,
      greatest-on s.shape s.disk fields transactions greatest stopped
          (taken-on s t superblock fields transactions greatest stopped well (read trust) first (found trust)),
      great,
    ))

-- refused: memory ran out after the survey
pub want-before : (honest : Type 0) (s t u : DeviceState) (superblock : List ℕ) (fields : Super) (transactions greatest : ℕ) (stopped : Option JournalError) (e : JournalError) →
    IsWellRead s.shape superblock fields → (honest → superblock ≡ reading s.disk Log 0) → Stays s t → Stays t u → u.faults ≡ s.faults → greatest < greatest_number →
    (honest → IsSurveyed fields t.shape.home_blocks (reading t.disk) transactions greatest stopped) → e ≡ Memory → BeforeRefused honest s u e
want-before honest s t u superblock fields transactions greatest stopped e well read first second same small found memory =
    memory-before honest s u e memory (stays-joins s t u first second) same
    (λ trust fits. (
      greatest,
      greatest-on s.shape s.disk fields transactions greatest stopped
          (taken-on s t superblock fields transactions greatest stopped well (read trust) first (found trust)),
      small,
    ))

-- the texts of a log with some are those of its chain
pub chain-held : (s : Super) (count : ℕ) (image : Image) (texts : List Text) (transactions : ℕ) → HoldsTexts s count image texts → transactions ≡ length texts → 0 < transactions →
    IsChainOf s count image texts
chain-held s count image texts transactions holds number some =
    holds.started (λ clean. let none = ap length (holds.clean clean) in absurd (omega arith))

-- refused: gathering failed
pub gather-before : (honest : Type 0) (s t u v : DeviceState) (superblock : List ℕ) (fields : Super) (transactions greatest : ℕ) (stopped : Option JournalError) (e : JournalError) →
    IsWellRead s.shape superblock fields → (honest → superblock ≡ reading s.disk Log 0) → Stays s t → Stays t u → Stays u v → u.faults ≡ s.faults → greatest < greatest_number →
    (honest → IsSurveyed fields t.shape.home_blocks (reading t.disk) transactions greatest stopped) → IsGatherRefused honest fields transactions u v e → BeforeRefused honest s v e
gather-before honest s t u v superblock fields transactions greatest stopped e well read first second third same small found (inl (inl failure)) =
    before-later honest s u v e same failure
gather-before honest s t u v superblock fields transactions greatest stopped e well read first second third same small found (inl (inr (memory, kept))) =
    want-before honest s t v superblock fields transactions greatest stopped e well read first (stays-joins t u v second third) (kept ∙ same) small found memory
gather-before honest s t u v superblock fields transactions greatest stopped e well read first second third same small found (inr otherwise) =
    let behind = well.accepted.behind in
    ByReading e
    (λ trust.
    let is = taken-on s t superblock fields transactions greatest stopped well (read trust) first (found trust) in
    on-stays (λ (m : Shape) (d : Disk). (texts : List Text) → IsChainOf fields m.home_blocks (reading d) texts → transactions ≡ length texts → ⊥) s u
    (stays-joins s t u first second) (otherwise.never trust) is.texts
    (chain-held fields s.shape.home_blocks (reading s.disk) is.texts transactions is.holds is.count otherwise.some) is.count)
    (otherwise.no_fault ∙ same) (damage-around fields.s_first fields.s_maxlen 1 s.shape.log_blocks e (omega arith) well.accepted.within otherwise.names)
    (inl (stays-joins s u v (stays-joins s t u first second) third))

-- refused: the log area has no block
pub no-log-before : (honest : Type 0) (s : DeviceState) → s.shape.log_blocks ≡ 0 → BeforeRefused honest s s BadLength
no-log-before honest s none =
    BySuperblock BadLength (record { shape = refl; disk = refl; past = refl }) refl (inr (inr (inr (inl refl))))
    (λ trust. let test : (s.shape.log_blocks == 0) ≡ true = grind (arith, nat_tests) in rw test refl)

-- what was read stands on the disk
pub read-on : (s t u : DeviceState) (superblock block : List ℕ) (fields : Super) (transactions : ℕ) (tables : TablesValue) (greatest : ℕ) (stopped : Option JournalError) →
    IsWellRead s.shape block fields → superblock ≡ block → block ≡ reading s.disk Log 0 → Stays s t → Stays t u →
    IsSurveyed fields t.shape.home_blocks (reading t.disk) transactions greatest stopped →
    ((texts : List Text) → IsChainOf fields u.shape.home_blocks (reading u.disk) texts → transactions ≡ length texts → tables ≡ tables_of fields.s_sequence texts) →
    (texts : List Text) × IsReadBeforeOn s.shape s.disk superblock fields transactions tables greatest stopped texts
read-on s t u superblock block fields transactions tables greatest stopped well copied read first second found gathered =
    let is = taken-on s t block fields transactions greatest stopped well read first found in (
      is.texts,
      record {
        takes = is.takes;
        superblock_is = copied ∙ read;
        fields_are = well.fields_are ∙ ap super_in read;
        count = is.count;
        holds = is.holds;
        tables_are = λ started.
            on-stays (λ (m : Shape) (d : Disk). (texts : List Text) → IsChainOf fields m.home_blocks (reading d) texts → transactions ≡ length texts → tables ≡ tables_of fields.s_sequence texts)
            s u (stays-joins s t u first second) gathered is.texts (is.holds.started started) is.count;
      },
    )
