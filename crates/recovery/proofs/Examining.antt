-- What a log that was read and tested says of its image, and why an opening refuses it.
use Rattle.std.proofs.Common.{refl, sym, ◌∙◌, ap, subst, arith, inl, inr}
use Rattle.std.specs.Prelude.{◌≡◌, ◌≢◌, ℕ, ◌+◌, ◌<◌, ◌≤◌, ◌==◌, true, List, [], length, None}
use Rattle.std.proofs.lemmas.Bool.{cases_eq}
use Rattle.std.proofs.lemmas.Bool.Decides.{nat_tests}
use Rattle.log_model.specs.declared.log.Text.{Text}
use Rattle.journal_model.specs.declared.number.Area.TheVariants.{Log}
use Rattle.journal_model.specs.declared.refusal.JournalError.{JournalError}
use Rattle.journal_model.specs.declared.refusal.JournalError.TheVariants.{BadLength, Device, Memory}
use Rattle.log_model.specs.Chain.{IsAhead}
use Rattle.journal_model.specs.Disk.{Disk, Image, Shape, reading}
use Rattle.log_model.specs.Opening.{HasChain, HasLimit, IsDamagedImage, IsRefused, greatest_number, layout_of, log_lap, ring_of, super_of}
use Rattle.log_model.specs.Opening.HasLimit.{OfChain, OfClean}
use Rattle.log_model.specs.Opening.IsRefused.{ByAhead, ByDamage, ByNumber, BySuperblock}
use Rattle.log_model.specs.Superblock.{Super, super_in, super_refusal}
use Rattle.block_device.specs.State.{DeviceState, IsDeviceFailure, Stays, one_more_fault}
use Rattle.block_device.proofs.OneCall.{stays-joins}
use Rattle.log_model.proofs.ReadingTexts.{one_chain_of}
use Rattle.log_scan.specs.Finding.{most_bytes}
use Rattle.log_scan.specs.Scanning.{AreTextsOf, IsChainOf}
use Rattle.log_scan.proofs.Listed.{damage-around, damage-device, damage-memory, super-device, super-memory}
use Rattle.log_epochs.specs.OpeningSteps.{Found, HasTexts, IsFound}
use Rattle.log_epochs.specs.OpeningSteps.HasTexts.{NoTexts, Texts}
use Rattle.log_epochs.specs.OpeningRun.{IsFoundOn}
use Rattle.recovery.specs.Gather.{IsGatherRefused, TablesValue, tables_of}
use Rattle.recovery.specs.Opening.{HasTransactions, IsContentRefusal, IsExaminedOn, IsNotRefused, IsReadingRefused, IsRefusedLog, IsRingRefusal, IsTested, IsTestRefused, IsWellRead, OpeningRefused}
use Rattle.recovery.specs.Opening.IsRingRefusal.{NamesAhead, NamesDamaged, NoNumber}
use Rattle.recovery.specs.Opening.IsRefusedLog.{ForAhead, ForDamage, ForNumber}

-- block 0 of the image is accepted
pub record IsLayout (shape : Shape) (image : Image) : Type 0 where
  pub size : length (image Log 0) ≡ shape.block_size
  pub accepted : super_refusal shape (image Log 0) ≡ None

-- an accepted superblock that was read makes it so
pub taken : (shape : Shape) (image : Image) (superblock : List ℕ) (fields : Super) → IsWellRead shape superblock fields → superblock ≡ image Log 0 → IsLayout shape image
taken shape image superblock fields well read =
    record { size = ap length (sym read) ∙ well.size; accepted = ap (super_refusal shape) (sym read) ∙ well.tested }

-- a log that is not clean has a chain in its image
chain-image : (shape : Shape) (image : Image) (texts : List Text) → IsLayout shape image → (super_of image).s_start ≢ 0 →
    AreTextsOf (super_of image) shape.home_blocks image texts → HasChain shape image texts
chain-image shape image texts is started are = record {
  started = record { accepted = is.accepted; started = started };
  chain = are.chain;
  undamaged = λ k damaged. are.undamaged k damaged.damaged;
}

-- the image's limit follows from its transactions
pub limit-image : (shape : Shape) (image : Image) (transactions : ℕ) → IsLayout shape image → HasTransactions (super_of image) shape.home_blocks image transactions →
    HasLimit shape image ((super_of image).s_sequence + transactions)
limit-image shape image transactions is has =
    elim (cases_eq (super_of image).s_start 0) [
      | inl clean ↦
          let none : transactions ≡ 0 = has.clean clean in
          let same : (super_of image).s_sequence ≡ (super_of image).s_sequence + transactions = omega arith in
          subst (HasLimit shape image) same (OfClean (record { accepted = is.accepted; clean = clean }))
      | inr started ↦
          let scanned = has.scanned started in
          subst (λ (n : ℕ). HasLimit shape image ((super_of image).s_sequence + n)) (sym scanned.number)
          (OfChain scanned.texts (chain-image shape image scanned.texts is started scanned.are))
    ]

-- a refusal of the log is one of the image
pub refused-image : (shape : Shape) (image : Image) (e : JournalError) → IsLayout shape image → IsRefusedLog (super_of image) shape.home_blocks image e →
    IsRefused shape image e
refused-image shape image e is (ForDamage f started damage) =
    subst (IsRefused shape image) (sym damage.refusal)
    (ByDamage damage.k (record { started = record { accepted = is.accepted; started = started }; damaged = damage.damaged }))
refused-image shape image e is (ForAhead transactions place has lowest) =
    ByAhead ((super_of image).s_sequence + transactions) place (limit-image shape image transactions is has) lowest.ahead lowest.lowest
refused-image shape image e is (ForNumber transactions has none great) =
    ByNumber ((super_of image).s_sequence + transactions) (limit-image shape image transactions is has) none great

-- the disk has what the tests found
record Finds (shape : Shape) (disk : Disk) (transactions : ℕ) : Type 0 where
  found : Found
  is : IsFoundOn shape found disk
  count : transactions ≡ length found.texts
  texts : (super_of (reading disk)).s_start ≢ 0 → IsChainOf (super_of (reading disk)) shape.home_blocks (reading disk) found.texts

-- in a clean log, no texts
finds-clean : (shape : Shape) (disk : Disk) (transactions : ℕ) → IsLayout shape (reading disk) →
    IsTested (super_of (reading disk)) shape.home_blocks (reading disk) transactions → (super_of (reading disk)).s_sequence + transactions < greatest_number →
    (super_of (reading disk)).s_start ≡ 0 → Finds shape disk transactions
finds-clean shape disk transactions is tested small clean =
    let none : transactions ≡ 0 = tested.has.clean clean in
    let limit : ℕ = (super_of (reading disk)).s_sequence + transactions in
    let end : (super_of (reading disk)).s_sequence ≡ limit = omega arith in
    record {
      found = record { image = reading disk; texts = []; limit = (super_of (reading disk)).s_sequence };
      is = record {
        read = refl;
        good = record {
          size = is.size;
          has = NoTexts (record { accepted = is.accepted; clean = clean });
          none_ahead = rw end tested.none_ahead;
          number = omega arith;
        };
      };
      count = none;
      texts = λ started. absurd (started clean);
    }

-- in any other, those scanned
finds-chain : (shape : Shape) (disk : Disk) (transactions : ℕ) → IsLayout shape (reading disk) →
    IsTested (super_of (reading disk)) shape.home_blocks (reading disk) transactions → (super_of (reading disk)).s_sequence + transactions < greatest_number →
    (super_of (reading disk)).s_start ≢ 0 → Finds shape disk transactions
finds-chain shape disk transactions is tested small started =
    let scanned = tested.has.scanned started in
    let count : transactions ≡ length scanned.texts = scanned.number in
    record {
      found = record { image = reading disk; texts = scanned.texts; limit = (super_of (reading disk)).s_sequence + length scanned.texts };
      is = record {
        read = refl;
        good = record {
          size = is.size;
          has = Texts scanned.texts (chain-image shape (reading disk) scanned.texts is started scanned.are);
          none_ahead = rw count at tested.none_ahead;
          number = omega arith;
        };
      };
      count = count;
      texts = λ other. scanned.are.chain;
    }

finds : (shape : Shape) (disk : Disk) (transactions : ℕ) → IsLayout shape (reading disk) →
    IsTested (super_of (reading disk)) shape.home_blocks (reading disk) transactions → (super_of (reading disk)).s_sequence + transactions < greatest_number →
    Finds shape disk transactions
finds shape disk transactions is tested small =
    elim (cases_eq (super_of (reading disk)).s_start 0) [
      | inl clean ↦ finds-clean shape disk transactions is tested small clean
      | inr started ↦ finds-chain shape disk transactions is tested small started
    ]

-- the disk has what was read, tested and gathered
pub examined-on : (shape : Shape) (disk : Disk) (superblock : List ℕ) (fields : Super) (transactions : ℕ) (tables : TablesValue) → IsWellRead shape superblock fields →
    superblock ≡ reading disk Log 0 → IsTested fields shape.home_blocks (reading disk) transactions → fields.s_sequence + transactions < greatest_number →
    ((texts : List Text) → IsChainOf fields shape.home_blocks (reading disk) texts → transactions ≡ length texts → tables ≡ tables_of fields.s_sequence texts) →
    (found : Found) × IsExaminedOn shape disk superblock fields transactions tables found
examined-on shape disk superblock fields transactions tables well read tested small gathered =
    let same : fields ≡ super_of (reading disk) = well.fields_are ∙ ap super_in read in
    let is : Finds shape disk transactions =
    finds shape disk transactions (taken shape (reading disk) superblock fields well read)
    (subst (λ (s : Super). IsTested s shape.home_blocks (reading disk) transactions) same tested)
    (subst (λ (s : Super). s.s_sequence + transactions < greatest_number) same small) in
    let texts : fields.s_start ≢ 0 → IsChainOf fields shape.home_blocks (reading disk) is.found.texts =
    λ started. subst (λ (s : Super). IsChainOf s shape.home_blocks (reading disk) is.found.texts) (sym same)
    (is.texts (subst (λ (s : Super). s.s_start ≢ 0) same started)) in (
      is.found,
      record {
        is = is.is;
        superblock_is = read ∙ ap (λ (image : Image). image Log 0) (sym is.is.read);
        fields_are = same ∙ ap super_of (sym is.is.read);
        count = is.count;
        texts = texts;
        tables_are = λ started. gathered is.found.texts (texts started) is.count;
      },
    )

-- what holds of a device's shape and disk held before, if nothing changed
pub on-stays : (P : Shape → Disk → Type 0) (s t : DeviceState) → Stays s t → P t.shape t.disk → P s.shape s.disk
on-stays P s t stays known = subst (P s.shape) stays.disk (subst (λ (m : Shape). P m t.disk) stays.shape known)

-- a device failure is a refusal
pub failure-refused : (honest : Type 0) (s t : DeviceState) (e : JournalError) → Stays s t → IsDeviceFailure s t e → OpeningRefused honest s t e
failure-refused honest s t e stays (is, counted) = record {
  device = λ same. counted;
  no_fault = λ other. absurd (other is);
  memory = λ memory. cc;
  content = λ other more. absurd (other is);
}

-- so is lack of memory, if the image is not refused or its blocks exceed any log's
pub memory-refused : (honest : Type 0) (s t : DeviceState) (e : JournalError) → Stays s t → t.faults ≡ s.faults → e ≡ Memory →
    (honest → s.shape.block_size ≤ most_bytes → IsNotRefused s.shape (reading s.disk)) → OpeningRefused honest s t e
memory-refused honest s t e stays same memory sound = record {
  device = λ device. cc;
  no_fault = λ other. same;
  memory = λ same. (stays, sound);
  content = λ other more. absurd (more memory);
}

-- so is the log's content
pub content-refused : (honest : Type 0) (s t : DeviceState) (e : JournalError) → Stays s t → t.faults ≡ s.faults → e ≢ Device → e ≢ Memory →
    IsContentRefusal s.shape e → (honest → IsRefused s.shape (reading s.disk) e) → OpeningRefused honest s t e
content-refused honest s t e stays same other more listed refused = record {
  device = λ device. absurd (other device);
  no_fault = λ not_device. same;
  memory = λ memory. absurd (more memory);
  content = λ not_device not_memory. (inl stays, listed, refused);
}

-- a refusal of the ring is not `Device`
pub ring-device : (first end : ℕ) (e : JournalError) → IsRingRefusal first end e → e ≢ Device
ring-device first end e (NamesDamaged f names) = damage-device first end e names
ring-device first end e (NamesAhead place from below) = λ same. cc
ring-device first end e NoNumber = λ same. cc

pub ring-memory : (first end : ℕ) (e : JournalError) → IsRingRefusal first end e → e ≢ Memory
ring-memory first end e (NamesDamaged f names) = damage-memory first end e names
ring-memory first end e (NamesAhead place from below) = λ same. cc
ring-memory first end e NoNumber = λ same. cc

-- a refusal of the ring is one of any ring around it
ring-around : (first end low high : ℕ) (e : JournalError) → low ≤ first → end ≤ high → IsRingRefusal first end e → IsRingRefusal low high e
ring-around first end low high e under over (NamesDamaged f names) =
    NamesDamaged e (damage-around first end low high e under over names)
ring-around first end low high e under over (NamesAhead place from below) = NamesAhead place (omega arith) (omega arith)
ring-around first end low high e under over NoNumber = NoNumber

-- it is one of content, if the superblock is accepted
pub ring-content : (shape : Shape) (superblock : List ℕ) (fields : Super) (e : JournalError) → IsWellRead shape superblock fields →
    IsRingRefusal fields.s_first fields.s_maxlen e → IsContentRefusal shape e
ring-content shape superblock fields e well names =
    let behind = well.accepted.behind in
    inr (ring-around fields.s_first fields.s_maxlen 1 shape.log_blocks e (omega arith) well.accepted.within names)

-- a refusal in reading block 0 refuses the opening
pub reading-refused : (honest : Type 0) (s t : DeviceState) (e : JournalError) → Stays s t → IsReadingRefused honest s t e → OpeningRefused honest s t e
reading-refused honest s t e stays (inl failure) = failure-refused honest s t e stays failure
reading-refused honest s t e stays (inr (inl (memory, same, large))) =
    memory-refused honest s t e stays same memory (λ trust small. absurd (omega arith))
reading-refused honest s t e stays (inr (inr (listed, same, refused))) =
    content-refused honest s t e stays same (super-device e listed) (super-memory e listed) (inl listed) (λ trust. BySuperblock e (refused trust))

-- so does a log area without a block
pub no-log-refused : (honest : Type 0) (s : DeviceState) → s.shape.log_blocks ≡ 0 → OpeningRefused honest s s BadLength
no-log-refused honest s none =
    content-refused honest s s BadLength (record { shape = refl; disk = refl; past = refl }) refl (λ e. cc) (λ e. cc)
    (inl (inr (inr (inr (inl refl)))))
    (λ trust. BySuperblock BadLength (let test : (s.shape.log_blocks == 0) ≡ true = grind (arith, nat_tests) in rw test refl))

-- a device failure after reads that did not fail
pub later-failure : (s t u : DeviceState) (e : JournalError) → t.faults ≡ s.faults → IsDeviceFailure t u e → IsDeviceFailure s u e
later-failure s t u e same (is, counted) = (is, counted ∙ ap one_more_fault same)

-- a refusal of the ring refuses the opening
pub test-refused : (honest : Type 0) (s t u : DeviceState) (superblock : List ℕ) (fields : Super) (e : JournalError) → IsWellRead s.shape superblock fields →
    (honest → superblock ≡ reading s.disk Log 0) → Stays s t → Stays t u → t.faults ≡ s.faults → IsTestRefused honest fields t u e → OpeningRefused honest s u e
test-refused honest s t u superblock fields e well read first second same (inl failure) =
    failure-refused honest s u e (stays-joins s t u first second) (later-failure s t u e same failure)
test-refused honest s t u superblock fields e well read first second same (inr (names, kept, refused)) =
    content-refused honest s u e (stays-joins s t u first second) (kept ∙ same) (ring-device fields.s_first fields.s_maxlen e names)
    (ring-memory fields.s_first fields.s_maxlen e names) (ring-content s.shape superblock fields e well names)
    (λ trust.
    let is : fields ≡ super_of (reading s.disk) = well.fields_are ∙ ap super_in (read trust) in
    refused-image s.shape (reading s.disk) e (taken s.shape (reading s.disk) superblock fields well (read trust))
    (subst (λ (f : Super). IsRefusedLog f s.shape.home_blocks (reading s.disk) e) is
    (on-stays (λ (m : Shape) (d : Disk). IsRefusedLog fields m.home_blocks (reading d) e) s t first (refused trust))))

-- an image has one limit
one-limit : (shape : Shape) (image : Image) (limit : ℕ) (texts : List Text) (other : ℕ) → HasTexts shape image texts other → HasLimit shape image limit → limit ≡ other
one-limit shape image limit texts other (NoTexts clean) (OfClean also) = refl
one-limit shape image limit texts other (NoTexts clean) (OfChain others has) = absurd (has.started.started clean.clean)
one-limit shape image limit texts other (Texts ts has) (OfClean clean) = absurd (has.started.started clean.clean)
one-limit shape image limit texts other (Texts ts has) (OfChain others also) =
    ap (λ (xs : List Text). (super_of image).s_sequence + length xs)
    (one_chain_of (layout_of (super_of image)) shape.home_blocks (omega arith) (super_of image).s_sequence (log_lap image) others ts also.chain has.chain)

-- block 0 of an image with these texts is accepted
accepted-texts : (shape : Shape) (image : Image) (texts : List Text) (limit : ℕ) → HasTexts shape image texts limit → super_refusal shape (image Log 0) ≡ None
accepted-texts shape image texts limit (NoTexts clean) = clean.accepted
accepted-texts shape image texts limit (Texts ts has) = has.started.accepted

-- none of its blocks is damaged
undamaged-texts : (shape : Shape) (image : Image) (texts : List Text) (limit k : ℕ) → HasTexts shape image texts limit → IsDamagedImage shape image k → ⊥
undamaged-texts shape image texts limit k (NoTexts clean) damaged = damaged.started.started clean.clean
undamaged-texts shape image texts limit k (Texts ts has) damaged = has.undamaged k damaged

-- what is found in an image is not refused
found-sound : (shape : Shape) (found : Found) → IsFound shape found → IsNotRefused shape found.image
found-sound shape found good e (BySuperblock f refused) = let accepted = accepted-texts shape found.image found.texts found.limit good.has in cc
found-sound shape found good e (ByDamage k damaged) = undamaged-texts shape found.image found.texts found.limit k good.has damaged
found-sound shape found good e (ByAhead limit place has ahead lowest) =
    good.none_ahead place
    (subst (λ (n : ℕ). IsAhead (ring_of (super_of found.image)) found.image n place) (one-limit shape found.image limit found.texts found.limit good.has has) ahead)
found-sound shape found good e (ByNumber limit has none great) =
    let same = one-limit shape found.image limit found.texts found.limit good.has has in
    let small = good.number in
    omega arith

-- a log that was read and tested is not refused
pub tested-sound : (honest : Type 0) (s t : DeviceState) (superblock : List ℕ) (fields : Super) (transactions : ℕ) → IsWellRead s.shape superblock fields →
    (honest → superblock ≡ reading s.disk Log 0) → Stays s t → (honest → IsTested fields t.shape.home_blocks (reading t.disk) transactions) →
    fields.s_sequence + transactions < greatest_number → honest → IsNotRefused s.shape (reading s.disk)
tested-sound honest s t superblock fields transactions well read stays tested small trust =
    let same : fields ≡ super_of (reading s.disk) = well.fields_are ∙ ap super_in (read trust) in
    let is : Finds s.shape s.disk transactions =
    finds s.shape s.disk transactions (taken s.shape (reading s.disk) superblock fields well (read trust))
    (subst (λ (f : Super). IsTested f s.shape.home_blocks (reading s.disk) transactions) same
    (on-stays (λ (m : Shape) (d : Disk). IsTested fields m.home_blocks (reading d) transactions) s t stays (tested trust)))
    (subst (λ (f : Super). f.s_sequence + transactions < greatest_number) same small) in
    subst (IsNotRefused s.shape) is.is.read (found-sound s.shape is.found is.is.good)

-- a scanned log has a chain of as many transactions
never-refused : (fields : Super) (count transactions : ℕ) (image : Image) → IsTested fields count image transactions → 0 < transactions →
    ((texts : List Text) → IsChainOf fields count image texts → transactions ≡ length texts → ⊥) → ⊥
never-refused fields count transactions image tested some other =
    let scanned = tested.has.scanned (λ clean. let none : transactions ≡ 0 = tested.has.clean clean in omega arith) in
    other scanned.texts scanned.are.chain scanned.number

-- why gathering is refused
pub gather-refused : (honest : Type 0) (s t u v : DeviceState) (superblock : List ℕ) (fields : Super) (transactions : ℕ) (e : JournalError) →
    IsWellRead s.shape superblock fields → Stays s t → Stays t u → Stays u v → u.faults ≡ s.faults →
    (honest → IsTested fields t.shape.home_blocks (reading t.disk) transactions) → (honest → IsNotRefused s.shape (reading s.disk)) →
    IsGatherRefused honest fields transactions u v e → OpeningRefused honest s v e
gather-refused honest s t u v superblock fields transactions e well first second third same tested sound (inl (inl failure)) =
    failure-refused honest s v e (stays-joins s u v (stays-joins s t u first second) third) (later-failure s u v e same failure)
gather-refused honest s t u v superblock fields transactions e well first second third same tested sound (inl (inr (memory, kept))) =
    memory-refused honest s v e (stays-joins s u v (stays-joins s t u first second) third) (kept ∙ same) memory (λ trust small. sound trust)
gather-refused honest s t u v superblock fields transactions e well first second third same tested sound (inr otherwise) =
    let named : IsRingRefusal fields.s_first fields.s_maxlen e = NamesDamaged e otherwise.names in
    content-refused honest s v e (stays-joins s u v (stays-joins s t u first second) third) (otherwise.no_fault ∙ same)
    (ring-device fields.s_first fields.s_maxlen e named) (ring-memory fields.s_first fields.s_maxlen e named)
    (ring-content s.shape superblock fields e well named)
    (λ trust.
    absurd
    (never-refused fields t.shape.home_blocks transactions (reading t.disk) (tested trust) otherwise.some
    (on-stays (λ (m : Shape) (d : Disk). (texts : List Text) → IsChainOf fields m.home_blocks (reading d) texts → transactions ≡ length texts → ⊥) t u second (otherwise.never trust))))
