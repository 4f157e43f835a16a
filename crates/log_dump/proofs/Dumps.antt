-- The whole text of a dump, and why there is none.
use Rattle.std.proofs.Common.{◌≡◌, ℕ, ◌+◌, List, [], ◌∷◌, ◌++◌, Option, length, sym, ◌∙◌, ap, ap₂, subst, arith, inl, inr, append-nil}
use Rattle.std.specs.Prelude.{◌≢◌, ◌==◌, true, false, Result, Ok, Err, OnErr, codes}
use Rattle.std.specs.Fmt.{decimal}
use Rattle.std.specs.Io.KnownBytes.{Appends}
use Rattle.std.proofs.lemmas.Bool.Decides.{nat_tests}
use Rattle.std.proofs.lemmas.Grind.{flat_map-append}
use Rattle.log_model.specs.declared.log.Text.{Text}
use Rattle.journal_model.specs.declared.refusal.JournalError.{JournalError}
use Rattle.journal_model.specs.Disk.{Disk, Image, Shape, reading}
use Rattle.log_model.specs.Dump.{IsDump, IsDumpRefused, block_lines, dump_shape, dump_text, end_line, super_line, texts_captions}
use Rattle.log_model.specs.Dump.IsDump.{OfChain, OfClean}
use Rattle.log_model.specs.Dump.IsDumpRefused.{ByDamage, BySuperblock}
use Rattle.log_model.specs.Opening.{HasChain, IsStarted, super_of}
use Rattle.log_model.specs.Superblock.{Super, super_refusal}
use Rattle.block_device.specs.State.{DeviceState, one_more_fault}
use Rattle.log_format.specs.Accepted.{IsAccepted}
use Rattle.log_dump.specs.declared.fault.Fault.{Fault}
use Rattle.log_dump.specs.declared.fault.Fault.TheVariants.{Refused, Output}
use Rattle.log_scan.specs.Scanning.{AreTextsOf, IsScanned, IsScanRefused, IsDamageOf}
use Rattle.log_scan.specs.Refusals.{NamesDamage}
use Rattle.log_scan.proofs.Listed.{damage-around, damage-device, damage-memory, super-device, super-memory}
use Rattle.log_dump.specs.Dumping.{DumpRefused, HasDump, IsContentRefusal, IsDumpFault, IsLogRefused, IsPrintRefused, IsReadLog, shape_of}
use Rattle.log_scan.specs.Finding.{every_block}
use Rattle.log_dump.specs.Lines.{ended, placed_lines}
use Rattle.log_dump.proofs.Written.{appends-joins, appends-same}

-- fields accepted for equal sizes are accepted for the device's
pub accepted-for : (told block_size tells log_blocks : ℕ) (fields log : Super) → told ≡ block_size → tells ≡ log_blocks → log ≡ fields →
    IsAccepted told tells fields → IsAccepted block_size log_blocks log
accepted-for told block_size tells log_blocks fields log size count same accepted =
    subst (λ (n : ℕ). IsAccepted n log_blocks log) size (subst (λ (n : ℕ). IsAccepted told n log) count (subst (λ (s : Super). IsAccepted told tells s) (sym same) accepted))

-- the lines of a clean log are its dump
text-clean : (s : Super) → s.s_start ≡ 0 → ended (super_line s) ++ ended (codes "empty sequence=" ++ decimal s.s_sequence) ≡ dump_text s []
unfolding dump_text
text-clean s clean =
    let test : (s.s_start == 0) ≡ true = grind (arith, nat_tests) in
    rw test (ap (λ (text : List ℕ). ended (super_line s) ++ text) (sym (append-nil (ended (codes "empty sequence=" ++ decimal s.s_sequence)))))

-- the lines of any other log are its dump
text-chain : (s : Super) (texts : List Text) → s.s_start ≢ 0 →
    ended (super_line s) ++ (placed_lines s 0 (texts_captions s.s_sequence texts) ++ ended (end_line s texts)) ≡ dump_text s texts
unfolding dump_text
text-chain s texts started =
    let test : (s.s_start == 0) ≡ false = grind (arith, nat_tests) in
    rw test
    (ap (λ (text : List ℕ). ended (super_line s) ++ text)
    (ap (λ (text : List ℕ). placed_lines s 0 (texts_captions s.s_sequence texts) ++ text) (sym (append-nil (ended (end_line s texts))))
    ∙ sym (flat_map-append ended (block_lines s texts) (end_line s texts ∷ []))))

-- a clean log's two lines make its dump
pub written-clean : (s : Super) (old mid new : Option (List ℕ)) → s.s_start ≡ 0 → Appends old mid (ended (super_line s)) →
    Appends mid new (ended (codes "empty sequence=" ++ decimal s.s_sequence)) → Appends old new (dump_text s [])
written-clean s old mid new clean first second = appends-same old new _ (dump_text s []) (text-clean s clean) (appends-joins old mid new _ _ first second)

-- the first line, those of the blocks and the last line make a dump
pub written-chain : (s : Super) (texts : List Text) (first count : ℕ) (old mid behind new : Option (List ℕ)) → s.s_start ≢ 0 → first ≡ s.s_sequence → count ≡ length texts →
    Appends old mid (ended (super_line s)) → Appends mid behind (placed_lines s 0 (texts_captions s.s_sequence texts)) →
    Appends behind new (ended (codes "end sequence=" ++ decimal (first + count) ++ codes " transactions=" ++ decimal count)) → Appends old new (dump_text s texts)
written-chain s texts first count old mid behind new started number all one two three =
    let last = appends-same behind new _ (ended (end_line s texts))
    (ap₂ (λ (f n : ℕ). ended (codes "end sequence=" ++ decimal (f + n) ++ codes " transactions=" ++ decimal n)) number all) three in
    appends-same old new _ (dump_text s texts) (text-chain s texts started) (appends-joins old mid new _ _ one (appends-joins mid behind new _ _ two last))

-- the tests of a block hold for the device's sizes
pub tested-for : (fields : Super) (size blocks length_is count : ℕ) (block other : List ℕ) (answer : Option JournalError) → length_is ≡ size → count ≡ blocks → block ≡ other →
    (let s : Shape = record { block_size = length_is; log_blocks = count; home_blocks = every_block fields } in super_refusal s block ≡ answer) →
    super_refusal (dump_shape fields size blocks) other ≡ answer
tested-for fields size blocks length_is count block other answer long many same tested =
    subst (λ (b : List ℕ). super_refusal (dump_shape fields size blocks) b ≡ answer) same
    (subst (λ (s : Shape). super_refusal s block ≡ answer)
    (ap₂ (λ (a b : ℕ). let s : Shape = record { block_size = a; log_blocks = b; home_blocks = every_block fields } in s) long many) tested)

-- a refused superblock refuses the log
pub log-refused : (honest unwritten : Type 0) (old new : DeviceState) (e : JournalError) → unwritten → IsLogRefused honest old new e → DumpRefused honest unwritten old new e
log-refused honest unwritten old new e nothing (inl failed) = record {
  device = λ is. failed.1;
  no_fault = λ other. absurd (other failed.0);
  memory = λ is. let wrong = failed.0 in absurd (cc);
  content = λ other more. absurd (other failed.0);
}
log-refused honest unwritten old new e nothing (inr (inl failed)) = record {
  device = λ is. let wrong = failed.0 in absurd (cc);
  no_fault = λ other. failed.1;
  memory = λ is. (failed.2, nothing);
  content = λ other more. absurd (more failed.0);
}
log-refused honest unwritten old new e nothing (inr (inr refused)) = record {
  device = λ is. absurd (super-device e refused.0 is);
  no_fault = λ other. refused.1;
  memory = λ is. absurd (super-memory e refused.0 is);
  content = λ other more. (inl refused.0, λ h. (BySuperblock e (refused.2 h), nothing));
}

module _ (size blocks : ℕ) (image : Image) (s : Super) (read : IsReadLog (dump_shape (super_of image) size blocks) image s) where
  -- a clean log has a dump
  pub clean-dump : s.s_start ≡ 0 → IsDump (dump_shape (super_of image) size blocks) image (dump_text s [])
  clean-dump clean =
      subst (λ (t : Super). IsDump (dump_shape (super_of image) size blocks) image (dump_text t [])) (sym read.same)
      (OfClean (record { accepted = read.accepted; clean = ap (λ (t : Super). t.s_start) (sym read.same) ∙ clean }))

  module _ (started : s.s_start ≢ 0) where
    -- the image is accepted, and not clean
    image-started : IsStarted (dump_shape (super_of image) size blocks) image
    image-started = record { accepted = read.accepted; started = λ clean. started (ap (λ (t : Super). t.s_start) read.same ∙ clean) }

    -- its texts are its chain
    chain-of : (texts : List Text) → AreTextsOf (super_of image) (every_block (super_of image)) image texts → HasChain (dump_shape (super_of image) size blocks) image texts
    chain-of texts are = record { started = image-started; chain = are.chain; undamaged = λ k damaged. are.undamaged k damaged.damaged }

    -- so it has a dump
    pub chain-dump : (texts : List Text) → AreTextsOf s (every_block s) image texts → IsDump (dump_shape (super_of image) size blocks) image (dump_text s texts)
    chain-dump texts are =
        subst (λ (t : Super). IsDump (dump_shape (super_of image) size blocks) image (dump_text t texts)) (sym read.same)
        (OfChain texts (chain-of texts (subst (λ (t : Super). AreTextsOf t (every_block t) image texts) read.same are)))

    -- a damaged block refuses the dump
    pub damage-refused : (e : JournalError) → IsDamageOf s (every_block s) image e → IsDumpRefused (dump_shape (super_of image) size blocks) image e
    damage-refused e damage = by (subst (λ (t : Super). IsDamageOf t (every_block t) image e) read.same damage)
      where
        by : IsDamageOf (super_of image) (every_block (super_of image)) image e → IsDumpRefused (dump_shape (super_of image) size blocks) image e
        by d =
            subst (IsDumpRefused (dump_shape (super_of image) size blocks) image) (sym d.refusal)
            (ByDamage d.k (record { started = image-started; damaged = d.damaged }))

-- damage in an accepted log's ring is after its superblock
damage-content : (shape : Shape) (s : Super) (e : JournalError) → IsAccepted shape.block_size shape.log_blocks s → NamesDamage s.s_first s.s_maxlen e → IsContentRefusal shape e
damage-content shape s e accepted names =
    let behind = accepted.behind in
    inr (damage-around s.s_first s.s_maxlen 1 shape.log_blocks e (omega arith) accepted.within names)

-- if the transactions can't be counted, the log is refused
pub count-refused : (honest unwritten : Type 0) (s : Super) (old mid new : DeviceState) (e : JournalError) → unwritten → s.s_start ≢ 0 → mid.faults ≡ old.faults → mid.disk ≡ old.disk →
    IsAccepted old.shape.block_size old.shape.log_blocks s → (honest → IsReadLog (shape_of old) (reading old.disk) s) →
    IsScanRefused honest s (every_block s) mid new e → DumpRefused honest unwritten old new e
count-refused honest unwritten s old mid new e nothing started faults disk accepted read (inl failed) = record {
  device = λ is. failed.1 ∙ ap one_more_fault faults;
  no_fault = λ other. absurd (other failed.0);
  memory = λ is. let wrong = failed.0 in absurd (cc);
  content = λ other more. absurd (other failed.0);
}
count-refused honest unwritten s old mid new e nothing started faults disk accepted read (inr (names, kept, damage)) = record {
  device = λ is. absurd (damage-device s.s_first s.s_maxlen e names is);
  no_fault = λ other. kept ∙ faults;
  memory = λ is. absurd (damage-memory s.s_first s.s_maxlen e names is);
  content = λ other more. (
    damage-content old.shape s e accepted names,
    λ h. (
      damage-refused old.shape.block_size old.shape.log_blocks (reading old.disk) s (read h) started e
          (subst (λ (d : Disk). IsDamageOf s (every_block s) (reading d) e) disk (damage h)),
      nothing,
    ),
  );
}

-- why counted transactions are not printed
pub print-refused : (honest unwritten impossible : Type 0) (s : Super) (old mid new : DeviceState) (e : Fault) → mid.faults ≡ old.faults →
    IsAccepted old.shape.block_size old.shape.log_blocks s → (honest → HasDump (shape_of old) (reading old.disk)) → (honest → impossible → ⊥) →
    IsPrintRefused honest impossible s mid new e → IsDumpFault honest unwritten old new e
print-refused honest unwritten impossible s old mid new (Output e) faults accepted has never refused = (refused ∙ faults, has)
print-refused honest unwritten impossible s old mid new (Refused e) faults accepted has never (inl failed) = record {
  device = λ is. failed.1 ∙ ap one_more_fault faults;
  no_fault = λ other. absurd (other failed.0);
  memory = λ is. let wrong = failed.0 in absurd (cc);
  content = λ other more. absurd (other failed.0);
}
print-refused honest unwritten impossible s old mid new (Refused e) faults accepted has never (inr (names, kept, cannot)) = record {
  device = λ is. absurd (damage-device s.s_first s.s_maxlen e names is);
  no_fault = λ other. kept ∙ faults;
  memory = λ is. absurd (damage-memory s.s_first s.s_maxlen e names is);
  content = λ other more. (damage-content old.shape s e accepted names, λ h. absurd (never h (cannot h)));
}

-- what holds anyway holds on a failure
pub on-err : {T E : Type 0} {P : Type 0} (r : Result T E) → P → OnErr r P
on-err (Ok x) p = tt
on-err (Err e) p = p

-- if the test of s_start holds, it is 0
pub test-clean : (start : ℕ) → true ≡ (start == 0) → start ≡ 0
test-clean start test = grind (arith, nat_tests)

pub test-started : (start : ℕ) → false ≡ (start == 0) → start ≢ 0
test-started start test = λ clean. grind (arith, nat_tests)

-- a log whose texts were counted has a dump
pub counted-dump : (size blocks : ℕ) (image : Image) (s : Super) (count : ℕ) → IsReadLog (dump_shape (super_of image) size blocks) image s → s.s_start ≢ 0 → IsScanned s (every_block s) image count → HasDump (dump_shape (super_of image) size blocks) image
counted-dump size blocks image s count read started counted = (dump_text s counted.texts, chain-dump size blocks image s read started counted.texts counted.are)
