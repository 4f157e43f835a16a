-- A whole opening by its calls: an examined log is flushed, and replayed if it is not clean.
use Rattle.std.proofs.Common.{refl, sym, ◌∙◌, ap, ap₂, subst, arith, inl, inr}
use Rattle.std.specs.Prelude.{◌≡◌, ◌≢◌, ℕ, ◌+◌, ◌==◌, Bool, true, false, List, [], ◌∷◌, ◌++◌, length}
use Rattle.std.proofs.lemmas.Bool.{eqb-true}
use Rattle.std.proofs.lemmas.Bool.Decides.{nat_tests}
use Rattle.log_model.specs.declared.log.Text.{Text}
use Rattle.journal_model.specs.declared.number.Area.TheVariants.{Log}
use Rattle.journal_model.specs.declared.refusal.JournalError.{JournalError}
use Rattle.log_model.specs.Chain.{IsChain, Ring, lap}
use Rattle.journal_model.specs.Disk.{Cell, Disk, Image, Shape, flushed, reading}
use Rattle.log_model.specs.Opening.{layout_of, ring_of, super_of}
use Rattle.log_model.specs.Superblock.{Super, super_in, with_tail}
use Rattle.block_device.specs.State.{DeviceState, IsDeviceFailure, Moves, Stays, one_more_fault}
use Rattle.log_scan.proofs.Listed.{damage-around, damage-device, damage-memory}
use Rattle.log_scan.specs.Scanning.{IsChainOf}
use Rattle.journal_world.specs.Call.{Call}
use Rattle.journal_world.specs.Call.Call.{Flush}
use Rattle.log_epochs.specs.OpeningSteps.{Found, HasTexts, clean_superblock, next_of}
use Rattle.log_epochs.specs.OpeningSteps.HasTexts.{NoTexts, Texts}
use Rattle.log_epochs.proofs.CleanLogs.{clean-tail, cleaned-clean, cleaned-started}
use Rattle.recovery.specs.Calls.{HasBegun, HasMade, cleaning_calls, opening_calls, writes_home}
use Rattle.recovery.specs.Gather.{IsReplayRefused, TablesValue, tables_of}
use Rattle.recovery.specs.HomeCopies.{home_copies}
use Rattle.recovery.specs.Opening.{IsBroken, IsDoneWith, IsExamined, IsExaminedOn, IsRingRefusal, IsWellRead, OpeningRefused, Tells}
use Rattle.recovery.specs.Opening.IsBroken.{Writing}
use Rattle.recovery.specs.Opening.IsRingRefusal.{NamesDamaged}
use Rattle.recovery.specs.Opening.Tells.{OfChain, OfClean}
use Rattle.recovery.specs.Values.{IsNextNamed}
use Rattle.recovery.proofs.Examining.{ring-content}
use Rattle.recovery.proofs.MadeCalls.{begun-front, made-begun, made-joins, made-one, stays-made}
use Rattle.recovery.proofs.OpeningPaths.{calls-clean, calls-started}

-- a flush of the log leaves what it reads
lap-flushed : (r : Ring) (disk : Disk) (place : ℕ) → lap r (reading (flushed disk Log)) place ≡ lap r (reading disk) place
unfolding lap
lap-flushed r disk place = refl

-- so the log's texts are the same after the flush
pub texts-flushed : (s t u : DeviceState) (fields : Super) (texts : List Text) → Stays s t → Moves t u (flushed t.disk Log) →
    IsChainOf fields s.shape.home_blocks (reading s.disk) texts → IsChainOf fields u.shape.home_blocks (reading u.disk) texts
texts-flushed s t u fields texts stays moves are =
    let r : Ring = ring_of fields in
    let home : u.shape.home_blocks ≡ s.shape.home_blocks = ap (λ (m : Shape). m.home_blocks) (moves.shape ∙ stays.shape) in
    let read : lap r (reading u.disk) fields.s_start ≡ lap r (reading s.disk) fields.s_start =
    ap (λ (d : Disk). lap r (reading d) fields.s_start) moves.now ∙ lap-flushed r t.disk fields.s_start
    ∙ ap (λ (d : Disk). lap r (reading d) fields.s_start) stays.disk in
    subst (λ (n : ℕ). IsChain (layout_of fields) n fields.s_sequence (lap r (reading u.disk) fields.s_start) texts) (sym home)
    (subst (λ (blocks : List (List ℕ)). IsChain (layout_of fields) s.shape.home_blocks fields.s_sequence blocks texts) (sym read) are)

-- the limit follows from what was found
found-limit : (shape : Shape) (image : Image) (texts : List Text) (limit : ℕ) → HasTexts shape image texts limit →
    limit ≡ (super_of image).s_sequence + length texts
found-limit shape image texts limit (NoTexts clean) = omega arith
found-limit shape image texts limit (Texts ts has) = refl

-- and so does the report
tells-found : (shape : Shape) (image : Image) (texts : List Text) (limit : ℕ) (clean : Bool) → HasTexts shape image texts limit →
    clean ≡ ((super_of image).s_start == 0) → Tells shape image clean limit (length texts)
tells-found shape image texts limit clean (NoTexts is) reported =
    let start : (super_of image).s_start ≡ 0 = is.clean in
    let test : ((super_of image).s_start == 0) ≡ true = grind (arith, nat_tests) in
    subst (λ (b : Bool). Tells shape image b (super_of image).s_sequence 0) (sym (reported ∙ test)) (OfClean is)
tells-found shape image texts limit clean (Texts ts has) reported =
    let start : (super_of image).s_start ≢ 0 = has.started.started in
    let test : ((super_of image).s_start == 0) ≡ false = grind (arith, nat_tests) in
    subst (λ (b : Bool). Tells shape image b ((super_of image).s_sequence + length ts) (length ts)) (sym (reported ∙ test)) (OfChain ts has)

-- a device failure after calls that did not fail is a refusal
pub device-refused : (honest : Type 0) (s t u : DeviceState) (e : JournalError) → t.faults ≡ s.faults → IsDeviceFailure t u e → OpeningRefused honest s u e
device-refused honest s t u e same (is, counted) = record {
  device = λ device. counted ∙ ap one_more_fault same;
  no_fault = λ other. absurd (other is);
  memory = λ memory. cc;
  content = λ other more. absurd (other is);
}

-- a clean log has start 0
pub clean-start : (fields : Super) (clean : Bool) → clean ≡ (fields.s_start == 0) → clean ≡ true → fields.s_start ≡ 0
clean-start fields clean reported is = eqb-true fields.s_start 0 (sym reported ∙ is)

pub other-start : (fields : Super) (clean : Bool) → clean ≡ (fields.s_start == 0) → clean ≡ false → fields.s_start ≢ 0
other-start fields clean reported is zero = let test : (fields.s_start == 0) ≡ true = grind (arith, nat_tests) in cc

-- the call that flushes the log
log-flushed : (s t u : DeviceState) → Stays s t → Moves t u (flushed t.disk Log) → HasMade (Flush Log ∷ []) s u
log-flushed s t u stays moves = stays-made (Flush Log ∷ []) s t u stays (made-one (Flush Log) t u moves)

-- a clean log's superblock names the next transaction
pub clean-named : (shape : Shape) (superblock : List ℕ) (fields : Super) (transactions next : ℕ) → IsExamined shape superblock fields transactions →
    fields.s_start ≡ 0 → next ≡ fields.s_sequence + transactions + 1 → IsNextNamed shape superblock next
clean-named shape superblock fields transactions next is start number =
    let same : fields ≡ super_in superblock = is.well.fields_are in
    let none : transactions ≡ 0 = is.clean start in
    let sequence : fields.s_sequence ≡ (super_in superblock).s_sequence = ap (λ (s : Super). s.s_sequence) same in
    let small = is.number in
    record {
      named = record {
        is_superblock = record { accepted = is.well.tested; size = is.well.size; layout_is = refl; ring_is = refl };
        clean = ap (λ (s : Super). s.s_start) (sym same) ∙ start;
        low = omega arith;
        high = omega arith;
      };
      some = omega arith;
      number = omega arith;
    }

-- so does the superblock that replay leaves
pub tail-named : (shape : Shape) (superblock : List ℕ) (fields : Super) (transactions next : ℕ) → IsExamined shape superblock fields transactions →
    next ≡ fields.s_sequence + transactions + 1 → IsNextNamed shape (with_tail superblock next 0) next
tail-named shape superblock fields transactions next is number =
    let small = is.number in
    let tail = clean-tail shape superblock next is.well.tested is.well.size (omega arith) in
    let sequence : (super_in (with_tail superblock next 0)).s_sequence ≡ next = tail.sequence in
    record {
      named = record {
        is_superblock = record { accepted = tail.accepted; size = tail.size; layout_is = refl; ring_is = refl };
        clean = tail.clean;
        low = omega arith;
        high = omega arith;
      };
      some = omega arith;
      number = omega arith;
    }

-- a log that was examined on this device
module _ (s : DeviceState) (superblock : List ℕ) (fields : Super) (transactions : ℕ) (tables : TablesValue) (found : Found)
    (on : IsExaminedOn s.shape s.disk superblock fields transactions tables found) where
  -- its limit is the number after its transactions
  examined-limit : found.limit ≡ fields.s_sequence + transactions
  examined-limit =
      let limit : found.limit ≡ (super_of found.image).s_sequence + length found.texts = found-limit s.shape found.image found.texts found.limit on.is.good.has in
      let sequence : fields.s_sequence ≡ (super_of found.image).s_sequence = ap (λ (f : Super). f.s_sequence) on.fields_are in
      let count : transactions ≡ length found.texts = on.count in
      omega arith

  -- the next number is the one after the limit
  pub examined-next : (next : ℕ) → next ≡ fields.s_sequence + transactions + 1 → next ≡ next_of found
  examined-next next number = let limit = examined-limit in omega arith

  -- its start is the image's
  examined-start : fields.s_start ≡ (super_of found.image).s_start
  examined-start = ap (λ (f : Super). f.s_start) on.fields_are

  -- the report of an opening is true
  pub examined-tells : (clean : Bool) (ends_at : ℕ) → clean ≡ (fields.s_start == 0) → ends_at ≡ fields.s_sequence + transactions →
      Tells s.shape (reading s.disk) clean ends_at transactions
  examined-tells clean ends_at reported ends =
      subst (λ (image : Image). Tells s.shape image clean ends_at transactions) on.is.read
      (subst (λ (n : ℕ). Tells s.shape found.image clean n transactions) (examined-limit ∙ sym ends)
      (subst (λ (n : ℕ). Tells s.shape found.image clean found.limit n) (sym on.count)
      (tells-found s.shape found.image found.texts found.limit clean on.is.good.has (reported ∙ ap (λ (n : ℕ). n == 0) examined-start))))

  -- what holds of its texts after the flush holds of what was found
  pub of-found : (P : List Text → Type 0) (t u : DeviceState) → fields.s_start ≢ 0 → Stays s t → Moves t u (flushed t.disk Log) →
      ((texts : List Text) → IsChainOf fields u.shape.home_blocks (reading u.disk) texts → transactions ≡ length texts → tables ≡ tables_of fields.s_sequence texts → P texts) →
      P found.texts
  of-found P t u started stays moves made =
      made found.texts (texts-flushed s t u fields found.texts stays moves (on.texts started)) on.count (on.tables_are started)

  -- the flush opens a clean log
  pub clean-done : (t u : DeviceState) (next : ℕ) → fields.s_start ≡ 0 → next ≡ fields.s_sequence + transactions + 1 → Stays s t → Moves t u (flushed t.disk Log) →
      IsDoneWith s u superblock next
  clean-done t u next clean number stays moves =
      let start : (super_of found.image).s_start ≡ 0 = sym examined-start ∙ clean in
      record {
        done = record {
          found = found;
          is = on.is;
          made = subst (λ (calls : List Call). HasMade calls s u) (sym (calls-clean found start)) (log-flushed s t u stays moves);
        };
        superblock_is = on.superblock_is ∙ sym (cleaned-clean (found.image Log 0) next start);
        next_is = examined-next next number;
      }

  -- the calls of its opening, if it is not clean
  started-calls : (next : ℕ) → fields.s_start ≢ 0 → next ≡ fields.s_sequence + transactions + 1 →
      opening_calls found ≡ (Flush Log ∷ []) ++ (writes_home (home_copies found.texts) ++ cleaning_calls (with_tail superblock next 0))
  started-calls next started number =
      let tail : with_tail superblock next 0 ≡ clean_superblock found =
      ap₂ (λ (block : List ℕ) (n : ℕ). with_tail block n 0) on.superblock_is (examined-next next number) in
      calls-started found (λ start. started (examined-start ∙ start))
      ∙ ap (λ (block : List ℕ). Flush Log ∷ writes_home (home_copies found.texts) ++ cleaning_calls block) (sym tail)

  -- a failure after some of these calls breaks the opening
  begun-broken : (next : ℕ) (new : DeviceState) → fields.s_start ≢ 0 → next ≡ fields.s_sequence + transactions + 1 →
      HasBegun ((Flush Log ∷ []) ++ (writes_home (home_copies found.texts) ++ cleaning_calls (with_tail superblock next 0))) s new → IsBroken s new
  begun-broken next new started number begun =
      Writing found on.is (subst (λ (calls : List Call). HasBegun calls s new) (sym (started-calls next started number)) begun)

  -- so does a failure during the copies
  pub copies-broken : (t u w : DeviceState) (next : ℕ) → fields.s_start ≢ 0 → next ≡ fields.s_sequence + transactions + 1 → Stays s t →
      Moves t u (flushed t.disk Log) → HasBegun (writes_home (home_copies found.texts)) u w → IsBroken s w
  copies-broken t u w next started number stays moves begun =
      let copies : List Call = writes_home (home_copies found.texts) in
      let cleaning : List Call = cleaning_calls (with_tail superblock next 0) in
      begun-broken next w started number
      (made-begun (Flush Log ∷ []) (copies ++ cleaning) s u w (log-flushed s t u stays moves) (begun-front copies cleaning u w begun))

  -- so does one before the log is clean
  pub cleaning-broken : (t u w x : DeviceState) (next : ℕ) → fields.s_start ≢ 0 → next ≡ fields.s_sequence + transactions + 1 → Stays s t →
      Moves t u (flushed t.disk Log) → HasMade (writes_home (home_copies found.texts)) u w →
      HasBegun (cleaning_calls (with_tail superblock next 0)) w x → IsBroken s x
  cleaning-broken t u w x next started number stays moves made begun =
      let copies : List Call = writes_home (home_copies found.texts) in
      let cleaning : List Call = cleaning_calls (with_tail superblock next 0) in
      begun-broken next x started number
      (made-begun (Flush Log ∷ []) (copies ++ cleaning) s u x (log-flushed s t u stays moves) (made-begun copies cleaning u w x made begun))

  -- if all succeed, the log is replayed and clean
  pub started-done : (t u w x : DeviceState) (next : ℕ) → fields.s_start ≢ 0 → next ≡ fields.s_sequence + transactions + 1 → Stays s t →
      Moves t u (flushed t.disk Log) → HasMade (writes_home (home_copies found.texts)) u w →
      HasMade (cleaning_calls (with_tail superblock next 0)) w x → IsDoneWith s x (with_tail superblock next 0) next
  started-done t u w x next started number stays moves made clean =
      let copies : List Call = writes_home (home_copies found.texts) in
      let cleaning : List Call = cleaning_calls (with_tail superblock next 0) in
      record {
        done = record {
          found = found;
          is = on.is;
          made =
              subst (λ (calls : List Call). HasMade calls s x) (sym (started-calls next started number))
              (made-joins (Flush Log ∷ []) (copies ++ cleaning) s u x (log-flushed s t u stays moves) (made-joins copies cleaning u w x made clean));
        };
        superblock_is =
            ap (λ (block : List ℕ). with_tail block next 0) on.superblock_is
            ∙ sym (cleaned-started (found.image Log 0) next (λ start. started (examined-start ∙ start)));
        next_is = examined-next next number;
      }

-- why a replay is refused, after the flush of an examined log
pub replay-refused : (honest : Type 0) (s t u w : DeviceState) (superblock : List ℕ) (fields : Super) (transactions : ℕ) (tables : TablesValue) (e : JournalError) →
    IsWellRead s.shape superblock fields → Stays s t → Moves t u (flushed t.disk Log) → u.faults ≡ s.faults → w.disk Log ≡ u.disk Log →
    (honest → (found : Found) × IsExaminedOn s.shape s.disk superblock fields transactions tables found) → fields.s_start ≢ 0 →
    IsReplayRefused honest fields transactions u w e → OpeningRefused honest s w e
replay-refused honest s t u w superblock fields transactions tables e well stays moves same kept on started (inl failure) =
    device-refused honest s u w e same failure
replay-refused honest s t u w superblock fields transactions tables e well stays moves same kept on started (inr otherwise) =
    let named : IsRingRefusal fields.s_first fields.s_maxlen e = NamesDamaged e otherwise.names in
    let never : honest → ⊥ = λ trust.
    let examined = on trust in
    otherwise.never trust examined.0.texts (texts-flushed s t u fields examined.0.texts stays moves (examined.1.texts started)) examined.1.count in
    let behind = well.accepted.behind in
    record {
      device = λ device. absurd (damage-device fields.s_first fields.s_maxlen e otherwise.names device);
      no_fault = λ other. otherwise.no_fault ∙ same;
      memory = λ memory. absurd (damage-memory fields.s_first fields.s_maxlen e otherwise.names memory);
      content = λ other more. (
        inr (record {
          dishonest = never;
          names = damage-around fields.s_first fields.s_maxlen 1 s.shape.log_blocks e (omega arith) well.accepted.within otherwise.names;
          log = λ n. ap (λ (cells : ℕ → Cell). cells n) (kept ∙ ap (λ (d : Disk). d Log) (moves.now ∙ ap (λ (d : Disk). flushed d Log) stays.disk));
        }),
        ring-content s.shape superblock fields e well named,
        λ trust. absurd (never trust),
      );
    }
