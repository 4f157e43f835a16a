-- What comes of a log that was read, flushed, replayed and left clean.
use Rattle.std.proofs.Common.{refl, sym, ◌∙◌, ap, ap₂, subst, arith, inl, inr}
use Rattle.std.specs.Prelude.{◌≡◌, ◌≢◌, ℕ, ◌+◌, ◌==◌, Bool, true, false, not, List, [], ◌∷◌, ◌++◌, length, Option, None, Some}
use Rattle.std.specs.Option.{is_some}
use Rattle.std.proofs.lemmas.Bool.{cases_eq}
use Rattle.journal_model.specs.declared.number.Area.TheVariants.{Log}
use Rattle.journal_model.specs.declared.refusal.JournalError.{JournalError}
use Rattle.journal_model.specs.declared.refusal.JournalError.TheVariants.{Device}
use Rattle.journal_model.specs.Disk.{Cell, Disk, Image, Shape, flushed, reading}
use Rattle.log_model.specs.declared.log.Text.{Text}
use Rattle.log_model.specs.Opening.{super_of}
use Rattle.log_model.specs.Superblock.{Super, super_in, with_tail}
use Rattle.block_device.specs.State.{DeviceState, EachMoment, Moves, Stays}
use Rattle.block_device.proofs.Moments.{each-stays}
use Rattle.journal_world.specs.Call.Call.{Flush}
use Rattle.journal_world.specs.Opening.{IsOpenedLog}
use Rattle.log_epochs.proofs.CleanLogs.{clean-tail}
use Rattle.log_scan.specs.Scanning.{IsChainOf}
use Rattle.log_scan.proofs.Listed.{damage-around, damage-device}
use Rattle.recovery.specs.Calls.{HasBegun, HasMade, cleaning_calls, writes_home}
use Rattle.recovery.specs.Gather.{IsReplayRefused, TablesValue, tables_of}
use Rattle.recovery.specs.HomeCopies.{home_copies}
use Rattle.recovery.specs.Opening.{IsWellRead}
use Rattle.recovery.specs.Values.{IsNextNamed}
use Rattle.recovery.proofs.MadeCalls.{made-begun, made-joins, made-one, stays-made}
use Rattle.recovery.proofs.Recovering.{clean-named, texts-flushed}
use Rattle.damaged_logs.specs.Before.{BeforeRefused, IsMomentBefore, IsOpeningBefore, TellsBefore}
use Rattle.damaged_logs.specs.Before.BeforeRefused.{ByReading}
use Rattle.damaged_logs.specs.Before.IsMomentBefore.{Unwritten}
use Rattle.damaged_logs.specs.BeforeSteps.{HoldsTexts, IsBrokenBefore, IsDoneBefore, IsReadBefore, IsReadBeforeOn, before_calls}
use Rattle.damaged_logs.specs.BeforeSteps.IsBrokenBefore.{Reading, Writing}
use Rattle.damaged_logs.proofs.BeforeCalls.{before-along, begun-along, left-along, left-before, made-along, made-before}
use Rattle.damaged_logs.proofs.BeforeReading.{before-later, chain-held}

-- whether an option is none
pub none-there : (stopped : Option JournalError) (answer : Bool) → is_some stopped ≡ not answer → answer ≡ true → stopped ≡ None
none-there None answer told is = refl
none-there (Some e) answer told is = let other : true ≡ not true = told ∙ ap not is in cc

pub some-there : (stopped : Option JournalError) (answer : Bool) → is_some stopped ≡ not answer → answer ≡ false → stopped ≡ None → ⊥
some-there None answer told is none = let other : false ≡ not false = told ∙ ap not is in cc
some-there (Some e) answer told is none = cc

-- what holds of a log's chain holds of its texts
pub held-made : (s : Super) (count : ℕ) (image : Image) (transactions : ℕ) (tables : TablesValue) (P : List Text → Type 0) (texts : List Text) → HoldsTexts s count image texts →
    transactions ≡ length texts → (s.s_start ≢ 0 → tables ≡ tables_of s.s_sequence texts) →
    ((ts : List Text) → IsChainOf s count image ts → transactions ≡ length ts → tables ≡ tables_of s.s_sequence ts → P ts) → (transactions ≡ 0 → P []) → P texts
held-made s count image transactions tables P texts holds number are made none =
    elim (cases_eq s.s_start 0) [
      | inl clean ↦ let empty = holds.clean clean in subst P (sym empty) (none (number ∙ ap length empty))
      | inr started ↦ made texts (holds.started started) number (are started)
    ]

-- the texts are the same after the flush
holds-flushed : (s t u : DeviceState) (fields : Super) (texts : List Text) → Stays s t → Moves t u (flushed t.disk Log) →
    HoldsTexts fields s.shape.home_blocks (reading s.disk) texts → HoldsTexts fields u.shape.home_blocks (reading u.disk) texts
holds-flushed s t u fields texts stays moves holds =
    record { clean = holds.clean; started = λ started. texts-flushed s t u fields texts stays moves (holds.started started) }

-- the flush was made
log-flushed : (s t u : DeviceState) → Stays s t → Moves t u (flushed t.disk Log) → HasMade (Flush Log ∷ []) s u
log-flushed s t u stays moves = stays-made (Flush Log ∷ []) s t u stays (made-one (Flush Log) t u moves)

-- a log that was read on this device
module _ (s : DeviceState) (superblock : List ℕ) (fields : Super) (transactions greatest : ℕ) (stopped : Option JournalError) (is : IsReadBefore s.shape superblock fields transactions greatest stopped)
    (tables : TablesValue) (texts : List Text) (on : IsReadBeforeOn s.shape s.disk superblock fields transactions tables greatest stopped texts)
  where
    -- block 0 fills a block
    zero-size : length (s.disk Log 0).reads ≡ s.shape.block_size
    zero-size = ap length (sym on.superblock_is) ∙ is.well.size

    -- its start
    own-start : fields.s_start ≡ (super_of (reading s.disk)).s_start
    own-start = ap (λ (f : Super). f.s_start) on.fields_are

    -- the report on it
    pub read-tells : (clean : Bool) (ends_at : ℕ) → clean ≡ (fields.s_start == 0) → ends_at ≡ fields.s_sequence + transactions →
        TellsBefore (reading s.disk) texts clean ends_at transactions
    read-tells clean ends_at reported ends = record {
      clean_is = reported ∙ ap (λ (n : ℕ). n == 0) own-start;
      end_is = ends ∙ ap₂ (λ (f : Super) (n : ℕ). f.s_sequence + n) on.fields_are on.count;
      count = on.count;
    }

    -- a clean log that nothing stopped is opened by the flush
    pub left-done : (t u : DeviceState) (next : ℕ) → fields.s_start ≡ 0 → stopped ≡ None → next ≡ greatest + 1 → Stays s t → Moves t u (flushed t.disk Log) →
        IsDoneBefore s u stopped superblock next texts greatest
    left-done t u next clean none number stays moves = record {
      takes = on.takes;
      size = zero-size;
      small = is.number;
      number = number;
      made =
          inl (record {
            none = on.holds.clean clean;
            clean = sym own-start ∙ clean;
            end =
                let alone : greatest ≡ fields.s_sequence + transactions = is.alone none in
                let empty : transactions ≡ 0 = is.clean clean in
                let sequence : fields.s_sequence ≡ (super_of (reading s.disk)).s_sequence = ap (λ (f : Super). f.s_sequence) on.fields_are in
                omega arith;
            superblock_is = on.superblock_is;
            made = log-flushed s t u stays moves;
          });
    }

    -- the superblock that is written
    own-tail : (next : ℕ) → next ≡ greatest + 1 → with_tail superblock next 0 ≡ with_tail (s.disk Log 0).reads (greatest + 1) 0
    own-tail next number = ap₂ (λ (block : List ℕ) (n : ℕ). with_tail block n 0) on.superblock_is number

    module _ (t u x : DeviceState) (next : ℕ) (number : next ≡ greatest + 1) (stays : Stays s t) (moves : Moves t u (flushed t.disk Log)) where
      -- the texts after the flush
      there : HoldsTexts fields u.shape.home_blocks (reading u.disk) texts
      there = holds-flushed s t u fields texts stays moves on.holds

      -- any other log is opened once it is replayed and clean
      pub made-done : (fields.s_start ≡ 0 → stopped ≡ None → ⊥) →
          ((ts : List Text) → HoldsTexts fields u.shape.home_blocks (reading u.disk) ts → transactions ≡ length ts → (fields.s_start ≢ 0 → tables ≡ tables_of fields.s_sequence ts) →
          HasMade (writes_home (home_copies ts) ++ cleaning_calls (with_tail superblock next 0)) u x) →
          IsDoneBefore s x stopped (with_tail superblock next 0) next texts greatest
      made-done due made = record {
        takes = on.takes;
        size = zero-size;
        small = is.number;
        number = number;
        made =
            inr (record {
              due = λ clean none. due (own-start ∙ clean) none;
              superblock_is = own-tail next number;
              made =
                  made-joins (Flush Log ∷ []) (writes_home (home_copies texts) ++ cleaning_calls (with_tail superblock next 0)) s u x (log-flushed s t u stays moves)
                  (made texts there on.count on.tables_are);
            });
      }

      -- or the device failed before
      pub begun-broken : ((ts : List Text) → HoldsTexts fields u.shape.home_blocks (reading u.disk) ts → transactions ≡ length ts → (fields.s_start ≢ 0 → tables ≡ tables_of fields.s_sequence ts) →
          HasBegun (writes_home (home_copies ts) ++ cleaning_calls (with_tail superblock next 0)) u x) → IsBrokenBefore s x
      begun-broken begun =
          Writing texts greatest stopped on.takes zero-size is.number
          (subst (λ (block : List ℕ). HasBegun (before_calls texts block) s x) (own-tail next number)
          (made-begun (Flush Log ∷ []) (writes_home (home_copies texts) ++ cleaning_calls (with_tail superblock next 0)) s u x (log-flushed s t u stays moves)
          (begun texts there on.count on.tables_are)))

-- the replay was refused
pub replay-before : (honest : Type 0) (s t u w : DeviceState) (superblock : List ℕ) (fields : Super) (transactions greatest : ℕ) (stopped : Option JournalError) (tables : TablesValue) (e : JournalError) →
    IsWellRead s.shape superblock fields → Stays s t → Moves t u (flushed t.disk Log) → u.faults ≡ s.faults → (e ≢ Device → w.disk Log ≡ u.disk Log) →
    (honest → (texts : List Text) × IsReadBeforeOn s.shape s.disk superblock fields transactions tables greatest stopped texts) → IsReplayRefused honest fields transactions u w e →
    BeforeRefused honest s w e
replay-before honest s t u w superblock fields transactions greatest stopped tables e well stays moves same kept on (inl failure) = before-later honest s u w e same failure
replay-before honest s t u w superblock fields transactions greatest stopped tables e well stays moves same kept on (inr otherwise) =
    let behind = well.accepted.behind in
    ByReading e
    (λ trust.
    let read = on trust in
    let there : HoldsTexts fields u.shape.home_blocks (reading u.disk) read.0 = holds-flushed s t u fields read.0 stays moves read.1.holds in
    otherwise.never trust read.0 (chain-held fields u.shape.home_blocks (reading u.disk) read.0 transactions there read.1.count otherwise.some) read.1.count)
    (otherwise.no_fault ∙ same) (damage-around fields.s_first fields.s_maxlen 1 s.shape.log_blocks e (omega arith) well.accepted.within otherwise.names)
    (inr (λ n.
    ap (λ (cells : ℕ → Cell). cells n)
    (kept (damage-device fields.s_first fields.s_maxlen e otherwise.names) ∙ ap (λ (d : Disk). d Log) (moves.now ∙ ap (λ (d : Disk). flushed d Log) stays.disk))))

-- an opening that ended is a whole one
pub done-before : (old new : DeviceState) (stopped : Option JournalError) (superblock : List ℕ) (next : ℕ) (texts : List Text) (greatest : ℕ) →
    IsDoneBefore old new stopped superblock next texts greatest → IsOpeningBefore old.shape old.disk new.disk texts greatest stopped superblock next
done-before old new stopped superblock next texts greatest is =
    elim is.made [
      | inl left ↦
          subst (λ (n : ℕ). IsOpeningBefore old.shape old.disk new.disk texts greatest stopped superblock n) (sym is.number)
          (subst (λ (b : List ℕ). IsOpeningBefore old.shape old.disk new.disk texts greatest stopped b (greatest + 1)) (sym left.superblock_is)
          (left-before old.shape old.disk texts greatest stopped is.takes is.size is.small new.disk left.made.disk left.none left.clean left.end))
      | inr made ↦
          subst (λ (n : ℕ). IsOpeningBefore old.shape old.disk new.disk texts greatest stopped superblock n) (sym is.number)
          (subst (λ (b : List ℕ). IsOpeningBefore old.shape old.disk new.disk texts greatest stopped b (greatest + 1)) (sym made.superblock_is)
          (made-before old.shape old.disk texts greatest stopped is.takes is.size is.small new.disk (rw made.superblock_is at made.made).disk made.due))
    ]

-- then the log is open
pub done-opened : (old new : DeviceState) (stopped : Option JournalError) (superblock : List ℕ) (next : ℕ) (texts : List Text) (greatest : ℕ) → new.shape ≡ old.shape →
    IsDoneBefore old new stopped superblock next texts greatest → IsOpenedLog new.shape new.disk superblock next
done-opened old new stopped superblock next texts greatest same is =
    subst (λ (m : Shape). IsOpenedLog m new.disk superblock next) (sym same) (done-before old new stopped superblock next texts greatest is).log

-- each of its moments
pub done-each : (old new : DeviceState) (stopped : Option JournalError) (superblock : List ℕ) (next : ℕ) (texts : List Text) (greatest : ℕ) →
    IsDoneBefore old new stopped superblock next texts greatest → EachMoment (IsMomentBefore old.shape old.disk) old new
done-each old new stopped superblock next texts greatest is =
    elim is.made [
      | inl left ↦
          made-along (IsMomentBefore old.shape old.disk) (Flush Log ∷ []) old new
          (left-along old.shape old.disk texts greatest stopped is.takes is.size is.small) left.made
      | inr made ↦
          made-along (IsMomentBefore old.shape old.disk) (before_calls texts (with_tail (old.disk Log 0).reads (greatest + 1) 0)) old new
          (before-along old.shape old.disk texts greatest stopped is.takes is.size is.small) (rw made.superblock_is at made.made)
    ]

-- each moment of one that failed
pub broken-each : (old new : DeviceState) → IsBrokenBefore old new → EachMoment (IsMomentBefore old.shape old.disk) old new
broken-each old new (Reading stays) = each-stays (IsMomentBefore old.shape old.disk) old new stays (Unwritten refl)
broken-each old new (Writing texts greatest stopped takes size small begun) =
    begun-along (IsMomentBefore old.shape old.disk) (before_calls texts (with_tail (old.disk Log 0).reads (greatest + 1) 0)) old new
    (before-along old.shape old.disk texts greatest stopped takes size small) begun

-- the superblock of a clean log that nothing stopped names the next transaction
pub left-named : (shape : Shape) (superblock : List ℕ) (fields : Super) (transactions greatest : ℕ) (stopped : Option JournalError) (next : ℕ) →
    IsReadBefore shape superblock fields transactions greatest stopped → fields.s_start ≡ 0 → stopped ≡ None → next ≡ greatest + 1 → IsNextNamed shape superblock next
left-named shape superblock fields transactions greatest stopped next is start none number =
    clean-named shape superblock fields transactions next (record { well = is.well; number = let alone = is.alone none in let small = is.number in omega arith; clean = is.clean })
    start (let alone = is.alone none in omega arith)

-- the superblock written for any other log names it too
pub made-named : (shape : Shape) (superblock : List ℕ) (fields : Super) (transactions greatest : ℕ) (stopped : Option JournalError) (next : ℕ) →
    IsReadBefore shape superblock fields transactions greatest stopped → next ≡ greatest + 1 → IsNextNamed shape (with_tail superblock next 0) next
made-named shape superblock fields transactions greatest stopped next is number =
    let small = is.number in
    let tail = clean-tail shape superblock next is.well.tested is.well.size (omega arith) in
    let sequence : (super_in (with_tail superblock next 0)).s_sequence ≡ next = tail.sequence in
    record {
      named = record {
        is_superblock = record { accepted = tail.accepted; size = tail.size; layout_is = refl; ring_is = refl };
        clean = tail.clean;
        low = omega arith;
        high = omega arith;
      };
      some = omega arith;
      number = omega arith;
    }
