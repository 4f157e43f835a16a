-- What holds at each moment of an opening in spite of damage, and at its end.
use Rattle.std.proofs.Common.{refl, sym, ◌∙◌, subst, arith, inr}
use Rattle.std.specs.Prelude.{◌≡◌, ℕ, ◌+◌, ◌<◌, List, [], ◌∷◌, ◌++◌, length, None, Option, Contains}
use Rattle.journal_model.specs.declared.number.Area.TheVariants.{Log, Home}
use Rattle.journal_model.specs.declared.refusal.JournalError.{JournalError}
use Rattle.journal_model.specs.Disk.{Disk, Shape, flushed, reading, written}
use Rattle.journal_model.proofs.ListElements.{contains-behind, contains-first}
use Rattle.log_model.specs.declared.log.Text.{Text}
use Rattle.log_model.specs.Opening.{greatest_number, super_of}
use Rattle.log_model.specs.Replay.{HasNoLive, IsNewest, IsReplayed}
use Rattle.log_model.specs.Superblock.{super_in}
use Rattle.block_device.specs.State.{DeviceState, EachMoment}
use Rattle.block_device.proofs.Moments.{each-joins, each-moves, each-stays}
use Rattle.journal_world.specs.Call.{Call, IsAfterFault, after_success}
use Rattle.journal_world.specs.Call.Call.{Flush}
use Rattle.journal_world.specs.Call.IsAfterFault.{Undone}
use Rattle.journal_world.specs.Opening.{IsOpenedLog}
use Rattle.journal_world.proofs.Places.{held-durable, held-flushed, is_write-fault, is_write-written}
use Rattle.log_epochs.proofs.CleanLogs.{clean-tail, opened-log}
use Rattle.recovery.specs.Calls.{HasBegun, HasMade, IsInterrupted, cleaning_calls, disk_after, writes_home}
use Rattle.recovery.specs.Calls.IsInterrupted.{Before, Within}
use Rattle.recovery.specs.HomeCopies.{home_copies}
use Rattle.recovery.proofs.CopiesReplayed.{copies-replayed}
use Rattle.recovery.proofs.LastCopies.{BlockCopies}
use Rattle.recovery.proofs.MadeCalls.{disk_after-append}
use Rattle.recovery.proofs.NewestHome.{home-copies-newest}
use Rattle.recovery.proofs.OpeningMoments.{BeforeEach, past-each}
use Rattle.damaged_logs.specs.Before.{IsMomentBefore, IsOpeningBefore, Takes}
use Rattle.damaged_logs.specs.Before.IsMomentBefore.{Unwritten}
use Rattle.damaged_logs.specs.BeforeSteps.{before_calls}
use Rattle.damaged_logs.proofs.BeforeImages.{CopiesDone, CopiesGo, none-live, done-flushed, done-moment, done-written, go-done, go-fault, go-flushed, go-moment, go-written, tail_of, taken-accepted}

-- P holds before each of these calls, after a failed one, and after all
abbrev pub AllAlong : (Disk → Type 0) → List Call → Disk → Type 0
AllAlong P [] disk = P disk
AllAlong P (call ∷ calls) disk = P disk × ((after : Disk) → IsAfterFault call disk after → P after) × AllAlong P calls (after_success call disk)

module _ (P : Disk → Type 0) where
  -- P holds before the first of them
  along-first : (calls : List Call) (disk : Disk) → AllAlong P calls disk → P disk
  along-first [] disk along = along
  along-first (call ∷ calls) disk along = along.0

  -- P holds before the first calls, and along the others
  along-split : (done due : List Call) (disk : Disk) → AllAlong P (done ++ due) disk → BeforeEach P done disk × AllAlong P due (disk_after done disk)
  along-split [] due disk along = (tt, along)
  along-split (call ∷ done) due disk along =
      let rest = along-split done due (after_success call disk) along.2 in
      ((along.0, rest.0), rest.1)

  -- P holds before each of them, and after all
  along-all : (calls : List Call) (disk : Disk) → AllAlong P calls disk → BeforeEach P calls disk × P (disk_after calls disk)
  along-all [] disk along = (tt, along)
  along-all (call ∷ calls) disk along =
      let rest = along-all calls (after_success call disk) along.2 in
      ((along.0, rest.0), rest.1)

  -- P holds at each moment of calls that were made
  made-each : (calls : List Call) (old new : DeviceState) → BeforeEach P calls old.disk → P (disk_after calls old.disk) → HasMade calls old new → EachMoment P old new
  made-each calls old new before last made =
      let past = past-each P calls old.disk old.past before in
      record { since = past.since; past = made.past ∙ past.past_is; each = past.each; now = subst P (sym made.disk) last }

  pub made-along : (calls : List Call) (old new : DeviceState) → AllAlong P calls old.disk → HasMade calls old new → EachMoment P old new
  made-along calls old new along made = let all = along-all calls old.disk along in made-each calls old new all.0 all.1 made

  -- P holds at each moment of a failure among these calls
  interrupted-along : (due : List Call) (mid new : DeviceState) → AllAlong P due mid.disk → IsInterrupted due mid new → EachMoment P mid new
  interrupted-along due mid new along (Before calls x y stays) = each-stays P mid new stays (along-first due mid.disk along)
  interrupted-along due mid new along (Within call calls x y disk fault moves) = each-moves P mid new disk moves along.0 (along.1 disk fault)

  -- P holds at each moment of calls of which one failed
  pub begun-along : (calls : List Call) (old new : DeviceState) → AllAlong P calls old.disk → HasBegun calls old new → EachMoment P old new
  begun-along calls old new along begun =
      let split = along-split begun.done begun.due old.disk (subst (λ (cs : List Call). AllAlong P cs old.disk) begun.split along) in
      each-joins P old begun.between new
      (made-each begun.done old begun.between split.0 (along-first begun.due (disk_after begun.done old.disk) split.1) begun.made)
      (interrupted-along begun.due begun.between new (subst (AllAlong P begun.due) (sym begun.made.disk) split.1) begun.interrupted)

-- a flush that failed changed nothing
flush-undone : {area : _} (old new : Disk) → IsAfterFault (Flush area) old new → new ≡ old
flush-undone old new (Undone call x y same) = same

module _ (shape : Shape) (old : Disk) (texts : List Text) (greatest : ℕ) (stopped : Option JournalError) (takes : Takes shape (reading old) texts greatest stopped)
    (size : length (old Log 0).reads ≡ shape.block_size) (small : greatest < greatest_number)
  where
    -- the log is marked clean once home is durable
    cleaning-along : (disk : Disk) → IsReplayed shape.home_blocks texts (reading old Home) (reading disk Home) → CopiesGo shape old texts disk →
        AllAlong (IsMomentBefore shape old) (cleaning_calls (tail_of old greatest)) disk
    cleaning-along disk replayed go =
        let durable = go-done shape old texts greatest disk replayed go in
        let named = done-written shape old texts greatest (flushed disk Home) (written (flushed disk Home) Log 0 (tail_of old greatest))
        (is_write-written (flushed disk Home) 0 (tail_of old greatest)) durable in (
          go-moment shape old texts greatest stopped takes disk go,
          (λ after fault. subst (IsMomentBefore shape old) (sym (flush-undone disk after fault)) (go-moment shape old texts greatest stopped takes disk go)),
          (
            done-moment shape old texts greatest stopped takes size small (flushed disk Home) durable,
            (λ after fault.
                done-moment shape old texts greatest stopped takes size small after
                (done-written shape old texts greatest (flushed disk Home) after (is_write-fault (flushed disk Home) after 0 (tail_of old greatest) fault) durable)),
            (
              done-moment shape old texts greatest stopped takes size small (written (flushed disk Home) Log 0 (tail_of old greatest)) named,
              (λ after fault.
                  subst (IsMomentBefore shape old) (sym (flush-undone (written (flushed disk Home) Log 0 (tail_of old greatest)) after fault))
                  (done-moment shape old texts greatest stopped takes size small (written (flushed disk Home) Log 0 (tail_of old greatest)) named)),
              done-moment shape old texts greatest stopped takes size small (flushed (written (flushed disk Home) Log 0 (tail_of old greatest)) Log)
                  (done-flushed shape old texts greatest (written (flushed disk Home) Log 0 (tail_of old greatest)) named),
            ),
          ),
        )

    -- copies go home before that
    copies-along : (copies : BlockCopies) (disk : Disk) → ((b : ℕ) (v : List ℕ) → Contains copies (b, v) → IsNewest texts b v) →
        IsReplayed shape.home_blocks texts (reading old Home) (reading (disk_after (writes_home copies) disk) Home) → CopiesGo shape old texts disk →
        AllAlong (IsMomentBefore shape old) (writes_home copies ++ cleaning_calls (tail_of old greatest)) disk
    copies-along [] disk newest replayed go = cleaning-along disk replayed go
    copies-along (c ∷ cs) disk newest replayed go =
        let first : IsNewest texts c.0 c.1 = newest c.0 c.1 (contains-first c cs c refl) in (
          go-moment shape old texts greatest stopped takes disk go,
          (λ after fault. go-moment shape old texts greatest stopped takes after (go-fault shape old texts disk after c.0 c.1 first fault go)),
          copies-along cs (written disk Home c.0 c.1) (λ b v among. newest b v (contains-behind c cs (b, v) among)) replayed
              (go-written shape old texts disk c.0 c.1 first go),
        )

    -- each moment is one of such an opening
    pub before-along : AllAlong (IsMomentBefore shape old) (before_calls texts (tail_of old greatest)) old
    before-along = (
      Unwritten refl,
      (λ after fault. Unwritten (flush-undone old after fault)),
      copies-along (home_copies texts) (flushed old Log) (home-copies-newest texts) (copies-replayed shape.home_blocks texts (flushed old Log))
          (go-flushed shape old texts),
    )

    -- the disk once the copies are home
    copies-go : (copies : BlockCopies) (disk : Disk) → ((b : ℕ) (v : List ℕ) → Contains copies (b, v) → IsNewest texts b v) → CopiesGo shape old texts disk →
        CopiesGo shape old texts (disk_after (writes_home copies) disk)
    copies-go [] disk newest go = go
    copies-go (c ∷ cs) disk newest go =
        copies-go cs (written disk Home c.0 c.1) (λ b v among. newest b v (contains-behind c cs (b, v) among))
        (go-written shape old texts disk c.0 c.1 (newest c.0 c.1 (contains-first c cs c refl)) go)

    -- the disk once all calls are made
    abbrev ended : Disk → Disk
    ended disk = flushed (written (flushed disk Home) Log 0 (tail_of old greatest)) Log

    -- the copies are home by then
    abbrev copied : Disk
    copied = disk_after (writes_home (home_copies texts)) (flushed old Log)

    ended-done : CopiesDone shape old texts greatest (ended copied)
    ended-done =
        done-flushed shape old texts greatest (written (flushed copied Home) Log 0 (tail_of old greatest))
        (done-written shape old texts greatest (flushed copied Home) (written (flushed copied Home) Log 0 (tail_of old greatest))
        (is_write-written (flushed copied Home) 0 (tail_of old greatest))
        (go-done shape old texts greatest copied (copies-replayed shape.home_blocks texts (flushed old Log))
        (copies-go (home_copies texts) (flushed old Log) (home-copies-newest texts) (go-flushed shape old texts))))

    -- the log is opened, with the number after the greatest
    ended-log : IsOpenedLog shape (ended copied) (tail_of old greatest) (greatest + 1)
    ended-log =
        let tail = clean-tail shape (old Log 0).reads (greatest + 1) (taken-accepted shape (reading old) texts takes.taken) size (omega arith) in
        let sequence : (super_in (tail_of old greatest)).s_sequence ≡ greatest + 1 = tail.sequence in
        opened-log shape (reading old) (ended copied) (tail_of old greatest) greatest
        (record {
          is_superblock = record { accepted = tail.accepted; size = tail.size; layout_is = refl; ring_is = refl };
          clean = tail.clean;
          low = omega arith;
          high = omega arith;
        })
        small refl (λ n v other one. held-durable (ended copied) n (old Log n).reads v (ended-done.log n other) one) tail.ring takes.greatest_is.none_ahead

    -- it is a whole opening
    pub made-before : (new : Disk) → new ≡ disk_after (before_calls texts (tail_of old greatest)) old →
        ((super_of (reading old)).s_start ≡ 0 → stopped ≡ None → ⊥) → IsOpeningBefore shape old new texts greatest stopped (tail_of old greatest) (greatest + 1)
    made-before new is written_there =
        let end : new ≡ ended copied = is ∙ disk_after-append (writes_home (home_copies texts)) (cleaning_calls (tail_of old greatest)) (flushed old Log) in
        subst (λ (d : Disk). IsOpeningBefore shape old d texts greatest stopped (tail_of old greatest) (greatest + 1)) (sym end)
        (record {
          takes = takes;
          number = refl;
          home = ended-done.replayed;
          log = ended-log;
          others = λ n other. ended-done.log n other;
          untouched = λ clean none. absurd (written_there clean none);
        })

    -- a clean log that nothing stops is left as it is
    pub left-before : (new : Disk) → new ≡ flushed old Log → texts ≡ [] → (super_of (reading old)).s_start ≡ 0 → greatest ≡ (super_of (reading old)).s_sequence →
        IsOpeningBefore shape old new texts greatest stopped (old Log 0).reads (greatest + 1)
    left-before new is none clean end =
        subst (λ (d : Disk). IsOpeningBefore shape old d texts greatest stopped (old Log 0).reads (greatest + 1)) (sym is)
        (record {
          takes = takes;
          number = refl;
          home = λ b below. inr (subst (λ (ts : List Text). HasNoLive ts b) (sym none) (none-live b), refl);
          log =
              opened-log shape (reading old) (flushed old Log) (old Log 0).reads greatest
              (record {
                is_superblock = record { accepted = taken-accepted shape (reading old) texts takes.taken; size = size; layout_is = refl; ring_is = refl };
                clean = clean;
                low = omega arith;
                high = omega arith;
              })
              small refl (λ n v other one. held-flushed old n v one) refl takes.greatest_is.none_ahead;
          others = λ n other. refl;
          untouched = λ other more. refl;
        })

    -- each moment of that is one, too
    pub left-along : AllAlong (IsMomentBefore shape old) (Flush Log ∷ []) old
    left-along = (
      Unwritten refl,
      (λ after fault. Unwritten (flush-undone old after fault)),
      go-moment shape old texts greatest stopped takes (flushed old Log) (go-flushed shape old texts),
    )
