-- The parts of a journal that closed, or whose close was refused.
use Rattle.std.proofs.Common.{refl, sym, ◌∙◌, ap, subst, arith, inr}
use Rattle.std.specs.Prelude.{◌≡◌, ℕ, ◌≤◌, false, [], ◌∷◌, length, Result, Ok, Err, MatchResult}
use Rattle.std.proofs.lemmas.Bool.{true≢false}
use Rattle.journal_model.specs.declared.refusal.JournalError.{JournalError}
use Rattle.journal_model.specs.declared.refusal.JournalError.TheVariants.{Device}
use Rattle.journal_model.specs.Disk.{Disk, Image, Leaves}
use Rattle.log_model.specs.Opening.{Opens}
use Rattle.journal_model.specs.Transaction.{History}
use Rattle.block_device.specs.State.{DeviceState, one_more_fault}
use Rattle.journal_world.specs.declared.stage.Stage.TheVariants.{Idle}
use Rattle.journal_world.specs.Engine.{Engine}
use Rattle.journal_world.specs.Front.{Front}
use Rattle.journal_world.specs.Journal.{Journal}
use Rattle.journal_world.specs.Sound.{IsPlain, OpensBetween, StageAgrees}
use Rattle.journal_world.proofs.Batches.{same-length}
use Rattle.log_epochs.specs.EngineWorld.{Phase}
use Rattle.log_epochs.specs.EngineWorld.Phase.{Closed, Running, Shut}
use Rattle.log_epochs.specs.JournalPromise.{IsClosed}
use Rattle.log_engine.specs.Close.{CloseDid as EngineCloseDid, CloseRefused as EngineCloseRefused, IsAllReleased, IsClosedLog}
use Rattle.log_engine.specs.Close.CloseDid.{WasClean, Closes}
use Rattle.log_engine.specs.Close.CloseRefused.{CloseAborted, CloseFailed}
use Rattle.log_engine.specs.Engine.{EngineValue}
use Rattle.group_commit.specs.Close.{CloseDid, CloseRefused, ComesTo, EndsWith, IsFinished}
use Rattle.group_commit.specs.Close.CloseDid.{ClosesLog, StaysClean}
use Rattle.journal_steps.specs.Journal.{Agrees, OpensOver}
use Rattle.journal_steps.specs.Values.{JournalValue}
use Rattle.group_commit.proofs.Finishing.{all-sealed}
use Rattle.group_commit.proofs.Leading.{comes-after, comes-closed, comes-failed, comes-out}
use Rattle.journal_steps.proofs.Turning.{opens-over}

-- a closed log opens to all that was sealed
pub closed-over : (f : Front) (e : Engine) (disk : Disk) → Agrees (record { front = f; engine = e }) → IsClosedLog e disk → (image : Image) →
    Leaves disk image → IsClosed e.shape f.sealed image
closed-over f e disk agrees closed image leaves =
    let at = closed.opens.each image leaves in
    let low : length e.accepted ≤ at.0 = at.1 in
    let high : at.0 ≤ length e.accepted = at.2 in
    let size = same-length f.sealed e.accepted agrees.batches in
    let same : at.0 ≡ length f.sealed = omega arith in
    record {
      clean = closed.clean image leaves;
      all = subst (λ (n : ℕ). Opens e.shape f.sealed n image) same (at.3.opens f.sealed agrees.batches);
    }

-- what opens to everything handed over opens to everything sealed
pub opens-closed : (f : Front) (e : Engine) (disk : Disk) → Agrees (record { front = f; engine = e }) →
    OpensBetween e.shape e.accepted (length e.accepted) (length e.accepted) disk → OpensOver e.shape f.sealed (length f.sealed) (length f.sealed) disk
opens-closed f e disk agrees opens =
    let size = same-length f.sealed e.accepted agrees.batches in
    let same : length e.accepted ≡ length f.sealed = omega arith in
    subst (λ (n : ℕ). OpensOver e.shape f.sealed n (length f.sealed) disk) same
    (opens-over e.shape f.sealed e.accepted (length e.accepted) disk agrees.batches opens)

-- if a running engine's close is refused, the device failed
pub close-wrong : {D : Type 0} (state : D → DeviceState) (old : EngineValue D) (new : D) (e : JournalError) → old.engine.aborted ≡ false →
    EngineCloseRefused state old new e → (e ≡ Device) × ((state new).faults ≡ one_more_fault (state old.device).faults)
close-wrong state old new e running (CloseAborted is same) = absurd (true≢false (sym is ∙ running))
close-wrong state old new e running (CloseFailed moves counted) = (refl, counted)

-- a list of length 0 is empty
no-elements : (ts : History) → length ts ≡ 0 → ts ≡ []
no-elements [] none = refl
no-elements (t ∷ ts) none = absurd (omega arith)

-- weaker properties of either answer follow from stronger ones
pub both-weaker : {T E : Type 0} (r : Result T E) (P Q : T → Type 0) (R S : E → Type 0) → ((x : T) → P x → Q x) → ((e : E) → R e → S e) →
    MatchResult r P R → MatchResult r Q S
both-weaker (Ok x) P Q R S weaker other p = weaker x p
both-weaker (Err e) P Q R S weaker other p = other e p

module _ {D : Type 0} (state : D → DeviceState) where
  -- if the log could not be closed, the journal's close is refused
  pub log-refused : (old mid : JournalValue D) (device : D) (sealed : History) (committed : ℕ) (e : JournalError) → IsFinished state old mid →
      e ≡ Device → sealed ≡ mid.journal.front.sealed → committed ≡ mid.journal.engine.committed →
      (state device).faults ≡ one_more_fault (state mid.device).faults → CloseRefused state old device sealed committed e
  log-refused old mid device sealed committed e done is kept count counted =
      let low : old.journal.engine.committed ≤ mid.journal.engine.committed = done.committed in
      subst (CloseRefused state old device sealed committed) (sym is)
      (CloseRefused.CloseFailed done.was_running (inr (kept ∙ done.sealed)) (omega arith) (counted ∙ ap one_more_fault done.faults))

  -- the close of the engine's log is the close of the journal's log
  pub log-closed : (f : Front) (old : EngineValue D) (new : D) (sealed : History) (committed : ℕ) → Agrees (record { front = f; engine = old.engine }) →
      IsPlain old.engine → IsAllReleased old.engine → EngineCloseDid state old new → sealed ≡ f.sealed → committed ≡ length sealed →
      CloseDid (record { front = f; engine = old.engine }) (state old.device).disk sealed committed (state new).disk
  log-closed f old new sealed committed agrees plain all (WasClean running fresh same) is count =
      let j : Journal = record { front = f; engine = old.engine } in
      let stage : StageAgrees old.engine Idle = subst (StageAgrees old.engine) all.idle plain.stage in
      let zero : old.engine.committed ≡ 0 = stage.1 fresh in
      let every : old.engine.committed ≡ length f.sealed = all-sealed state j agrees plain all.idle in
      let size : length sealed ≡ length f.sealed = ap length is in
      let none : length sealed ≡ 0 = omega arith in
      let told : committed ≡ old.engine.committed = omega arith in
      StaysClean (no-elements sealed none)
      (record {
        last = j;
        comes = subst (λ (d : D). ComesTo j (state old.device).disk j (state d).disk Shut) (sym same) (comes-out j (state old.device).disk);
        sealed_is = is;
        committed_is = told;
      })
  log-closed f old new sealed committed agrees plain all (Closes closes) is count =
      let j : Journal = record { front = f; engine = old.engine } in
      let every : old.engine.committed ≡ length f.sealed = all-sealed state j agrees plain all.idle in
      let size : length sealed ≡ length f.sealed = ap length is in
      let told : committed ≡ old.engine.committed = omega arith in
      ClosesLog
      (record {
        last = j;
        comes = comes-closed j (state old.device).disk (state new).disk closes;
        sealed_is = is;
        committed_is = told;
      })

  -- a failed close of the engine's log ends the journal in the phase `Shut`
  pub log-failed : (f : Front) (old : EngineValue D) (new : D) (sealed : History) (committed : ℕ) (e : JournalError) → old.engine.aborted ≡ false →
      EngineCloseRefused state old new e → sealed ≡ f.sealed → committed ≡ old.engine.committed →
      EndsWith (record { front = f; engine = old.engine }) (state old.device).disk sealed committed (state new).disk Shut
  log-failed f old new sealed committed e running (CloseAborted aborted same) is count = absurd (true≢false (sym aborted ∙ running))
  log-failed f old new sealed committed e running (CloseFailed closes counted) is count =
      let j : Journal = record { front = f; engine = old.engine } in
      record {
        last = j;
        comes = comes-failed j (state old.device).disk (state new).disk closes;
        sealed_is = is;
        committed_is = count;
      }

  -- earlier moves can be put in front of moves that end a journal
  pub ends-after : (old mid : JournalValue D) (sealed : History) (committed : ℕ) (after : Disk) (phase : Phase) →
      ComesTo old.journal (state old.device).disk mid.journal (state mid.device).disk Running →
      EndsWith mid.journal (state mid.device).disk sealed committed after phase → EndsWith old.journal (state old.device).disk sealed committed after phase
  ends-after old mid sealed committed after phase path ends = record {
    last = ends.last;
    comes = comes-after old.journal mid.journal ends.last (state old.device).disk (state mid.device).disk after phase path ends.comes;
    sealed_is = ends.sealed_is;
    committed_is = ends.committed_is;
  }

  pub did-after : (old mid : JournalValue D) (sealed : History) (committed : ℕ) (after : Disk) →
      ComesTo old.journal (state old.device).disk mid.journal (state mid.device).disk Running →
      CloseDid mid.journal (state mid.device).disk sealed committed after → CloseDid old.journal (state old.device).disk sealed committed after
  did-after old mid sealed committed after path (ClosesLog ends) = ClosesLog (ends-after old mid sealed committed after Closed path ends)
  did-after old mid sealed committed after path (StaysClean none ends) = StaysClean none (ends-after old mid sealed committed after Shut path ends)

  -- handing out the journal as it is ends it
  pub parts-end : (old mid : JournalValue D) (device : D) (sealed : History) (committed : ℕ) →
      ComesTo old.journal (state old.device).disk mid.journal (state mid.device).disk Running → device ≡ mid.device →
      sealed ≡ mid.journal.front.sealed → committed ≡ mid.journal.engine.committed →
      EndsWith old.journal (state old.device).disk sealed committed (state device).disk Shut
  parts-end old mid device sealed committed path device_is sealed_is committed_is = record {
    last = mid.journal;
    comes =
        subst (λ (d : D). ComesTo old.journal (state old.device).disk mid.journal (state d).disk Shut) (sym device_is)
        (comes-after old.journal mid.journal mid.journal (state old.device).disk (state mid.device).disk (state mid.device).disk Shut path
        (comes-out mid.journal (state mid.device).disk));
    sealed_is = sealed_is;
    committed_is = committed_is;
  }
