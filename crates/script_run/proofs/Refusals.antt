-- Lemmas: with numbers left, no opening of a run's crash image is refused, nor one of a crash image of such an opening.
use Rattle.std.proofs.Common.{◌∙◌, ap, arith, length-append, refl, subst, sym}
use Rattle.std.proofs.lemmas.Bool.Decides.{nat_tests}
use Rattle.std.proofs.lemmas.List.FromFn.{length-map-range_with_len}
use Rattle.std.proofs.lemmas.Option.{none-some, same_Some}
use Rattle.std.specs.Prelude.{◌≡◌, ◌≢◌, ◌⊎◌, ℕ, ◌+◌, ◌-◌, ◌<◌, ◌≤◌, Bool, true, false, List, [], ◌∷◌, ◌++◌, length, Option, Some, None, slice_get}
use Rattle.std.specs.List.{range_with_len}
use Rattle.journal_model.specs.declared.number.Area.TheVariants.{Log}
use Rattle.journal_model.specs.declared.refusal.JournalError.{JournalError}
use Rattle.journal_model.specs.declared.refusal.JournalError.TheVariants.{Device, Memory, SequenceEnd}
use Rattle.journal_model.specs.Disk.{Disk, Image, Leaves, Shape, disk_of, reading}
use Rattle.journal_model.specs.Transaction.{AreNumbered, History, Transaction, Volume}
use Rattle.log_model.specs.declared.log.Text.{Text}
use Rattle.log_model.specs.Chain.{IsAhead, Ring, lap, place_from, texts_blocks}
use Rattle.log_model.specs.Opening.{HasChain, HasLimit, IsRefused, NothingAhead, OpensAs, greatest_number, log_lap, ring_of, super_of}
use Rattle.log_model.specs.Opening.HasLimit.{OfChain, OfClean}
use Rattle.log_model.specs.Opening.IsRefused.{ByAhead, ByDamage, ByNumber, BySuperblock}
use Rattle.log_model.specs.Opening.OpensAs.{Clean, Replayed}
use Rattle.log_model.specs.Superblock.{greatest_length, super_in, super_refusal}
use Rattle.log_model.specs.Text.{pieces_blocks, text_blocks}
use Rattle.block_device.specs.Memory.{MemState, crashed, state_of}
use Rattle.block_device.specs.State.{DeviceState}
use Rattle.journal_world.specs.Engine.{Engine}
use Rattle.journal_world.specs.Journal.{KeepsFront}
use Rattle.journal_world.specs.Sound.{MayBeSuperblock, Sound}
use Rattle.journal_world.specs.Sound.MayBeSuperblock.{Clean as CleanBlock, New, Old}
use Rattle.journal_world.proofs.Batches.{same-length}
use Rattle.journal_world.proofs.Positions.{committed-few}
use Rattle.log_epochs.specs.Epoch.{Epoch}
use Rattle.log_epochs.specs.JournalPromise.{KeepsPromise, Kept}
use Rattle.log_epochs.specs.JournalWorld.{JournalWorld, Told}
use Rattle.log_epochs.specs.OpeningRun.{IsMoment}
use Rattle.log_epochs.proofs.Journals.{journal-promise, run-below}
use Rattle.log_epochs.proofs.Keeping.{one-limit}
use Rattle.log_epochs.proofs.Lives.{RunsIn, begin-holds, life-holds, life-promise, runs-in}
use Rattle.log_epochs.proofs.Moments.{moment-keeps}
use Rattle.recovery.specs.Opening.{Tells}
use Rattle.recovery.specs.Opening.Tells.{OfChain as TellsChain, OfClean as TellsClean}
use Rattle.journal_script.specs.declared.script.Operation.{Operation}
use Rattle.script_client.specs.Told.{IsLedTo, IsZeroHome, running_world}
use Rattle.script_run.specs.Left.{IsCrashOf}
use Rattle.script_run.specs.Numbers.{HasNumbersLeft}
use Rattle.script_run.specs.OpenedImages.{IsUnopened}
use Rattle.script_run.specs.Reopening.{FollowsOn, IsStoppedAt}
use Rattle.script_run.proofs.Judging.{HasLimit-from_tells}
use Rattle.script_run.proofs.OpeningMoves.{moment-reaches, stop-reaches, stopped_world}
use Rattle.script_run.proofs.Reopened.{follows-moment}
use Rattle.script_run.proofs.Verdicts.{crash-disk, crash-leaves}

-- a text has a commit block at least
some-blocks : (ts : List Text) → length ts ≤ length (texts_blocks ts)
some-blocks [] = omega arith
some-blocks (t ∷ ts) =
    let rest : length ts ≤ length (texts_blocks ts) = some-blocks ts in
    let sum : length (text_blocks t ++ texts_blocks ts) ≡ length (text_blocks t) + length (texts_blocks ts) = length-append (text_blocks t) (texts_blocks ts) in
    let one : length (pieces_blocks t.pieces ++ t.commit ∷ []) ≡ length (pieces_blocks t.pieces) + 1 = length-append (pieces_blocks t.pieces) (t.commit ∷ []) in
    omega arith

-- a lap has as many blocks as the ring
lap-length : (r : Ring) (image : Image) (place : ℕ) → length (lap r image place) ≡ r.blocks
unfolding lap
lap-length r image place = length-map-range_with_len (λ k. image Log (place_from r place k)) 0 r.blocks

-- an accepted log has no more blocks than a log may have
greatest : (shape : Shape) (block : List ℕ) → super_refusal shape block ≡ None → (super_in block).s_maxlen ≤ greatest_length
greatest shape block accepted = grind (arith, nat_tests)

-- so its chain has no more texts than that
few-texts : (shape : Shape) (image : Image) (texts : List Text) → HasChain shape image texts → length texts ≤ greatest_length
few-texts shape image texts has =
    let begins = has.chain.begins in
    let all : length (log_lap image) ≡ length (texts_blocks texts) + length begins.rest =
    ap (λ (bs : List (List ℕ)). length bs) begins.split ∙ length-append (texts_blocks texts) begins.rest in
    let lap_is : length (log_lap image) ≡ (ring_of (super_of image)).blocks = lap-length (ring_of (super_of image)) image (super_of image).s_start in
    let most : (super_of image).s_maxlen ≤ greatest_length = greatest shape (image Log 0) has.started.accepted in
    let some : length texts ≤ length (texts_blocks texts) = some-blocks texts in
    omega arith

-- the number in block 0 is at most the one after the committed transactions
low-number : (e : Engine) (v : List ℕ) → (e.released ≤ e.bound) × (e.bound ≤ e.committed) → MayBeSuperblock e v → (super_in v).s_sequence ≤ e.first + e.committed
low-number e v order (CleanBlock may names) = let high = names.high in omega arith
low-number e v order (Old names) = let low : e.released ≤ e.bound = order.0 in let high : e.bound ≤ e.committed = order.1 in let is = names.sequence in omega arith
low-number e v order (New moves names) = let high : e.bound ≤ e.committed = order.1 in let is = names.sequence in omega arith

-- the limit of a crash image of a running engine
low-limit : (e : Engine) (disk : Disk) (shape : Shape) (image : Image) (limit : ℕ) → Sound e disk → Leaves disk image → HasLimit shape image limit
    → limit ≤ e.first + e.committed + greatest_length
low-limit e disk shape image limit sound leaves (OfClean clean) =
    let low : (super_of image).s_sequence ≤ e.first + e.committed = low-number e (image Log 0) sound.plain.order (sound.superblock (image Log 0) (leaves.each Log 0)) in
    omega arith
low-limit e disk shape image limit sound leaves (OfChain texts has) =
    let low : (super_of image).s_sequence ≤ e.first + e.committed = low-number e (image Log 0) sound.plain.order (sound.superblock (image Log 0) (leaves.each Log 0)) in
    let few : length texts ≤ greatest_length = few-texts shape image texts has in
    omega arith

-- an image that opens has a limit, which its report has
pub record IsToldOf (shape : Shape) (image : Image) : Type 0 where
  clean : Bool
  ends_at : ℕ
  transactions : ℕ
  tells : Tells shape image clean ends_at transactions

told-of : (shape : Shape) (image : Image) (got : Volume) → OpensAs shape image got → IsToldOf shape image
told-of shape image got (Clean clean none same) = record { clean = true; ends_at = _; transactions = _; tells = TellsClean clean }
told-of shape image got (Replayed texts has none made) = record { clean = false; ends_at = _; transactions = _; tells = TellsChain texts has }

-- no block is ahead of the limit
none-ahead : (shape : Shape) (image : Image) (got : Volume) (limit : ℕ) → OpensAs shape image got → HasLimit shape image limit → NothingAhead image limit
none-ahead shape image got limit (Clean clean none same) has = subst (NothingAhead image) (one-limit shape image _ limit (OfClean clean) has) none
none-ahead shape image got limit (Replayed texts chain none made) has = subst (NothingAhead image) (one-limit shape image _ limit (OfChain texts chain) has) none

-- it is accepted, and not damaged
is-accepted : (shape : Shape) (image : Image) (got : Volume) → OpensAs shape image got → super_refusal shape (image Log 0) ≡ None
is-accepted shape image got (Clean clean none same) = clean.accepted
is-accepted shape image got (Replayed texts has none made) = has.started.accepted

-- so it is not refused, if a number is left
opens-unrefused : (shape : Shape) (image : Image) (got : Volume) (e : JournalError) → OpensAs shape image got
    → (e ≡ SequenceEnd → (limit : ℕ) → HasLimit shape image limit → limit < greatest_number) → IsRefused shape image e → ⊥
opens-unrefused shape image got e opens number (BySuperblock other refused) = none-some other (sym (is-accepted shape image got opens) ∙ refused)
opens-unrefused shape image got e (Clean clean none same) number (ByDamage k damage) = damage.started.started clean.clean
opens-unrefused shape image got e (Replayed texts has none made) number (ByDamage k damage) = has.undamaged k damage
opens-unrefused shape image got e opens number (ByAhead limit place has ahead least) = none-ahead shape image got limit opens has place ahead
opens-unrefused shape image got e opens number (ByNumber limit has none last) = let small = number refl limit has in omega arith

-- the first of numbered transactions has the first number
first-number : (first : ℕ) (ts : History) (t : Transaction) → AreNumbered first ts → slice_get ts 0 ≡ Some t → t.tid ≡ first
first-number first [] t numbered is = absurd (none-some t is)
first-number first (x ∷ xs) t numbered is = ap (λ (s : Transaction). s.tid) (sym (same_Some x t is)) ∙ numbered.0

-- an opening after a stopped opening ends at most one number later
next-limit : (was_clean clean : Bool) (limit ends_at : ℕ) → FollowsOn was_clean limit clean ends_at → ends_at ≤ limit + 1
next-limit false false limit ends_at is = omega arith
next-limit false true limit ends_at is = omega arith
next-limit true true limit ends_at is = omega arith
next-limit true false limit ends_at is = absurd is

module _ (operations : List Operation) (state : DeviceState) (sealed : History) (shown : Option ℕ) (to : IsLedTo IsZeroHome operations state sealed shown) where
  -- the world of the journal that the moves lead to
  abbrev end : JournalWorld
  end = running_world to.led.opening to.journal state to.led.directs to.led.answered

  abbrev epoch : Epoch
  epoch = record { opening = to.led.opening; engine = to.journal.engine; directs = to.led.directs; pin = None }

  promise : KeepsPromise end
  promise = journal-promise life-promise to.led.start end to.led.moves to.led.begins to.led.leads

  -- its engine is sound
  runs : RunsIn state.shape epoch state.disk
  runs =
      let below = run-below to.led.start end to.led.moves to.led.leads in
      let holds = life-holds to.led.start.below end.below below.0 (begin-holds to.led.start.below to.led.begins.below) below.1 in
      runs-in state.shape (Some epoch) epoch state.disk refl holds.0

  -- if numbers are left, the limit of a crash image and the next number are below the greatest number
  limit-left : (image : Image) (limit : ℕ) → Leaves state.disk image → HasLimit state.shape image limit → HasNumbersLeft sealed → limit + 1 < greatest_number
  limit-left image limit leaves has left =
      let e : Engine = to.journal.engine in
      let front : KeepsFront to.journal.front e = promise.front in
      let kept = promise.now image leaves in
      let low : limit ≤ e.first + e.committed + greatest_length = low-limit e state.disk state.shape image limit runs.runs.sound leaves has in
      let few : e.committed ≤ length e.accepted = committed-few e e.stage runs.runs.sound.plain.stage in
      let same : length to.journal.front.sealed ≡ length e.accepted = same-length to.journal.front.sealed e.accepted front.accepted in
      let size : length sealed ≡ length to.journal.front.sealed = ap (λ (ts : History). length ts) to.sealed_is in
      let number : left.first.tid ≡ e.first =
      first-number e.first sealed left.first (subst (AreNumbered e.first) (sym to.sealed_is) kept.numbered) left.is_first in
      let most = left.left in
      omega arith

  -- a crash image is not refused, if numbers are left
  image-unrefused : (image : Image) (e : JournalError) → Leaves state.disk image → (e ≡ SequenceEnd → HasNumbersLeft sealed) → IsRefused state.shape image e → ⊥
  image-unrefused image e leaves left refused =
      opens-unrefused state.shape image _ e (promise.now image leaves).opens.opens
      (λ is limit has. let small = limit-left image limit leaves has (left is) in omega arith) refused

  -- nor is a crash image of a stopped opening of it
  second-unrefused : (image left : Image) (disk : Disk) (e : JournalError) → Leaves state.disk image → IsMoment state.shape (disk_of image) disk → Leaves disk left
      → (e ≡ SequenceEnd → HasNumbersLeft sealed) → IsRefused state.shape left e → ⊥
  second-unrefused image left disk e leaves moment leaves_again numbers refused =
      let led = to.led in
      let j = to.journal in
      let reached = stop-reaches led.start led.opening j state led.directs led.answered image leaves (record { moves = led.moves; leads = led.leads }) in
      let now = moment-reaches led.start led.opening j state.shape led.directs led.answered image (disk_of image) disk moment reached in
      let later : JournalWorld = stopped_world led.opening j state.shape led.directs led.answered image disk now.phase in
      let also : KeepsPromise later = journal-promise life-promise led.start later now.is.moves led.begins now.is.leads in
      let opens = (also.now left leaves_again).opens.opens in
      let first : IsToldOf state.shape image = told-of state.shape image _ (promise.now image leaves).opens.opens in
      let second : IsToldOf state.shape left = told-of state.shape left _ opens in
      let first_limit : HasLimit state.shape image first.ends_at = HasLimit-from_tells state.shape image first.clean first.ends_at first.transactions first.tells in
      let second_limit : HasLimit state.shape left second.ends_at = HasLimit-from_tells state.shape left second.clean second.ends_at second.transactions second.tells in
      let follows : FollowsOn first.clean first.ends_at second.clean second.ends_at =
      follows-moment state.shape (disk_of image) disk left first.clean second.clean first.ends_at first.transactions second.ends_at second.transactions (λ n. refl)
      (moment-keeps state.shape (disk_of image) disk moment) leaves_again first.tells second.tells in
      let next : second.ends_at ≤ first.ends_at + 1 = next-limit first.clean second.clean first.ends_at second.ends_at follows in
      opens-unrefused state.shape left _ e opens
      (λ is limit has.
      let same : limit ≡ second.ends_at = one-limit state.shape left limit second.ends_at has second_limit in
      let small = limit-left image first.ends_at leaves first_limit (numbers is) in omega arith)
      refused

-- without device and memory failures, and with numbers left, no opening of a run's crash image is refused
pub crash-unrefused : (operations : List Operation) (device : MemState) (keep : List ℕ) (sealed : History) (shown : Option ℕ) (image : MemState) (e : JournalError)
    → IsLedTo IsZeroHome operations (state_of device) sealed shown → IsCrashOf device keep image → IsUnopened image.shape (reading (state_of image).disk) e
    → (e ≢ Device) → (e ≢ Memory) → (e ≡ SequenceEnd → HasNumbersLeft sealed) → ⊥
crash-unrefused operations device keep sealed shown image e to crash why device_is memory_is numbers =
    image-unrefused operations (state_of device) sealed shown to (crashed keep device) e (crash-leaves device keep) numbers
    (subst (λ (s : Shape). IsRefused s (crashed keep device) e) crash.shape_is
    (subst (λ (m : Image). IsRefused image.shape m e) (ap reading (crash-disk device keep image crash)) (why device_is memory_is)))

-- nor is one of a crash image of such an opening
pub again-unrefused : (operations : List Operation) (device : MemState) (keep : List ℕ) (sealed : History) (shown : Option ℕ) (image : MemState) (j : ℕ) (later : MemState) (keep_again : List ℕ)
    (left : MemState) (e : JournalError) → IsLedTo IsZeroHome operations (state_of device) sealed shown → IsCrashOf device keep image → IsStoppedAt (state_of image) j later
    → IsCrashOf later keep_again left → IsUnopened left.shape (reading (state_of left).disk) e
    → (e ≢ Device) → (e ≢ Memory) → (e ≡ SequenceEnd → HasNumbersLeft sealed) → ⊥
again-unrefused operations device keep sealed shown image j later keep_again left e to crash stopped crash_again why device_is memory_is numbers =
    let disk : (state_of image).disk ≡ disk_of (crashed keep device) = crash-disk device keep image crash in
    let moment : IsMoment device.shape (disk_of (crashed keep device)) (state_of later).disk =
    subst (λ (s : Shape). IsMoment s (disk_of (crashed keep device)) (state_of later).disk) crash.shape_is
    (subst (λ (d : Disk). IsMoment image.shape d (state_of later).disk) disk stopped.moment) in
    let shape : left.shape ≡ device.shape = crash_again.shape_is ∙ stopped.shape_is ∙ crash.shape_is in
    second-unrefused operations (state_of device) sealed shown to (crashed keep device) (crashed keep_again later) (state_of later).disk e (crash-leaves device keep) moment
    (crash-leaves later keep_again) numbers
    (subst (λ (s : Shape). IsRefused s (crashed keep_again later) e) shape
    (subst (λ (m : Image). IsRefused left.shape m e) (ap reading (crash-disk later keep_again left crash_again)) (why device_is memory_is)))
