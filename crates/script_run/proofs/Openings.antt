-- Lemmas: verdicts on images that were opened once or twice.
use Rattle.std.proofs.Common.{◌∙◌, ℕ, List, [], Bool, Option, ap, ap₂, refl, subst, sym}
use Rattle.std.specs.Prelude.{◌≡◌, ◌↔◌, ◌<◌, All, IsTrue, Some, None}
use Rattle.journal_model.specs.declared.number.Area.{Area}
use Rattle.journal_model.specs.declared.number.Area.TheVariants.{Home}
use Rattle.journal_model.specs.Disk.{Disk, Image, Shape, reading}
use Rattle.log_model.specs.Opening.{OpensAs, numbered_below}
use Rattle.journal_model.specs.Transaction.{History, Volume}
use Rattle.block_device.specs.Memory.{MemState, after_calls, crashed, state_of}
use Rattle.block_device.specs.State.{DeviceState, Stays}
use Rattle.block_device.specs.declared.memory.Call.{Call as MemCall}
use Rattle.block_device.specs.declared.stop.StopAt.{StopAt}
use Rattle.block_device.specs.Stop.{inner_of, stopping}
use Rattle.journal_world.specs.Call.{Call}
use Rattle.log_epochs.specs.OpeningRun.{IsFoundOn, IsMoment}
use Rattle.log_epochs.specs.OpeningSteps.{Found}
use Rattle.block_device.proofs.OneCall.{stays-joins}
use Rattle.recovery.specs.declared.opening.Report.{Report}
use Rattle.recovery.specs.Calls.{HasMade, IsInterrupted, disk_after, opening_calls, past_after}
use Rattle.recovery.specs.Calls.IsInterrupted.{Before, Within}
use Rattle.recovery.specs.Opening.{IsBroken, IsDone, Tells}
use Rattle.recovery.specs.Opening.IsBroken.{Reading, Writing}
use Rattle.std.specs.BTreeSet.{keys}
use Rattle.journal_script.specs.declared.script.NamedBlocks.{NamedBlocks}
use Rattle.script_run.specs.declared.opening.OpenedImage.{OpenedImage}
use Rattle.script_run.specs.declared.reopening.Attempt.{Attempt}
use Rattle.script_run.specs.declared.reopening.Attempt.TheVariants.{Whole, Stopped}
use Rattle.script_run.specs.Copying.{IsOnlyRead}
use Rattle.script_run.specs.Left.{IsVerdictBy}
use Rattle.script_run.specs.OpenedImages.{IsOpenedImage}
use Rattle.script_run.specs.Reopening.{FollowsOn, IsAttempt, IsBefore, IsOpeningVerdict, IsSecondVerdict, IsStoppedAt, IsStoppedAttempt, IsWholeAttempt}
use Rattle.script_run.specs.Reopening.IsOpeningVerdict.{Once, Twice}
use Rattle.script_run.specs.Verdict.{IsImageVerdict, IsRight}
use Rattle.script_run.proofs.Judging.{HasLimit-from_tells, IsImageVerdict-from}

-- the answer of an opening on a device in memory is an opened image
pub opened-image : (image before after : MemState) (opened : OpenedImage) (found : Report) → before ≡ image → opened.device ≡ after → opened.report ≡ found
    → Tells before.shape (reading (state_of before).disk) found.clean found.ends_at found.transactions
    → OpensAs before.shape (reading (state_of before).disk) (reading (state_of after).disk Home)
    → after.shape ≡ before.shape
    → IsOpenedImage image.shape (state_of image).disk opened
opened-image image before after opened found same device report tells opens shape = record {
  tells =
      subst (λ (m : MemState). Tells m.shape (reading (state_of m).disk) opened.report.clean opened.report.ends_at opened.report.transactions) same
      (subst (λ (r : Report). Tells before.shape (reading (state_of before).disk) r.clean r.ends_at r.transactions) (sym report) tells);
  opens =
      subst (λ (m : MemState). OpensAs m.shape (reading (state_of m).disk) (reading (state_of opened.device).disk Home)) same
      (subst (λ (m : MemState). OpensAs before.shape (reading (state_of before).disk) (reading (state_of m).disk Home)) (sym device) opens);
  shape_is = ap (λ (m : MemState). m.shape) device ∙ shape ∙ ap (λ (m : MemState). m.shape) same;
}

-- calls between two unchanged states of a device are calls from the first to the last
HasMade-between : (calls : List Call) (old mid new end : DeviceState) → Stays old mid → HasMade calls mid new → Stays new end → HasMade calls old end
HasMade-between calls old mid new end first made last = record {
  shape = last.shape ∙ made.shape ∙ first.shape;
  disk = last.disk ∙ made.disk ∙ ap (disk_after calls) first.disk;
  past = last.past ∙ made.past ∙ ap₂ (past_after calls) first.disk first.past;
}

IsFoundOn-stays : (found : Found) (old mid : DeviceState) → Stays old mid → IsFoundOn mid.shape found mid.disk → IsFoundOn old.shape found old.disk
IsFoundOn-stays found old mid s is =
    subst (λ (d : Disk). IsFoundOn old.shape found d) s.disk (subst (λ (shape : Shape). IsFoundOn shape found mid.disk) s.shape is)

IsDone-between : (old mid new end : DeviceState) → Stays old mid → IsDone mid new → Stays new end → IsDone old end
IsDone-between old mid new end first done last = record {
  found = done.found;
  is = IsFoundOn-stays done.found old mid first done.is;
  made = HasMade-between (opening_calls done.found) old mid new end first done.made last;
}

IsInterrupted-before : (calls : List Call) (old new end : DeviceState) → IsInterrupted calls old new → Stays new end → IsInterrupted calls old end
IsInterrupted-before all old new end (Before calls x y stays) last = Before calls old end (stays-joins old new end stays last)
IsInterrupted-before all old new end (Within call calls x y disk fault moves) last =
    Within call calls old end disk fault
    (record { shape = last.shape ∙ moves.shape; now = last.disk ∙ moves.now; past = last.past ∙ moves.past })

IsBroken-between : (old mid new end : DeviceState) → Stays old mid → IsBroken mid new → Stays new end → IsBroken old end
IsBroken-between old mid new end first (Reading stays) last = Reading (stays-joins old mid end first (stays-joins mid new end stays last))
IsBroken-between old mid new end first (Writing found is begun) last =
    Writing found (IsFoundOn-stays found old mid first is)
    (record {
      done = begun.done;
      due = begun.due;
      split = begun.split;
      between = begun.between;
      made = HasMade-between begun.done old mid begun.between begun.between first begun.made (record { shape = refl; disk = refl; past = refl });
      interrupted = IsInterrupted-before begun.due begun.between new end begun.interrupted last;
    })

-- an opening that ended is an opened image, with fewer than `k` writes
pub whole-attempt : (image : DeviceState) (k : ℕ) (opened : OpenedImage) (a : Attempt) → IsOpenedImage image.shape image.disk opened → IsDone image (state_of opened.device)
    → IsWholeAttempt opened k a → IsAttempt image k a
whole-attempt image k opened (Whole same) is done h =
    subst (λ (o : OpenedImage). IsOpenedImage image.shape image.disk o × IsBefore image k o.device) (sym h.0) (is, record { calls = done; fewer = h.1 })
whole-attempt image k opened (Stopped device) is done h = elim h [ ]

-- an opening that stopped is at one of its moments
pub stopped-attempt : (image : DeviceState) (device : MemState) (k : ℕ) (a : Attempt) → device.shape ≡ image.shape
    → IsMoment image.shape image.disk (state_of device).disk → IsBroken image (state_of device)
    → IsStoppedAttempt device k a → IsAttempt image k a
stopped-attempt image device k (Whole opened) shape moment calls h = elim h [ ]
stopped-attempt image device k (Stopped same) shape moment calls h =
    subst (λ (m : MemState). IsStoppedAt image k m) (sym h.0) (record { shape_is = shape; moment = moment; calls = calls; last = h.1 })

-- a stopping device and the one inside it differ only in their failures
pub stays-inside : (s : StopAt MemState) → Stays (stopping state_of s) (state_of (inner_of s))
stays-inside s = record { shape = refl; disk = refl; past = refl }

pub stays-around : (s : StopAt MemState) → Stays (state_of (inner_of s)) (stopping state_of s)
stays-around s = record { shape = refl; disk = refl; past = refl }

-- a whole opening over a stopping device is one over the device inside it
pub IsDone-inside : (image after : MemState) (old new : StopAt MemState) → inner_of old ≡ image → after ≡ inner_of new
    → IsDone (stopping state_of old) (stopping state_of new) → IsDone (state_of image) (state_of after)
IsDone-inside image after old new same also done =
    subst (λ (m : MemState). IsDone (state_of m) (state_of after)) same
    (subst (λ (m : MemState). IsDone (state_of (inner_of old)) (state_of m)) (sym also)
    (IsDone-between (state_of (inner_of old)) (stopping state_of old) (stopping state_of new) (state_of (inner_of new)) (stays-around old) done (stays-inside new)))

-- and so is a broken one
pub IsBroken-inside : (image after : MemState) (old new : StopAt MemState) → inner_of old ≡ image → after ≡ inner_of new
    → IsBroken (stopping state_of old) (stopping state_of new) → IsBroken (state_of image) (state_of after)
IsBroken-inside image after old new same also broken =
    subst (λ (m : MemState). IsBroken (state_of m) (state_of after)) same
    (subst (λ (m : MemState). IsBroken (state_of (inner_of old)) (state_of m)) (sym also)
    (IsBroken-between (state_of (inner_of old)) (stopping state_of old) (stopping state_of new) (state_of (inner_of new)) (stays-around old) broken (stays-inside new)))

pub IsMoment-inside : (image after : MemState) (old new : StopAt MemState) → inner_of old ≡ image → after ≡ inner_of new
    → IsMoment (state_of (inner_of old)).shape (state_of (inner_of old)).disk (state_of (inner_of new)).disk → IsMoment image.shape (state_of image).disk (state_of after).disk
IsMoment-inside image after old new same also moment =
    subst (λ (m : MemState). IsMoment m.shape (state_of m).disk (state_of after).disk) same
    (subst (λ (m : MemState). IsMoment (inner_of old).shape (state_of (inner_of old)).disk (state_of m).disk) (sym also) moment)

-- on an unchanged device, the same is opened
IsOpenedImage-stays : (opened : OpenedImage) (old new : DeviceState) → Stays old new → IsOpenedImage new.shape new.disk opened
    → IsOpenedImage old.shape old.disk opened
IsOpenedImage-stays opened old new s h =
    let on_shape : Shape → Type 0 = λ shape. IsOpenedImage shape new.disk opened in
    let on_disk : Disk → Type 0 = λ disk. IsOpenedImage old.shape disk opened in
    subst on_disk s.disk (subst on_shape s.shape h)

-- and the same is stopped
IsStoppedAt-stays : (k : ℕ) (device : MemState) (old new : DeviceState) → Stays old new → IsStoppedAt new k device → IsStoppedAt old k device
IsStoppedAt-stays k device old new s h =
    let on_shape : Shape → Type 0 = λ shape. IsMoment shape new.disk (state_of device).disk in
    let on_disk : Disk → Type 0 = λ disk. IsMoment old.shape disk (state_of device).disk in
    record {
      shape_is = h.shape_is ∙ s.shape;
      moment = subst on_disk s.disk (subst on_shape s.shape h.moment);
      calls = IsBroken-between old new (state_of device) (state_of device) s h.calls (record { shape = refl; disk = refl; past = refl });
      last = h.last;
    }

-- the verdict on an image that was opened
pub image-verdict : (sealed : History) (shown : Option ℕ) (named : NamedBlocks) (right : Bool) (image : MemState) (opened : OpenedImage)
    → IsOpenedImage image.shape (state_of image).disk opened
    → All (λ b. b < opened.device.shape.home_blocks) (keys named.blocks)
    → (IsTrue right ↔ IsRight sealed shown named (numbered_below opened.report.ends_at sealed) opened.device.shape.block_size (reading (state_of opened.device).disk Home))
    → IsImageVerdict image.shape (reading (state_of image).disk) sealed shown named right
image-verdict sealed shown named right image opened is there right_is =
    IsImageVerdict-from sealed shown named right image opened.device opened.report.ends_at (numbered_below opened.report.ends_at sealed)
    (HasLimit-from_tells image.shape (reading (state_of image).disk) opened.report.clean opened.report.ends_at opened.report.transactions is.tells)
    is.opens is.shape_is refl there right_is

-- the verdict on the crash image of a stopped opening, which was opened
pub second-verdict : (sealed : History) (shown : Option ℕ) (named : NamedBlocks) (right : Bool) (left : MemState) (opened : OpenedImage) (first : Report)
    → IsOpenedImage left.shape (state_of left).disk opened
    → All (λ b. b < opened.device.shape.home_blocks) (keys named.blocks)
    → (IsTrue right ↔ FollowsOn first.clean first.ends_at opened.report.clean opened.report.ends_at
    × IsRight sealed shown named (numbered_below first.ends_at sealed) opened.device.shape.block_size (reading (state_of opened.device).disk Home))
    → IsSecondVerdict left.shape (reading (state_of left).disk) first.clean first.ends_at sealed shown named right
second-verdict sealed shown named right left opened first is there right_is =
    let got : Volume = reading (state_of opened.device).disk Home in
    let P : Shape → Type 0 = λ s. All (λ b. b < s.home_blocks) (keys named.blocks) × (IsTrue right ↔ FollowsOn first.clean first.ends_at opened.report.clean opened.report.ends_at
    × IsRight sealed shown named (numbered_below first.ends_at sealed) s.block_size got) in
    let both : P left.shape = subst P is.shape_is (there, right_is) in
    record {
      clean = opened.report.clean;
      ends_at = opened.report.ends_at;
      transactions = opened.report.transactions;
      tells = is.tells;
      got = got;
      opens = is.opens;
      there = both.0;
      right_is = both.1;
    }

-- the verdict if the opening was not stopped
pub verdict-once : (sealed : History) (shown : Option ℕ) (named : NamedBlocks) (k : ℕ) (keep : List ℕ) (right : Bool) (image mid : MemState) (opened : OpenedImage)
    → Stays (state_of image) (state_of mid) → IsAttempt (state_of mid) k (Whole opened)
    → All (λ b. b < opened.device.shape.home_blocks) (keys named.blocks)
    → (IsTrue right ↔ IsRight sealed shown named (numbered_below opened.report.ends_at sealed) opened.device.shape.block_size (reading (state_of opened.device).disk Home))
    → IsOpeningVerdict (state_of image) k keep sealed shown named right
verdict-once sealed shown named k keep right image mid opened stays is there right_is =
    let here : DeviceState = state_of opened.device in
    Once (record {
      device = opened.device;
      before = record {
        calls = IsDone-between (state_of image) (state_of mid) here here stays is.1.calls (record { shape = refl; disk = refl; past = refl });
        fewer = is.1.fewer;
      };
      verdict = image-verdict sealed shown named right image opened (IsOpenedImage-stays opened (state_of image) (state_of mid) stays is.0) there right_is;
    })

-- the verdict if it was: the crash image of the stopped device was opened
pub verdict-twice : (sealed : History) (shown : Option ℕ) (named : NamedBlocks) (k : ℕ) (keep : List ℕ) (right was_clean : Bool) (limit count : ℕ) (image mid device left : MemState)
    → Stays (state_of image) (state_of mid) → Tells image.shape (reading (state_of image).disk) was_clean limit count
    → IsStoppedAt (state_of mid) k device
    → ((a : Area) (n : ℕ) → (state_of left).disk a n ≡ record { reads = crashed keep device a n; others = [] })
    → left.shape ≡ device.shape
    → IsSecondVerdict left.shape (reading (state_of left).disk) was_clean limit sealed shown named right
    → IsOpeningVerdict (state_of image) k keep sealed shown named right
verdict-twice sealed shown named k keep right was_clean limit count image mid device left stays first stopped crash left_shape verdict =
    let at : IsStoppedAt (state_of image) k device = IsStoppedAt-stays k device (state_of image) (state_of mid) stays stopped in
    let shape : left.shape ≡ image.shape = left_shape ∙ at.shape_is in
    let disk : reading (state_of left).disk ≡ crashed keep device = λ i a n. (crash a n i).reads in
    let on_shape : Shape → Type 0 = λ s. IsSecondVerdict s (reading (state_of left).disk) was_clean limit sealed shown named right in
    let on_disk : Image → Type 0 = λ m. IsSecondVerdict image.shape m was_clean limit sealed shown named right in
    Twice (record { was_clean = was_clean; limit = limit; count = count; first = first; device = device; stopped = at; verdict = subst on_disk disk (subst on_shape shape verdict) })

-- a verdict does not depend on a device's counts
verdict-stays : (sealed : History) (shown : Option ℕ) (named : NamedBlocks) (k : ℕ) (keep : List ℕ) (right : Bool) (image mid : DeviceState)
    → Stays image mid → IsOpeningVerdict mid k keep sealed shown named right → IsOpeningVerdict image k keep sealed shown named right
verdict-stays sealed shown named k keep right image mid stays (Once v) =
    let here : DeviceState = state_of v.device in
    let on_shape : Shape → Type 0 = λ s. IsImageVerdict s (reading mid.disk) sealed shown named right in
    let on_disk : Disk → Type 0 = λ d. IsImageVerdict image.shape (reading d) sealed shown named right in
    Once (record {
      device = v.device;
      before = record { calls = IsDone-between image mid here here stays v.before.calls (record { shape = refl; disk = refl; past = refl }); fewer = v.before.fewer };
      verdict = subst on_disk stays.disk (subst on_shape stays.shape v.verdict);
    })
verdict-stays sealed shown named k keep right image mid stays (Twice v) =
    let on_shape : Shape → Type 0 = λ s. Tells s (reading mid.disk) v.was_clean v.limit v.count in
    let on_disk : Disk → Type 0 = λ d. Tells image.shape (reading d) v.was_clean v.limit v.count in
    let second : Shape → Type 0 = λ s. IsSecondVerdict s (crashed keep v.device) v.was_clean v.limit sealed shown named right in
    Twice (record {
      was_clean = v.was_clean;
      limit = v.limit;
      count = v.count;
      first = subst on_disk stays.disk (subst on_shape stays.shape v.first);
      device = v.device;
      stopped = IsStoppedAt-stays k v.device image mid stays v.stopped;
      verdict = subst second stays.shape v.verdict;
    })

-- so an image that was only read has the same verdict
pub left-verdict : (at_write : Option ℕ) (keep : List ℕ) (image mid : MemState) (sealed : History) (shown : Option ℕ) (named : NamedBlocks) (right : Bool)
    → Stays (state_of image) (state_of mid) → IsVerdictBy at_write keep mid sealed shown named right → IsVerdictBy at_write keep image sealed shown named right
left-verdict None keep image mid sealed shown named right stays is =
    let on_shape : Shape → Type 0 = λ s. IsImageVerdict s (reading (state_of mid).disk) sealed shown named right in
    let on_disk : Disk → Type 0 = λ d. IsImageVerdict image.shape (reading d) sealed shown named right in
    subst on_disk stays.disk (subst on_shape stays.shape is)
left-verdict (Some k) keep image mid sealed shown named right stays is =
    verdict-stays sealed shown named k keep right (state_of image) (state_of mid) stays is

pub only-read-stays : (image mid : MemState) → IsOnlyRead image mid → Stays (state_of image) (state_of mid)
only-read-stays image mid read = record {
  shape = read.0;
  disk = ap₂ (λ (s : Shape) (calls : List MemCall). (after_calls s.block_size calls).disk) read.0 read.1;
  past = ap₂ (λ (s : Shape) (calls : List MemCall). (after_calls s.block_size calls).past) read.0 read.1;
}
