-- Each moment of an opening's calls is the machine's, even if one fails; all of them are a whole opening.
use Rattle.std.proofs.Common.{refl, sym, ◌∙◌, subst, append_assoc}
use Rattle.std.specs.Prelude.{◌≡◌, List, [], ◌∷◌, ◌++◌, ⊤}
use Rattle.std.specs.List.{AllByRecursion}
use Rattle.std.proofs.lemmas.List.{append-nil}
use Rattle.journal_model.specs.Disk.{Disk, Shape}
use Rattle.journal_model.specs.declared.number.Area.TheVariants.{Log}
use Rattle.block_device.specs.State.{DeviceState, EachMoment}
use Rattle.block_device.proofs.Moments.{each-joins, each-moves, each-stays}
use Rattle.journal_world.specs.Call.{Call, after_success}
use Rattle.journal_world.specs.Opening.{IsOpening, cleaned}
use Rattle.log_epochs.specs.OpeningSteps.{Found, OpeningStage, next_of}
use Rattle.log_epochs.specs.OpeningSteps.OpeningStage.{Done, LogFlush}
use Rattle.log_epochs.specs.OpeningRun.{IsFoundOn, IsMoment, Reached}
use Rattle.log_epochs.specs.OpeningRun.IsMoment.{At, Fault}
use Rattle.log_epochs.specs.OpeningRun.Reached.{Called, Tested}
use Rattle.log_epochs.proofs.Whole.{reached-opening}
use Rattle.recovery.specs.Calls.{HasBegun, HasMade, IsInterrupted, disk_after, opening_calls, past_after}
use Rattle.recovery.specs.Calls.IsInterrupted.{Before, Within}
use Rattle.recovery.proofs.OpeningPaths.{IsDue, IsPath, calls-reached, opening-path}

-- P holds of each disk before one of these calls
abbrev pub BeforeEach : (Disk → Type 0) → List Call → Disk → Type 0
BeforeEach P [] disk = ⊤
BeforeEach P (call ∷ calls) disk = P disk × BeforeEach P calls (after_success call disk)

-- what holds of two lists of disks holds of both joined
both-have : (P : Disk → Type 0) (xs ys : List Disk) → AllByRecursion P xs → AllByRecursion P ys → AllByRecursion P (xs ++ ys)
both-have P [] ys all more = more
both-have P (x ∷ xs) ys all more = (all.0, both-have P xs ys all.1 more)

-- the calls add disks to the past, each with P
pub record HasPast (P : Disk → Type 0) (calls : List Call) (disk : Disk) (past : List Disk) : Type 0 where
  pub since : List Disk
  pub past_is : past_after calls disk past ≡ since ++ past
  pub each : AllByRecursion P since

-- those are the disks before the calls
pub past-each : (P : Disk → Type 0) (calls : List Call) (disk : Disk) (past : List Disk) → BeforeEach P calls disk → HasPast P calls disk past
past-each P [] disk past each = record { since = []; past_is = refl; each = tt }
past-each P (call ∷ calls) disk past each =
    let rest = past-each P calls (after_success call disk) (disk ∷ past) each.1 in
    record {
      since = rest.since ++ disk ∷ [];
      past_is = rest.past_is ∙ sym (append_assoc rest.since (disk ∷ []) past);
      each = both-have P rest.since (disk ∷ []) rest.each (each.0, tt);
    }

-- each disk before a call of a path is a moment of the machine
path-moments : (shape : Shape) (found : Found) (old : Disk) (done due : List Call) (disk : Disk) (stage : OpeningStage) → IsFoundOn shape found old →
    Reached shape found old stage disk → IsPath shape found disk stage (done ++ due) → BeforeEach (IsMoment shape old) done disk
path-moments shape found old [] due disk stage is reached path = tt
path-moments shape found old (call ∷ done) due disk stage is reached path = (
  At found stage is reached,
  path-moments shape found old done due (after_success call disk) path.0 is
      (Called stage path.0 call disk (after_success call disk) reached path.1 refl) path.2,
)

-- the moments of an opening's first calls are the machine's
pub made-moments : (shape : Shape) (found : Found) (done due : List Call) (old new : DeviceState) → IsFoundOn shape found old.disk →
    opening_calls found ≡ done ++ due → HasMade done old new → EachMoment (IsMoment shape old.disk) old new
made-moments shape found done due old new is split made =
    let path = subst (IsPath shape found old.disk LogFlush) split (opening-path shape found old.disk is) in
    let past =
    past-each (IsMoment shape old.disk) done old.disk old.past (path-moments shape found old.disk done due old.disk LogFlush is Tested path) in
    let reached = calls-reached shape found old.disk done due is split in
    record {
      since = past.since;
      past = made.past ∙ past.past_is;
      each = past.each;
      now = At found reached.0 is (subst (Reached shape found old.disk reached.0) (sym made.disk) reached.1);
    }

-- so are those of all its calls
pub whole-moments : (shape : Shape) (found : Found) (old new : DeviceState) → IsFoundOn shape found old.disk → HasMade (opening_calls found) old new →
    EachMoment (IsMoment shape old.disk) old new
whole-moments shape found old new is made = made-moments shape found (opening_calls found) [] old new is (sym (append-nil (opening_calls found))) made

-- so are those of a failure before these calls
interrupted-moments : (shape : Shape) (found : Found) (old : Disk) (stage : OpeningStage) (due : List Call) (mid new : DeviceState) → IsInterrupted due mid new →
    IsFoundOn shape found old → Reached shape found old stage mid.disk → IsDue shape found mid.disk stage due → EachMoment (IsMoment shape old) mid new
interrupted-moments shape found old stage due mid new (Before calls x y stays) is reached next =
    each-stays (IsMoment shape old) mid new stays (At found stage is reached)
interrupted-moments shape found old stage due mid new (Within call calls x y disk fault moves) is reached next =
    each-moves (IsMoment shape old) mid new disk moves (At found stage is reached)
    (Fault found is (record { stage = stage; next = next.0; call = call; disk = mid.disk; reached = reached; due = next.1; fault = fault }))

-- so are those of an opening that failed
pub begun-moments : (shape : Shape) (found : Found) (old new : DeviceState) → IsFoundOn shape found old.disk → HasBegun (opening_calls found) old new →
    EachMoment (IsMoment shape old.disk) old new
begun-moments shape found old new is begun =
    let reached = calls-reached shape found old.disk begun.done begun.due is begun.split in
    let same : disk_after begun.done old.disk ≡ begun.between.disk = sym begun.made.disk in
    each-joins (IsMoment shape old.disk) old begun.between new (made-moments shape found begun.done begun.due old begun.between is begun.split begun.made)
    (interrupted-moments shape found old.disk reached.0 begun.due begun.between new begun.interrupted is
    (subst (Reached shape found old.disk reached.0) same reached.1)
    (subst (λ (d : Disk). IsDue shape found d reached.0 begun.due) same reached.2))

-- all calls of an opening lead the machine to its end
pub made-done : (shape : Shape) (found : Found) (old new : DeviceState) → IsFoundOn shape found old.disk → HasMade (opening_calls found) old new →
    Reached shape found old.disk Done new.disk
made-done shape found old new is made =
    let reached = calls-reached shape found old.disk (opening_calls found) [] is (sym (append-nil (opening_calls found))) in
    subst (Reached shape found old.disk Done) (sym made.disk)
    (subst (λ (s : OpeningStage). Reached shape found old.disk s (disk_after (opening_calls found) old.disk)) reached.2 reached.1)

-- they are a whole opening
pub made-opening : (shape : Shape) (found : Found) (old new : DeviceState) → IsFoundOn shape found old.disk → HasMade (opening_calls found) old new →
    IsOpening shape old.disk new.disk (cleaned (found.image Log 0) (next_of found)) (next_of found)
made-opening shape found old new is made = reached-opening shape found old.disk new.disk is (made-done shape found old new is made)
