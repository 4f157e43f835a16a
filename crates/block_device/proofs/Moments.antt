-- What is known of each moment of a run of calls.
use Rattle.std.proofs.Common.{◌≡◌, List, [], ◌∷◌, ◌++◌, sym, ◌∙◌, ap, subst, append_assoc, ⊎_elim}
use Rattle.std.specs.List.{AllByRecursion}
use Rattle.std.proofs.lemmas.List.{append_cancel_right}
use Rattle.journal_model.specs.Disk.{Disk, Image, IsOneOf, Leaves}
use Rattle.block_device.specs.State.{DeviceState, Stays, Moves, EachMoment, MayHaveLeft}

-- what holds of each disk of a list holds of one of them
pub one_has : (P : Disk → Type 0) (disks : List Disk) (disk : Disk) → AllByRecursion P disks → IsOneOf disks disk → P disk
one_has P [] disk all one = absurd one
one_has P (x ∷ disks) disk all one = ⊎_elim (λ e. subst P (sym e) all.0) (λ later. one_has P disks disk all.1 later) one

-- the disk that a crash met is one of those since
pub crash_meets : (old new : DeviceState) (image : Image) (since : List Disk) → new.past ≡ since ++ old.past → MayHaveLeft old new image → (disk : Disk) × IsOneOf (new.disk ∷ since) disk × Leaves disk image
crash_meets old new image since past left =
    let same : left.since ≡ since = append_cancel_right left.since since old.past (sym left.past ∙ past) in
    (left.disk, subst (λ disks. IsOneOf (new.disk ∷ disks) left.disk) same left.one, left.leaves)

-- what holds of each moment holds of the disk that a crash met
pub at_crash : (P : Disk → Type 0) (old new : DeviceState) (image : Image) → EachMoment P old new → MayHaveLeft old new image → (disk : Disk) × P disk × Leaves disk image
at_crash P old new image each left =
    let met = crash_meets old new image each.since each.past left in
    (met.0, one_has P (new.disk ∷ each.since) met.0 (each.now, each.each) met.1, met.2)

-- a call that changes nothing adds no moment
pub each-stays : (P : Disk → Type 0) (old new : DeviceState) → Stays old new → P old.disk → EachMoment P old new
each-stays P old new stays holds = record { since = []; past = stays.past; each = tt; now = subst P (sym stays.disk) holds }

-- a call that changes the disk adds the one before
pub each-moves : (P : Disk → Type 0) (old new : DeviceState) (disk : Disk) → Moves old new disk → P old.disk → P disk → EachMoment P old new
each-moves P old new disk moves before after = record { since = old.disk ∷ []; past = moves.past; each = (before, tt); now = subst P (sym moves.now) after }

all-append : (P : Disk → Type 0) (xs ys : List Disk) → AllByRecursion P xs → AllByRecursion P ys → AllByRecursion P (xs ++ ys)
all-append P [] ys all more = more
all-append P (x ∷ xs) ys all more = (all.0, all-append P xs ys all.1 more)

-- two runs in a row are one
pub each-joins : (P : Disk → Type 0) (a b c : DeviceState) → EachMoment P a b → EachMoment P b c → EachMoment P a c
each-joins P a b c first second = record {
  since = second.since ++ first.since;
  past = second.past ∙ ap (λ xs. second.since ++ xs) first.past ∙ sym (append_assoc second.since first.since a.past);
  each = all-append P second.since first.since second.each first.each;
  now = second.now;
}
