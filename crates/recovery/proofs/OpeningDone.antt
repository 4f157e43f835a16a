-- An opening that ended is a whole one; each of its moments, and of a failed one, is the machine's.
use Rattle.std.proofs.Common.{refl, sym, ◌∙◌, ap, subst}
use Rattle.std.specs.Prelude.{◌≡◌, ℕ, List}
use Rattle.journal_model.specs.declared.number.Area.TheVariants.{Log}
use Rattle.journal_model.specs.Disk.{Shape}
use Rattle.block_device.specs.State.{DeviceState, EachMoment}
use Rattle.block_device.proofs.Moments.{each-stays}
use Rattle.journal_world.specs.Opening.{IsOpenedLog, IsOpening, cleaned}
use Rattle.log_epochs.specs.EngineWorld.{LeadsToEngine}
use Rattle.log_epochs.specs.OpeningRun.{IsMoment}
use Rattle.log_epochs.specs.OpeningRun.IsMoment.{Unread}
use Rattle.log_epochs.specs.OpeningSteps.{next_of}
use Rattle.log_epochs.proofs.OpeningLeads.{opening-leads}
use Rattle.recovery.specs.Opening.{IsBroken, IsDoneWith}
use Rattle.recovery.specs.Opening.IsBroken.{Reading, Writing}
use Rattle.recovery.proofs.OpeningMoments.{begun-moments, made-done, made-opening, whole-moments}

-- an opening that ended is whole
pub done-opening : (old new : DeviceState) (superblock : List ℕ) (next : ℕ) → IsDoneWith old new superblock next →
    IsOpening old.shape old.disk new.disk superblock next
done-opening old new superblock next is =
    let block : superblock ≡ cleaned (is.done.found.image Log 0) (next_of is.done.found) =
    is.superblock_is ∙ ap (cleaned (is.done.found.image Log 0)) is.next_is in
    subst (λ (n : ℕ). IsOpening old.shape old.disk new.disk superblock n) (sym is.next_is)
    (subst (λ (b : List ℕ). IsOpening old.shape old.disk new.disk b (next_of is.done.found)) (sym block)
    (made-opening old.shape is.done.found old new is.done.is is.done.made))

-- its log is open
pub done-log : (old new : DeviceState) (superblock : List ℕ) (next : ℕ) → IsDoneWith old new superblock next → IsOpenedLog new.shape new.disk superblock next
done-log old new superblock next is =
    subst (λ (m : Shape). IsOpenedLog m new.disk superblock next) (sym is.done.made.shape) (done-opening old new superblock next is).log

-- it is a run of the machine
pub done-leads : (old new : DeviceState) (superblock : List ℕ) (next : ℕ) → IsDoneWith old new superblock next →
    LeadsToEngine old.shape old.disk new.disk superblock next
done-leads old new superblock next is =
    let block : superblock ≡ cleaned (is.done.found.image Log 0) (next_of is.done.found) =
    is.superblock_is ∙ ap (cleaned (is.done.found.image Log 0)) is.next_is in
    subst (λ (n : ℕ). LeadsToEngine old.shape old.disk new.disk superblock n) (sym is.next_is)
    (subst (λ (b : List ℕ). LeadsToEngine old.shape old.disk new.disk b (next_of is.done.found)) (sym block)
    (opening-leads old.shape is.done.found old.disk new.disk is.done.is (made-done old.shape is.done.found old new is.done.is is.done.made)))

-- its moments are the machine's
pub done-moments : (old new : DeviceState) (superblock : List ℕ) (next : ℕ) → IsDoneWith old new superblock next →
    EachMoment (IsMoment old.shape old.disk) old new
done-moments old new superblock next is = whole-moments old.shape is.done.found old new is.done.is is.done.made

-- so are those of an opening that failed
pub broken-moments : (old new : DeviceState) → IsBroken old new → EachMoment (IsMoment old.shape old.disk) old new
broken-moments old new (Reading stays) = each-stays (IsMoment old.shape old.disk) old new stays (Unread refl)
broken-moments old new (Writing found is begun) = begun-moments old.shape found old new is begun
