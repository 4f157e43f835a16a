-- What one device call leaves, in the terms of the engine's steps.
use Rattle.std.proofs.Common.{sym, ap, subst, ◌∙◌}
use Rattle.std.specs.Prelude.{◌≡◌, ℕ, List, Some, Result, Ok, Err, OnOk, OnErr}
use Rattle.std.proofs.lemmas.Option.{same_Some}
use Rattle.journal_model.specs.declared.number.Area.{Area}
use Rattle.journal_model.specs.Disk.{flushed, written}
use Rattle.block_device.specs.State.{DeviceState, Moves, Stays, Writes}
use Rattle.block_device.specs.State.Writes.{Undone, Whole, HandedOver}
use Rattle.journal_world.specs.Call.{Call, IsAfterFault, after_success}
use Rattle.journal_world.specs.Call.Call.{Write, Flush}
use Rattle.journal_world.specs.Call.IsAfterFault.{Undone as NotDone, Whole as AllDone, HandedOver as Given}
use Rattle.log_ledger.specs.declared.due.Due.{Due}
use Rattle.log_ledger.specs.declared.due.Due.TheVariants.{Write as WriteDue, Flush as FlushDue}
use Rattle.log_ledger.specs.Due.{call_of}
use Rattle.block_device.specs.Call.{IsOneMoment}
use Rattle.block_device.specs.Call.IsOneMoment.{Same, Another}

-- what holds anyway holds on a failure
pub on-err : {T E P : Type 0} (r : Result T E) → P → OnErr r P
on-err (Ok x) p = tt
on-err (Err e) p = p

-- and on a success
pub on-ok : {T E P : Type 0} (r : Result T E) → P → OnOk r P
on-ok (Ok x) p = p
on-ok (Err e) p = tt

-- an implication carries over to a failure
pub err-map : {T E P Q : Type 0} (r : Result T E) → (P → Q) → OnErr r P → OnErr r Q
err-map (Ok x) f p = tt
err-map (Err e) f p = f p

-- and to a success
pub ok-map : {T E P Q : Type 0} (r : Result T E) → (P → Q) → OnOk r P → OnOk r Q
ok-map (Ok x) f p = f p
ok-map (Err e) f p = tt

-- a due write that succeeded
pub done-write : (due : Due) (area : Area) (place : ℕ) (bytes : List ℕ) (call : Call) (old new : DeviceState) → due ≡ WriteDue area place →
    call_of due bytes ≡ Some call → Moves old new (written old.disk area place bytes) → new.disk ≡ after_success call old.disk
done-write due area place bytes call old new is named moves =
    let same : Write area place bytes ≡ call = same_Some (Write area place bytes) call (sym (ap (λ d. call_of d bytes) is) ∙ named) in
    subst (λ c. new.disk ≡ after_success c old.disk) same moves.now

-- a due flush that succeeded
pub done-flush : (due : Due) (area : Area) (bytes : List ℕ) (call : Call) (old new : DeviceState) → due ≡ FlushDue area →
    call_of due bytes ≡ Some call → Moves old new (flushed old.disk area) → new.disk ≡ after_success call old.disk
done-flush due area bytes call old new is named moves =
    let same : Flush area ≡ call = same_Some (Flush area) call (sym (ap (λ d. call_of d bytes) is) ∙ named) in
    subst (λ c. new.disk ≡ after_success c old.disk) same moves.now

-- a write, failed or not, leaves what a failed one may leave
pub fault-write : (area : Area) (place : ℕ) (bytes : List ℕ) (old new : DeviceState) → Writes old new area place bytes →
    IsAfterFault (Write area place bytes) old.disk new.disk
fault-write area place bytes old new (Undone stays) = NotDone (Write area place bytes) old.disk new.disk stays.disk
fault-write area place bytes old new (Whole moves) = AllDone area place bytes old.disk new.disk moves.now
fault-write area place bytes old new (HandedOver moves) = Given area place bytes old.disk new.disk moves.now

-- so does the write that was due
pub fault-due : (due : Due) (area : Area) (place : ℕ) (bytes : List ℕ) (call : Call) (old new : DeviceState) → due ≡ WriteDue area place →
    call_of due bytes ≡ Some call → Writes old new area place bytes → IsAfterFault call old.disk new.disk
fault-due due area place bytes call old new is named writes =
    let same : Write area place bytes ≡ call = same_Some (Write area place bytes) call (sym (ap (λ d. call_of d bytes) is) ∙ named) in
    subst (λ c. IsAfterFault c old.disk new.disk) same (fault-write area place bytes old new writes)

-- and so does a failed flush that was due
pub fault-flush : (due : Due) (area : Area) (bytes : List ℕ) (call : Call) (old new : DeviceState) → due ≡ FlushDue area →
    call_of due bytes ≡ Some call → Stays old new → IsAfterFault call old.disk new.disk
fault-flush due area bytes call old new is named stays =
    let same : Flush area ≡ call = same_Some (Flush area) call (sym (ap (λ d. call_of d bytes) is) ∙ named) in
    subst (λ c. IsAfterFault c old.disk new.disk) same (NotDone (Flush area) old.disk new.disk stays.disk)

-- a write is at most one moment
pub moment-write : (area : Area) (place : ℕ) (bytes : List ℕ) (old new : DeviceState) → Writes old new area place bytes → IsOneMoment old new
moment-write area place bytes old new (Undone stays) = Same stays
moment-write area place bytes old new (Whole moves) = Another _ moves
moment-write area place bytes old new (HandedOver moves) = Another _ moves

-- so is a flush
pub moment-flush : {T E : Type 0} (r : Result T E) (area : Area) (old new : DeviceState) → OnOk r (Moves old new (flushed old.disk area)) →
    OnErr r (Stays old new) → IsOneMoment old new
moment-flush (Ok x) area old new moves stays = Another _ moves
moment-flush (Err e) area old new moves stays = Same stays
