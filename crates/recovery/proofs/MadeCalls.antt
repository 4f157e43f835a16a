-- Calls made in order, and what is made if one of them fails.
use Rattle.std.proofs.Common.{refl, sym, ◌∙◌, ap, append_assoc}
use Rattle.std.specs.Prelude.{◌≡◌, ℕ, List, [], ◌∷◌, ◌++◌}
use Rattle.std.proofs.lemmas.List.{append-nil}
use Rattle.journal_model.specs.declared.number.Area.{Area}
use Rattle.journal_model.specs.Disk.{Disk, handed_over, written}
use Rattle.block_device.specs.State.{DeviceState, Moves, Stays, Writes}
use Rattle.block_device.specs.State.Writes.{HandedOver as WriteHandedOver, Undone as WriteUndone, Whole as WriteWhole}
use Rattle.journal_world.specs.Call.{Call, after_success}
use Rattle.journal_world.specs.Call.Call.{Write}
use Rattle.journal_world.specs.Call.IsAfterFault.{HandedOver, Whole}
use Rattle.recovery.specs.Calls.{HasBegun, HasMade, IsInterrupted, disk_after, past_after}
use Rattle.recovery.specs.Calls.IsInterrupted.{Before, Within}

-- the disk after joined calls, part by part
pub disk_after-append : (xs ys : List Call) (disk : Disk) → disk_after (xs ++ ys) disk ≡ disk_after ys (disk_after xs disk)
disk_after-append [] ys disk = refl
disk_after-append (x ∷ xs) ys disk = disk_after-append xs ys (after_success x disk)

-- so are the disks before each of them
pub past_after-append : (xs ys : List Call) (disk : Disk) (past : List Disk) →
    past_after (xs ++ ys) disk past ≡ past_after ys (disk_after xs disk) (past_after xs disk past)
past_after-append [] ys disk past = refl
past_after-append (x ∷ xs) ys disk past = past_after-append xs ys (after_success x disk) (disk ∷ past)

-- if nothing changes, no call is made
pub made-none : (s t : DeviceState) → Stays s t → HasMade [] s t
made-none s t stays = record { shape = stays.shape; disk = stays.disk; past = stays.past }

-- one call is made
pub made-one : (call : Call) (s t : DeviceState) → Moves s t (after_success call s.disk) → HasMade (call ∷ []) s t
made-one call s t moves = record { shape = moves.shape; disk = moves.now; past = moves.past }

-- some calls, then others
pub made-joins : (xs ys : List Call) (s t u : DeviceState) → HasMade xs s t → HasMade ys t u → HasMade (xs ++ ys) s u
made-joins xs ys s t u first second = record {
  shape = second.shape ∙ first.shape;
  disk = second.disk ∙ ap (disk_after ys) first.disk ∙ sym (disk_after-append xs ys s.disk);
  past =
      second.past
      ∙ ap (λ (d : Disk). past_after ys d t.past) first.disk
      ∙ ap (past_after ys (disk_after xs s.disk)) first.past
      ∙ sym (past_after-append xs ys s.disk s.past);
}

-- some calls, then one more
pub made-more : (calls : List Call) (call : Call) (s t u : DeviceState) → HasMade calls s t → Moves t u (after_success call t.disk) → HasMade (calls ++ call ∷ []) s u
made-more calls call s t u made moves = made-joins calls (call ∷ []) s t u made (made-one call t u moves)

-- some calls after no change
pub stays-made : (calls : List Call) (s t u : DeviceState) → Stays s t → HasMade calls t u → HasMade calls s u
stays-made calls s t u stays made = made-joins [] calls s t u (made-none s t stays) made

-- some calls, then no change
pub made-stays : (calls : List Call) (s t u : DeviceState) → HasMade calls s t → Stays t u → HasMade calls s u
made-stays calls s t u made stays = record { shape = stays.shape ∙ made.shape; disk = stays.disk ∙ made.disk; past = stays.past ∙ made.past }

-- a due write failed, or was not tried
pub write-interrupted : (area : Area) (n : ℕ) (bytes : List ℕ) (calls : List Call) (s t : DeviceState) → Writes s t area n bytes →
    IsInterrupted (Write area n bytes ∷ calls) s t
write-interrupted area n bytes calls s t (WriteUndone stays) = Before (Write area n bytes ∷ calls) s t stays
write-interrupted area n bytes calls s t (WriteWhole moves) =
    Within (Write area n bytes) calls s t (written s.disk area n bytes) (Whole area n bytes s.disk (written s.disk area n bytes) refl) moves
write-interrupted area n bytes calls s t (WriteHandedOver moves) =
    Within (Write area n bytes) calls s t (handed_over s.disk area n bytes) (HandedOver area n bytes s.disk (handed_over s.disk area n bytes) refl) moves

-- more calls may be left after a failure
interrupted-front : (xs ys : List Call) (s t : DeviceState) → IsInterrupted xs s t → IsInterrupted (xs ++ ys) s t
interrupted-front xs ys s t (Before calls x y stays) = Before (calls ++ ys) s t stays
interrupted-front xs ys s t (Within call calls x y disk fault moves) = Within call (calls ++ ys) s t disk fault moves

-- no call was made
pub begun-stays : (calls : List Call) (s t : DeviceState) → Stays s t → HasBegun calls s t
begun-stays calls s t stays = record {
  done = [];
  due = calls;
  split = refl;
  between = s;
  made = record { shape = refl; disk = refl; past = refl };
  interrupted = Before calls s t stays;
}

-- the first call may have failed
pub begun-interrupted : (calls : List Call) (s t : DeviceState) → IsInterrupted calls s t → HasBegun calls s t
begun-interrupted calls s t interrupted = record {
  done = [];
  due = calls;
  split = refl;
  between = s;
  made = record { shape = refl; disk = refl; past = refl };
  interrupted = interrupted;
}

-- some calls succeeded, and others were begun
pub made-begun : (xs ys : List Call) (s t u : DeviceState) → HasMade xs s t → HasBegun ys t u → HasBegun (xs ++ ys) s u
made-begun xs ys s t u made begun = record {
  done = xs ++ begun.done;
  due = begun.due;
  split = ap (λ (calls : List Call). xs ++ calls) begun.split ∙ sym (append_assoc xs begun.done begun.due);
  between = begun.between;
  made = made-joins xs begun.done s t begun.between made begun.made;
  interrupted = begun.interrupted;
}

-- if the first calls were begun, all were
pub begun-front : (xs ys : List Call) (s t : DeviceState) → HasBegun xs s t → HasBegun (xs ++ ys) s t
begun-front xs ys s t begun = record {
  done = begun.done;
  due = begun.due ++ ys;
  split = ap (λ (calls : List Call). calls ++ ys) begun.split ∙ append_assoc begun.done begun.due ys;
  between = begun.between;
  made = begun.made;
  interrupted = interrupted-front begun.due ys begun.between t begun.interrupted;
}

-- if all succeeded, they were begun too
pub begun-made : (calls : List Call) (s t : DeviceState) → HasMade calls s t → HasBegun calls s t
begun-made calls s t made = record {
  done = calls;
  due = [];
  split = sym (append-nil calls);
  between = t;
  made = made;
  interrupted = Before [] t t (record { shape = refl; disk = refl; past = refl });
}
