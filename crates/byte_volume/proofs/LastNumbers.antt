-- Where no number is left that a later opening takes.
use Rattle.std.proofs.Common.{◌≡◌, ◌≤◌, ◌<◌, ◌-◌, arith, ap, length, subst, sym, zero, suc, refl, ℕ}
use Rattle.block_device.specs.State.{DeviceState}
use Rattle.handle.specs.Name.{JournalId}
use Rattle.journal_front.specs.Values.{HandleValue}
use Rattle.journal_world.specs.Front.{Front}
use Rattle.journal_steps.specs.Values.{JournalValue}
use Rattle.locked_journal.specs.Locking.{IsLastJoined}
use Rattle.shared_journal.specs.Moments.{JoinedThen}
use Rattle.byte_volume.specs.Numbers.{HasLeft, IsAtLast, last_taken}

-- the last transaction that a handle has joined is at most the running one
joined-by : (f : Front) (tid n : ℕ) → length f.running.handles ≡ n → IsLastJoined f tid → tid ≤ f.running.tid
joined-by f tid zero none is = omega (arith, is.none none)
joined-by f tid (suc n) some is = omega (arith, is.some (omega (arith, some)))

-- no number was left
pub none-left : {D : Type 0} (state : D → DeviceState) (honest : D → Type 0) (name : JournalId) → HasLeft state honest name 0 → IsAtLast D
none-left state honest name has = record {
  old = has.was_last.old;
  new = has.was_last.new;
  did = omega (arith, has.left_is, joined-by has.was_last.old.journal.front has.last (length has.was_last.old.journal.front.running.handles) refl has.was_last.did.0);
}

-- a handle joined a transaction after the last one
pub joined-after : {D : Type 0} (state : D → DeviceState) (n : ℕ) (handle : HandleValue) → JoinedThen state n handle → last_taken < handle.tid → IsAtLast D
joined-after state n handle joined after = record {
  old = joined.old;
  new = joined.new;
  did = omega (arith, after, ap (λ (h : HandleValue). h.tid) joined.did.1);
}
