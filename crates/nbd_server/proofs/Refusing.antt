-- A request that is not taken, and a read that fails.
use Rattle.std.proofs.Common.{◌≡◌, ◌≢◌, subst, ℕ, List, Bool}
use Rattle.journal_model.specs.declared.refusal.JournalError.{JournalError}
use Rattle.byte_volume.specs.Reading.{RangeRefused}
use Rattle.block_device.specs.State.{DeviceState}
use Rattle.nbd_protocol.specs.declared.request.Request.{Request}
use Rattle.nbd_protocol.specs.Layout.{simple_reply}
use Rattle.nbd_server.specs.Causes.{NotTaken, ReadFails}
use Rattle.nbd_server.specs.Causes.ReadFails.{OfRange}
use Rattle.nbd_server.specs.Input.{TakesPayload}
use Rattle.nbd_server.specs.Taking.{IsTurnedAway}

pub turned_away : (size : ℕ) (read_only : Bool) (r : Request) (came : List ℕ → Type 0) (e : ℕ) (reply : List ℕ) → e ≢ 0 → NotTaken size read_only r e →
    reply ≡ simple_reply e r.cookie → (bytes : List ℕ) × TakesPayload r came bytes → IsTurnedAway size read_only r came reply
turned_away size read_only r came e reply some why is skipped = record {
  error = e;
  some = some;
  why = why;
  bytes = skipped.0;
  payload = skipped.1;
  reply_is = is;
}

-- n is another name of its length
pub read_fails : {D : Type 0} (state : D → DeviceState) (r : Request) (n : ℕ) (e : JournalError) → n ≡ r.length → RangeRefused state r.offset n e → ReadFails state r e
read_fails state r n e same why = OfRange (subst (λ (k : ℕ). RangeRefused state r.offset k e) same why)
