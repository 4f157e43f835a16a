-- Which requests are taken, and with which bytes.
use Rattle.std.specs.Prelude.{◌≡◌, ◌≢◌, ℕ, List, Bool}
use Rattle.nbd_protocol.specs.declared.request.Request.{Request}
use Rattle.nbd_protocol.specs.Layout.{simple_reply}
use Rattle.nbd_protocol.specs.Requests.{IsTaken}
use Rattle.nbd_server.specs.Causes.{NotTaken}
use Rattle.nbd_server.specs.Input.{TakesPayload}

-- a request, and the bytes after it
pub record TakenValue : Type 0 where
  pub request : Request
  pub bytes : List ℕ

-- this request is taken, for a volume of this many bytes, with the bytes that came after it
pub record IsTakenAs (size : ℕ) (read_only : Bool) (r : Request) (came : List ℕ → Type 0) (taken : TakenValue) : Type 0 where
  pub same : taken.request ≡ r
  pub takes : IsTaken size read_only r
  pub payload : TakesPayload r came taken.bytes

-- it is not taken, and answered with an error; the bytes after it are skipped
pub record IsTurnedAway (size : ℕ) (read_only : Bool) (r : Request) (came : List ℕ → Type 0) (reply : List ℕ) : Type 0 where
  pub error : ℕ
  pub some : error ≢ 0
  pub why : NotTaken size read_only r error
  pub bytes : List ℕ
  pub payload : TakesPayload r came bytes
  pub reply_is : reply ≡ simple_reply error r.cookie
