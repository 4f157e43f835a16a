-- Which requests an export takes, and whose answers wait for a commit. Source: proto.md of the nbd project.
use Rattle.std.specs.Prelude.{◌≡◌, ◌≤◌, ◌<◌, ◌+◌, ◌%◌, ℕ, Bool, true, false}
use Rattle.nbd_protocol.specs.declared.request.Request.{Request}

-- the most bytes of a read or a write
abbrev pub most_bytes : ℕ
most_bytes = 33554432

-- it ends within this many bytes
abbrev pub IsWithin : ℕ → Request → Type 0
IsWithin size r = r.offset + r.length ≤ size

-- it changes bytes
pub data IsChange (r : Request) : Type 0 where
  Writes : r.command ≡ 1 → IsChange r
  Trims : r.command ≡ 4 → IsChange r
  WritesZeros : r.command ≡ 6 → IsChange r

-- a writable export takes this change, with flags up to these and at most this many bytes
pub record IsTakenChange (size : ℕ) (read_only : Bool) (flags most : ℕ) (r : Request) : Type 0 where
  pub writable : read_only ≡ false
  pub flags_known : r.flags ≤ flags
  pub bytes : r.length ≤ most
  pub within : IsWithin size r

-- an export of this many bytes takes it
pub data IsTaken (size : ℕ) (read_only : Bool) (r : Request) : Type 0 where
  Read : r.command ≡ 0 → r.flags < 2 → r.length ≤ most_bytes → IsWithin size r → IsTaken size read_only r
  Write : r.command ≡ 1 → IsTakenChange size read_only 1 most_bytes r → IsTaken size read_only r
  Flush : r.command ≡ 3 → r.flags < 2 → r.offset ≡ 0 → r.length ≡ 0 → IsTaken size read_only r
  Trim : r.command ≡ 4 → IsTakenChange size read_only 1 0xffffffff r → IsTaken size read_only r
  WriteZeroes : r.command ≡ 6 → IsTakenChange size read_only 3 0xffffffff r → IsTaken size read_only r

-- it may be refused with this error: EPERM, ENOSPC, or EINVAL for any cause
pub data RefusedWith (size : ℕ) (read_only : Bool) (r : Request) (e : ℕ) : Type 0 where
  ReadOnly : e ≡ 1 → read_only ≡ true → RefusedWith size read_only r e
  PastTheEnd : e ≡ 28 → size < r.offset + r.length → RefusedWith size read_only r e
  Wrong : e ≡ 22 → RefusedWith size read_only r e

-- an answer without an error waits for a commit: it is a flush, or a change with FUA
pub data WantsCommit (r : Request) : Type 0 where
  AsFlush : r.command ≡ 3 → WantsCommit r
  AsForced : IsChange r → r.flags % 2 ≡ 1 → WantsCommit r
