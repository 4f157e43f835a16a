-- What requests of a client do, and their answers.
use Rattle.std.specs.Prelude.{◌≡◌, ◌≢◌, ◌≤◌, ◌*◌, ◌-◌, ◌^◌, ◌++◌, ℕ, List, [], Bool, true, false, length, min, replicate}
use Rattle.journal_model.specs.declared.refusal.JournalError.{JournalError}
use Rattle.block_device.specs.State.{DeviceState}
use Rattle.journal_model.specs.Disk.{Shape}
use Rattle.handle.specs.Name.{JournalId}
use Rattle.locked_journal.specs.Known.{TicketKnown}
use Rattle.shared_journal.specs.Moments.{WasLastJoinedHere}
use Rattle.shared_journal.specs.Waiting.{NotAwaited}
use Rattle.byte_volume.specs.Reading.{ReadsRange}
use Rattle.byte_volume.specs.Writing.{TrimsBlocks, TrimsSome, WritesAll, WritesSome, first_whole, whole_blocks}
use Rattle.nbd_protocol.specs.declared.request.Request.{Request}
use Rattle.nbd_protocol.specs.Layout.{simple_reply}
use Rattle.nbd_protocol.specs.Requests.{IsChange, WantsCommit}
use Rattle.nbd_server.specs.declared.replies.Answer.{Answer}
use Rattle.nbd_server.specs.declared.replies.Answer.TheVariants.{Bytes, Later, Now}
use Rattle.nbd_server.specs.Causes.{ChangeFails, ReadFails, error_number}
use Rattle.nbd_server.specs.Owing.{DueValue}

-- at a moment of the named journal, this number was at least the last transaction that a handle had joined
pub record CoversAll {D : Type 0} (state : D → DeviceState) (honest : D → Type 0) (name : JournalId) (upto : ℕ) : Type 0 where
  pub last : ℕ
  pub was_last : WasLastJoinedHere state honest name last
  pub no_less : last ≤ upto

-- a request is owed an answer once all transactions up to a number are committed; every handle noted up to `stopped`, or joined by then,
-- has at most this number
pub record IsOwedTo {D : Type 0} (state : D → DeviceState) (honest : D → Type 0) (name : JournalId) (r : Request) (stopped : ℕ) (due : DueValue) : Type 0 where
  pub cookie_is : due.cookie ≡ r.cookie
  pub no_less : stopped ≤ due.upto
  pub all : CoversAll state honest name due.upto

-- the owed answer: a success, only if the seen mark covers the number; or the error of a refused wait
pub data Releases (D : Type 0) (due : DueValue) (seen : ℕ) (reply : List ℕ) (is_committed : Bool) : Type 0 where
  AsCommitted : due.upto ≤ seen → reply ≡ simple_reply 0 due.cookie → is_committed ≡ true → Releases D due seen reply is_committed
  AsRefused : (why : JournalError) → NotAwaited D why → reply ≡ simple_reply (error_number why) due.cookie → is_committed ≡ false →
      Releases D due seen reply is_committed

-- the handles of these tickets did what a request says: they wrote the bytes after it, or zeros, or trimmed the blocks that lie whole in its
-- range. For no bytes, and for a request that changes none, there was no handle
pub data IsDone {D : Type 0} (state : D → DeviceState) (honest : D → Type 0) (name : JournalId) (size capacity : ℕ) (r : Request) (bytes : List ℕ) (tickets : List TicketKnown) : Type 0 where
  Written : r.command ≡ 1 → length bytes ≡ r.length → WritesAll state honest name size capacity r.offset bytes tickets → IsDone state honest name size capacity r bytes tickets
  Zeroed : r.command ≡ 6 → WritesAll state honest name size capacity r.offset (replicate r.length 0) tickets → IsDone state honest name size capacity r bytes tickets
  Trimmed : r.command ≡ 4 → TrimsBlocks state honest name (first_whole size r.offset) tickets (whole_blocks size r.offset r.length) → IsDone state honest name size capacity r bytes tickets
  NoBytes : r.length ≡ 0 → tickets ≡ [] → IsDone state honest name size capacity r bytes tickets
  NoChange : (IsChange r → ⊥) → tickets ≡ [] → IsDone state honest name size capacity r bytes tickets

-- a trim or a write of zeros ended early: the handles of these tickets did the first part of it
pub data EndsEarly {D : Type 0} (state : D → DeviceState) (honest : D → Type 0) (name : JournalId) (size : ℕ) (r : Request) (tickets : List TicketKnown) : Type 0 where
  ZeroedSome : r.command ≡ 6 → WritesSome state honest name size r.offset (replicate r.length 0) tickets → EndsEarly state honest name size r tickets
  TrimmedSome : r.command ≡ 4 → TrimsSome state honest name (first_whole size r.offset) (whole_blocks size r.offset r.length) tickets → EndsEarly state honest name size r tickets

-- the answer to a read: success, then the bytes of its range
pub record AnswersRead {D : Type 0} (state : D → DeviceState) (honest : D → Type 0) (name : JournalId) (size : ℕ) (r : Request) (reply : List ℕ) : Type 0 where
  pub bytes : List ℕ
  pub range : ReadsRange state honest name size r.offset bytes
  pub count : length bytes ≡ r.length
  pub reply_is : reply ≡ simple_reply 0 r.cookie ++ bytes

-- the bytes that are offered: those of home's blocks, or of as many as the log can name
abbrev pub volume_size : Shape → ℕ → ℕ
volume_size shape nameable = min (min shape.home_blocks nameable * shape.block_size) (2 ^ 64 - 1)

-- a request that the volume takes was performed, by the handles of these tickets; `bytes` followed it, and handles up to this number are
-- noted. The answer is the error of a read or a change that failed, or of one that ended early; a read's bytes; success of a change that
-- wants no commit; or, for one that does, owed
pub data IsPerformed {D : Type 0} (state : D → DeviceState) (honest : D → Type 0) (name : JournalId) (size capacity : ℕ) (r : Request) (bytes : List ℕ) (upto : ℕ) (tickets : List TicketKnown)
    {I : Type 0} (a : Answer I) : Type 0 where
  AsUnread : (why : JournalError) → r.command ≡ 0 → ReadFails state r why → tickets ≡ [] → a ≡ Now (simple_reply (error_number why) r.cookie) →
      IsPerformed state honest name size capacity r bytes upto tickets a
  AsFailed : (why : JournalError) → ChangeFails state honest name size capacity r bytes tickets why → a ≡ Now (simple_reply (error_number why) r.cookie) →
      IsPerformed state honest name size capacity r bytes upto tickets a
  AsEarly : EndsEarly state honest name size r tickets → a ≡ Now (simple_reply 108 r.cookie) → IsPerformed state honest name size capacity r bytes upto tickets a
  AsRead : (reply : List ℕ) → r.command ≡ 0 → AnswersRead state honest name size r reply → tickets ≡ [] → a ≡ Bytes reply →
      IsPerformed state honest name size capacity r bytes upto tickets a
  AsDone : r.command ≢ 0 → IsDone state honest name size capacity r bytes tickets → (WantsCommit r → ⊥) → a ≡ Now (simple_reply 0 r.cookie) →
      IsPerformed state honest name size capacity r bytes upto tickets a
  AsOwed : (due : DueValue) → r.command ≢ 0 → IsDone state honest name size capacity r bytes tickets → WantsCommit r → IsOwedTo state honest name r upto due → a ≡ Later due →
      IsPerformed state honest name size capacity r bytes upto tickets a
