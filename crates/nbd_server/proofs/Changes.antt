-- What a call that changes a range does of a request, or leaves of it.
use Rattle.std.proofs.Common.{◌≡◌, ◌≢◌, ap, subst, ◌∙◌, ℕ, List, Err, IfErr, IfOk, IfSome, None, Ok, OnErr, Option, Result, Some, length, replicate}
use Rattle.block_device.specs.State.{DeviceState}
use Rattle.journal_model.specs.declared.refusal.JournalError.{JournalError}
use Rattle.handle.specs.Name.{JournalId}
use Rattle.locked_journal.specs.Known.{TicketKnown}
use Rattle.byte_volume.specs.Refusals.{TrimRefused, WriteRefused}
use Rattle.byte_volume.specs.Writing.{TrimsBlocks, TrimsSome, WritesAll, WritesSome, first_whole, whole_blocks}
use Rattle.nbd_protocol.specs.declared.request.Request.{Request}
use Rattle.nbd_protocol.specs.Requests.{IsChange}
use Rattle.nbd_protocol.specs.Requests.IsChange.{Trims, Writes, WritesZeros}
use Rattle.nbd_server.specs.Answers.{EndsEarly, IsDone}
use Rattle.nbd_server.specs.Answers.EndsEarly.{TrimmedSome, ZeroedSome}
use Rattle.nbd_server.specs.Answers.IsDone.{Trimmed, Written, Zeroed}
use Rattle.nbd_server.specs.Causes.{ChangeFails}
use Rattle.nbd_server.specs.Causes.ChangeFails.{OfTrim, OfWrite, OfZeros}

-- a write; `all` is another name of its bytes
pub written : {D : Type 0} (state : D → DeviceState) (honest : D → Type 0) (name : JournalId) (size capacity : ℕ) (r : Request) (bytes all : List ℕ) (tickets : List TicketKnown) →
    r.command ≡ 1 → length bytes ≡ r.length → all ≡ bytes → WritesAll state honest name size capacity r.offset all tickets → IsDone state honest name size capacity r bytes tickets
written state honest name size capacity r bytes all tickets is long same wrote =
    Written is long (subst (λ (xs : List ℕ). WritesAll state honest name size capacity r.offset xs tickets) same wrote)

pub write_failed : {D : Type 0} (state : D → DeviceState) (honest : D → Type 0) (name : JournalId) (size capacity : ℕ) (r : Request) (bytes all : List ℕ) (tickets : List TicketKnown)
    (e : JournalError) → r.command ≡ 1 → length bytes ≡ r.length → all ≡ bytes → WriteRefused state size capacity r.offset (length all) e →
    WritesSome state honest name size r.offset all tickets → ChangeFails state honest name size capacity r bytes tickets e
write_failed state honest name size capacity r bytes all tickets e is long same why left =
    OfWrite is (subst (λ (n : ℕ). WriteRefused state size capacity r.offset n e) (ap length same ∙ long) why)
    (subst (λ (xs : List ℕ). WritesSome state honest name size r.offset xs tickets) same left)

-- a write of zeros
pub zeroed : {D X E : Type 0} (state : D → DeviceState) (honest : D → Type 0) (name : JournalId) (size capacity : ℕ) (r : Request) (bytes : List ℕ) (tickets : List TicketKnown)
    (result : Result (Option X) E) → r.command ≡ 6 → IfOk result (λ early. early ≡ None → WritesAll state honest name size capacity r.offset (replicate r.length 0) tickets) →
    IfOk result (λ early. early ≡ None → IsDone state honest name size capacity r bytes tickets)
zeroed state honest name size capacity r bytes tickets (Ok early) is wrote = λ whole. Zeroed is (wrote whole)
zeroed state honest name size capacity r bytes tickets (Err e) is wrote = tt

pub zeroed_some : {D X E : Type 0} (state : D → DeviceState) (honest : D → Type 0) (name : JournalId) (size : ℕ) (r : Request) (tickets : List TicketKnown)
    (result : Result (Option X) E) → r.command ≡ 6 → IfOk result (λ early. IfSome early (λ _. WritesSome state honest name size r.offset (replicate r.length 0) tickets)) →
    IfOk result (λ early. IfSome early (λ _. EndsEarly state honest name size r tickets))
zeroed_some state honest name size r tickets (Ok None) is some = tt
zeroed_some state honest name size r tickets (Ok (Some by)) is some = ZeroedSome is some
zeroed_some state honest name size r tickets (Err e) is some = tt

pub zeros_failed : {D T : Type 0} (state : D → DeviceState) (honest : D → Type 0) (name : JournalId) (size capacity : ℕ) (r : Request) (bytes : List ℕ) (tickets : List TicketKnown)
    (result : Result T JournalError) → r.command ≡ 6 → IfErr result (WriteRefused state size capacity r.offset r.length) →
    OnErr result (WritesSome state honest name size r.offset (replicate r.length 0) tickets) → IfErr result (ChangeFails state honest name size capacity r bytes tickets)
zeros_failed state honest name size capacity r bytes tickets (Ok done) is why left = tt
zeros_failed state honest name size capacity r bytes tickets (Err e) is why left = OfZeros is why left

-- a trim
pub trimmed : {D X E : Type 0} (state : D → DeviceState) (honest : D → Type 0) (name : JournalId) (size capacity : ℕ) (r : Request) (bytes : List ℕ) (tickets : List TicketKnown)
    (result : Result (Option X) E) → r.command ≡ 4 →
    IfOk result (λ early. early ≡ None → TrimsBlocks state honest name (first_whole size r.offset) tickets (whole_blocks size r.offset r.length)) →
    IfOk result (λ early. early ≡ None → IsDone state honest name size capacity r bytes tickets)
trimmed state honest name size capacity r bytes tickets (Ok early) is trims = λ whole. Trimmed is (trims whole)
trimmed state honest name size capacity r bytes tickets (Err e) is trims = tt

pub trimmed_some : {D X E : Type 0} (state : D → DeviceState) (honest : D → Type 0) (name : JournalId) (size : ℕ) (r : Request) (tickets : List TicketKnown)
    (result : Result (Option X) E) → r.command ≡ 4 →
    IfOk result (λ early. IfSome early (λ _. TrimsSome state honest name (first_whole size r.offset) (whole_blocks size r.offset r.length) tickets)) →
    IfOk result (λ early. IfSome early (λ _. EndsEarly state honest name size r tickets))
trimmed_some state honest name size r tickets (Ok None) is some = tt
trimmed_some state honest name size r tickets (Ok (Some by)) is some = TrimmedSome is some
trimmed_some state honest name size r tickets (Err e) is some = tt

pub trim_failed : {D T : Type 0} (state : D → DeviceState) (honest : D → Type 0) (name : JournalId) (size capacity : ℕ) (r : Request) (bytes : List ℕ) (tickets : List TicketKnown)
    (result : Result T JournalError) → r.command ≡ 4 → IfErr result (TrimRefused D size capacity r.offset r.length) →
    OnErr result (TrimsSome state honest name (first_whole size r.offset) (whole_blocks size r.offset r.length) tickets) →
    IfErr result (ChangeFails state honest name size capacity r bytes tickets)
trim_failed state honest name size capacity r bytes tickets (Ok done) is why left = tt
trim_failed state honest name size capacity r bytes tickets (Err e) is why left = OfTrim is why left

-- a request of another kind
pub no_change : (r : Request) → r.command ≢ 1 → r.command ≢ 6 → r.command ≢ 4 → IsChange r → ⊥
no_change r not_write not_zeros not_trim (Writes is) = not_write is
no_change r not_write not_zeros not_trim (WritesZeros is) = not_zeros is
no_change r not_write not_zeros not_trim (Trims is) = not_trim is
