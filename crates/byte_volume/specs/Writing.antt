-- What a write or a trim of a byte range does.
use Rattle.std.specs.Prelude.{◌≡◌, ◌≤◌, ◌<◌, ◌+◌, ◌-◌, ◌*◌, ◌/◌, ◌%◌, ◌++◌, ℕ, zero, suc, List, [], ◌∷◌, length, take, drop}
use Rattle.std.specs.Int.{div_ceil}
use Rattle.std.specs.List.{AllByRecursion}
use Rattle.block_device.specs.State.{DeviceState}
use Rattle.journal_model.specs.declared.transaction.Step.{Step}
use Rattle.handle.specs.Name.{JournalId}
use Rattle.journal_world.specs.Front.{revoke_step, write_step}
use Rattle.journal_steps.specs.Unreleased.{KeepsCopy}
use Rattle.journal_steps.specs.Values.{JournalValue}
use Rattle.locked_journal.specs.Known.{TicketKnown}
use Rattle.shared_journal.specs.Moments.{AtItsMoment}
use Rattle.byte_volume.specs.Reading.{ReadsPart}

-- block k of these bytes, in blocks of this size
abbrev pub block_in : ℕ → List ℕ → ℕ → List ℕ
block_in size bytes k = take size (drop (k * size) bytes)

-- handle n writes the first blocks of these bytes, as many as the last number says, from block `first` on, in order
abbrev pub write_steps : ℕ → ℕ → ℕ → List ℕ → ℕ → List Step
write_steps n first size bytes zero = []
write_steps n first size bytes (suc k) = write_steps n first size bytes k ++ write_step n (first + k) (block_in size bytes k) ∷ []

-- handle n revokes this many blocks from block `first` on, in order
abbrev pub revoke_steps : ℕ → ℕ → ℕ → List Step
revoke_steps n first zero = []
revoke_steps n first (suc k) = revoke_steps n first k ++ revoke_step n (first + k) ∷ []

-- the bytes before byte `at` in its block
pub data IsHead {D : Type 0} (state : D → DeviceState) (honest : D → Type 0) (name : JournalId) (size at : ℕ) (head : List ℕ) : Type 0 where
  NoHead : at % size ≡ 0 → head ≡ [] → IsHead state honest name size at head
  Head : 0 < at % size → ReadsPart state honest name size (at / size) 0 (at % size) head → IsHead state honest name size at head

-- the bytes from byte `at` to the end of its block; none at a block boundary
pub data IsTail {D : Type 0} (state : D → DeviceState) (honest : D → Type 0) (name : JournalId) (size at : ℕ) (tail : List ℕ) : Type 0 where
  NoTail : at % size ≡ 0 → tail ≡ [] → IsTail state honest name size at tail
  Tail : 0 < at % size → ReadsPart state honest name size (at / size) (at % size) (size - at % size) tail → IsTail state honest name size at tail

-- a list grew by this head or tail
pub record AddsHead {D : Type 0} (state : D → DeviceState) (honest : D → Type 0) (name : JournalId) (size at : ℕ) (old new : List ℕ) : Type 0 where
  pub head : List ℕ
  pub head_is : IsHead state honest name size at head
  pub added : new ≡ old ++ head

pub record AddsTail {D : Type 0} (state : D → DeviceState) (honest : D → Type 0) (name : JournalId) (size at : ℕ) (old new : List ℕ) : Type 0 where
  pub tail : List ℕ
  pub tail_is : IsTail state honest name size at tail
  pub added : new ≡ old ++ tail

-- whole blocks: these bytes from byte `offset` on, the head before them and the tail after them
pub record IsOverlay {D : Type 0} (state : D → DeviceState) (honest : D → Type 0) (name : JournalId) (size offset : ℕ) (bytes whole : List ℕ) : Type 0 where
  pub head : List ℕ
  pub tail : List ℕ
  pub head_is : IsHead state honest name size offset head
  pub tail_is : IsTail state honest name size (offset + length bytes) tail
  pub whole_is : whole ≡ head ++ bytes ++ tail

-- the transactions of these tickets' handles have at most this number
abbrev pub AreNoted : ℕ → List TicketKnown → Type 0
AreNoted upto tickets = AllByRecursion (λ (t : TicketKnown). t.ticket.tid ≤ upto) tickets

-- a list grew by the ticket of a handle with P, of a transaction up to this number
pub record AddsTicket (P : TicketKnown → Type 0) (upto : ℕ) (old new : List TicketKnown) : Type 0 where
  pub ticket : TicketKnown
  pub its : P ticket
  pub noted : ticket.ticket.tid ≤ upto
  pub added : new ≡ old ++ ticket ∷ []

-- it grew so, or stayed
pub data MayAddTicket (P : TicketKnown → Type 0) (upto : ℕ) (old new : List TicketKnown) : Type 0 where
  NoTicket : new ≡ old → MayAddTicket P upto old new
  OneTicket : AddsTicket P upto old new → MayAddTicket P upto old new

-- a handle's steps grew by the first of these, at most n
pub record AddsFirst (steps : ℕ → List Step) (n : ℕ) (old new : List Step) : Type 0 where
  pub count : ℕ
  pub few : count ≤ n
  pub added : new ≡ old ++ steps count

-- one handle wrote the first of these whole blocks from block `first` on, in order, and nothing else
pub record WritesFirst (first size : ℕ) (whole : List ℕ) (ticket : TicketKnown) : Type 0 where
  pub blocks : ℕ
  pub few : blocks ≤ length whole / size
  pub steps_are : ticket.steps ≡ write_steps ticket.ticket.handle first size whole blocks

-- one handle revoked the first of this many blocks from block `first` on, in order, and did nothing else
pub record RevokesFirst (first count : ℕ) (ticket : TicketKnown) : Type 0 where
  pub blocks : ℕ
  pub few : blocks ≤ count
  pub steps_are : ticket.steps ≡ revoke_steps ticket.ticket.handle first blocks

-- one handle wrote these bytes from byte `offset` on, by writing exactly the whole blocks with them, in order
pub record WritesRange {D : Type 0} (state : D → DeviceState) (honest : D → Type 0) (name : JournalId) (size offset : ℕ) (bytes : List ℕ) (ticket : TicketKnown) : Type 0 where
  pub whole : List ℕ
  pub overlay : IsOverlay state honest name size offset bytes whole
  pub steps_are : ticket.steps ≡ write_steps ticket.ticket.handle (offset / size) size whole (length whole / size)

-- one handle wrote the first of these blocks
pub record BeginsRange {D : Type 0} (state : D → DeviceState) (honest : D → Type 0) (name : JournalId) (size offset : ℕ) (bytes : List ℕ) (ticket : TicketKnown) : Type 0 where
  pub whole : List ℕ
  pub overlay : IsOverlay state honest name size offset bytes whole
  pub begins : WritesFirst (offset / size) size whole ticket

-- the handles of these tickets wrote these bytes from byte `offset` on, a piece each, in order
pub data WritesPieces {D : Type 0} (state : D → DeviceState) (honest : D → Type 0) (name : JournalId) (size offset : ℕ) : List TicketKnown → List ℕ → Type 0 where
  NoByte : WritesPieces state honest name size offset [] []
  Further : (earlier : List TicketKnown) (ticket : TicketKnown) (tickets : List TicketKnown) (before piece bytes : List ℕ) →
      WritesPieces state honest name size offset earlier before → WritesRange state honest name size (offset + length before) piece ticket →
      tickets ≡ earlier ++ ticket ∷ [] → bytes ≡ before ++ piece → WritesPieces state honest name size offset tickets bytes

-- n bytes from byte `offset` on lie in at most this many blocks
abbrev pub LieWithin : ℕ → ℕ → ℕ → ℕ → Type 0
LieWithin size offset n blocks = div_ceil (offset + n) size ≤ offset / size + blocks

-- the handles of these tickets wrote these bytes from byte `offset` on: a single one, if one handle has credits for their blocks
pub record WritesAll {D : Type 0} (state : D → DeviceState) (honest : D → Type 0) (name : JournalId) (size capacity offset : ℕ) (bytes : List ℕ) (tickets : List TicketKnown) : Type 0 where
  pub pieces : WritesPieces state honest name size offset tickets bytes
  pub once : LieWithin size offset (length bytes) capacity → length tickets ≡ 1

-- what the handles of these tickets did of a write of these bytes from byte `offset` on that was refused: they wrote the first bytes, a piece
-- each, in order; the last may have written only the first blocks of its piece
pub data WritesSome {D : Type 0} (state : D → DeviceState) (honest : D → Type 0) (name : JournalId) (size offset : ℕ) (bytes : List ℕ) (tickets : List TicketKnown) : Type 0 where
  WholePieces : (before after : List ℕ) → WritesPieces state honest name size offset tickets before → bytes ≡ before ++ after →
      WritesSome state honest name size offset bytes tickets
  PartOfPiece : (earlier : List TicketKnown) (ticket : TicketKnown) (before piece after : List ℕ) → WritesPieces state honest name size offset earlier before →
      BeginsRange state honest name size (offset + length before) piece ticket → tickets ≡ earlier ++ ticket ∷ [] → bytes ≡ before ++ piece ++ after →
      WritesSome state honest name size offset bytes tickets

-- at a moment of the named journal, the block kept no copy
abbrev pub KeptNone : {D : Type 0} → (D → DeviceState) → (D → Type 0) → JournalId → ℕ → Type 0
KeptNone {D} state honest name b = AtItsMoment state honest name (λ (old new : JournalValue D). (KeepsCopy old.journal b → ⊥) × (new ≡ old))

-- this many blocks from block `first` on are trimmed, in order: the handles of these tickets revoked each by one step, and did nothing else; or
-- it kept no copy, and is left out
pub data TrimsBlocks {D : Type 0} (state : D → DeviceState) (honest : D → Type 0) (name : JournalId) (first : ℕ) : List TicketKnown → ℕ → Type 0 where
  NoBlock : TrimsBlocks state honest name first [] 0
  Further : (earlier : List TicketKnown) (ticket : TicketKnown) (tickets : List TicketKnown) (n m k : ℕ) → TrimsBlocks state honest name first earlier n →
      ticket.steps ≡ revoke_steps ticket.ticket.handle (first + n) m → tickets ≡ earlier ++ ticket ∷ [] → k ≡ n + m → TrimsBlocks state honest name first tickets k
  LeftOut : (tickets : List TicketKnown) (n k : ℕ) → TrimsBlocks state honest name first tickets n → KeptNone state honest name (first + n) → k ≡ n + 1 →
      TrimsBlocks state honest name first tickets k

-- the first of this many blocks are trimmed
pub record TrimsSome {D : Type 0} (state : D → DeviceState) (honest : D → Type 0) (name : JournalId) (first blocks : ℕ) (tickets : List TicketKnown) : Type 0 where
  pub count : ℕ
  pub few : count ≤ blocks
  pub trimmed : TrimsBlocks state honest name first tickets count

-- the first block that begins at or after byte `offset`, and how many blocks lie whole in the n bytes from there on
abbrev pub first_whole : ℕ → ℕ → ℕ
first_whole size offset = div_ceil offset size

abbrev pub whole_blocks : ℕ → ℕ → ℕ → ℕ
whole_blocks size offset n = (offset + n) / size - first_whole size offset
