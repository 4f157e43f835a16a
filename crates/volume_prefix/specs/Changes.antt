-- What changes are, and which volume the first of them make.
-- Source: the GoJournal paper (a crash keeps a first part of the history).
use Rattle.std.specs.Prelude.{◌≡◌, ◌≤◌, ◌<◌, ◌+◌, ℕ, List, [], ◌∷◌, ◌++◌, length, take, drop, unwrap_or, All, Contains}
use Rattle.std.specs.List.{flat_map}
use Rattle.journal_model.specs.declared.entry.Content.TheVariants.{Direct}
use Rattle.journal_model.specs.declared.number.Area.TheVariants.{Home}
use Rattle.journal_model.specs.declared.transaction.Step.{Step}
use Rattle.journal_model.specs.Disk.{Image, IsOneOf, Shape, held}
use Rattle.journal_model.specs.Transaction.{Volume, bytes_of, content_of, effect}
use Rattle.log_model.specs.Opening.{IsCountOf, OpensAs}
use Rattle.journal_world.specs.Front.{write_step}
use Rattle.log_epochs.specs.Epoch.{Epoch}
use Rattle.log_epochs.specs.JournalWorld.{Told}
use Rattle.locked_journal.specs.Known.{TicketKnown}

-- The tickets of its handles, in the order in which they joined. Each knows its handle's steps.
abbrev pub Change : Type 0
Change = List TicketKnown

-- the tickets of these changes, one change after another
abbrev pub tickets_of : List Change → List TicketKnown
tickets_of changes = flat_map (λ c. c) changes

-- the steps of these tickets' handles, one handle after another
abbrev pub steps_in : List TicketKnown → List Step
steps_in tickets = flat_map (λ k. k.steps) tickets

-- the first tickets of the next change, but not all of it; none, if there is no next change
abbrev pub IsPart : List TicketKnown → List Change → Type 0
IsPart part [] = part ≡ []
IsPart part (next ∷ further) = (rest : List TicketKnown) × (next ≡ part ++ rest) × (0 < length rest)

-- These are the tickets of the first k changes, and perhaps the first ones of the next change.
pub record AreFirst (changes : List Change) (kept : List TicketKnown) : Type 0 where
  pub k : ℕ
  pub few : k ≤ length changes
  pub part : List TicketKnown
  pub are : kept ≡ tickets_of (take k changes) ++ part
  pub next : IsPart part (drop k changes)

-- What home may have in a block that these steps leave to it: what it held at the epoch's opening, a direct write's bytes, or those of one
-- of these steps. (Steps that wrote the block leave it to home only by a later revoke.)
pub data IsHomes (epoch : Epoch) (steps : List Step) (b : ℕ) (v : List ℕ) : Type 0 where
  FromOpening : IsOneOf (held (epoch.opening Home b)) v → IsHomes epoch steps b v
  FromDirectWrite : IsOneOf epoch.directs (b, v) → IsHomes epoch steps b v
  FromStep : (h : ℕ) → Contains steps (write_step h b v) → IsHomes epoch steps b v

-- The volume that these steps make: each block has its last write's bytes, or what home has, if they don't write it or revoke it last.
pub record IsMadeBy (epoch : Epoch) (count : ℕ) (steps : List Step) (home got : Volume) : Type 0 where
  pub written : (b : ℕ) → b < count → got b ≡ bytes_of (content_of (effect b steps)) (home b)
  pub others : (b : ℕ) → b < count → content_of (effect b steps) ≡ Direct → IsHomes epoch steps b (home b)

-- An image opens to the volume that the first of these changes make. They are those of the first n transactions, at least of all that were
-- acknowledged. n is their count by the log of the epoch's first crash (of the image, if there was none).
pub record OpensToPrefix (shape : Shape) (epoch : Epoch) (told : Told) (changes : List Change) (image : Image) : Type 0 where
  pub n : ℕ
  pub count : IsCountOf shape (unwrap_or epoch.pin image) told.front.sealed n
  pub acknowledged : (tid : ℕ) → Contains told.answered tid → tid < epoch.engine.first + n
  pub kept : List TicketKnown  -- of the first n transactions
  pub missing : List TicketKnown  -- of later ones
  pub all : tickets_of changes ≡ kept ++ missing
  pub among : All (λ k. k.ticket.tid < epoch.engine.first + n) kept
  pub later : All (λ k. epoch.engine.first + n ≤ k.ticket.tid) missing
  pub prefix : AreFirst changes kept
  pub got : Volume
  pub opens : OpensAs shape image got
  pub made : IsMadeBy epoch shape.home_blocks (steps_in kept) (image Home) got
