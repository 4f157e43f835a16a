-- A new stage keeps the engine sound if a due block is written, or the log flushed.
use Rattle.std.proofs.Common.{refl, sym, ◌∙◌, ap, subst, arith, inl, inr, ⊎_elim}
use Rattle.std.specs.Prelude.{◌≡◌, ◌⊎◌, ℕ, ◌+◌, ◌<◌, ◌≤◌, Bool, List, length, Some}
use Rattle.journal_model.specs.declared.number.Area.TheVariants.{Log}
use Rattle.log_model.specs.Chain.{ring_place}
use Rattle.journal_model.specs.Disk.{Cell, Disk, IsOneOf, flushed, held}
use Rattle.journal_world.specs.declared.stage.Stage.{Stage}
use Rattle.journal_world.specs.declared.stage.Stage.TheVariants.{SuperblockFlush}
use Rattle.journal_world.specs.Engine.{Engine, block_at, due_blocks}
use Rattle.journal_world.specs.Opening.{IsBehind}
use Rattle.journal_world.specs.Sound.{HomeHas, IsDurable, IsOwnBlock, IsPlain, KeepsHome, MayBeClean, MayBeSuperblock, RoundHolds, Sound, StageAgrees, StageHolds, durable_cell, handed}
use Rattle.journal_world.proofs.Kept.{HasThose, agrees-kept, home-kept, may-kept, names-kept, round-kept}
use Rattle.journal_world.proofs.Places.{IsWrite, held-after, held-flushed, one_within, place-above}
use Rattle.journal_world.proofs.Positions.{tail-start}
use Rattle.journal_world.proofs.Superblocks.{first-above, names-superblock}
use Rattle.journal_world.proofs.Texts.{block-there}

-- the engine at this stage, aborted or not
abbrev pub at : Engine → Stage → Bool → Engine
at e stage aborted = record e { stage = stage; aborted = aborted }

-- its ring does not begin at block 0
pub ring-first : (e : Engine) → IsPlain e → 0 < e.ring.first
ring-first e plain = first-above e.shape e.ring e.superblock (names-superblock e e.started e.superblock plain.names)

-- the engine stays plain at another stage
pub plain-at : (e : Engine) (old new : Stage) (a b : Bool) → IsPlain (at e old a) → StageAgrees (at e new b) new → IsPlain (at e new b)
plain-at e old new a b plain agrees = record {
  names = names-kept (at e old a) e.accepted e.committed e.start new b e.started e.superblock plain.names;
  layout = plain.layout;
  uuid = plain.uuid;
  batches = plain.batches;
  numbered = plain.numbered;
  numbers = plain.numbers;
  start = plain.start;
  tail = plain.tail;
  bound_position = plain.bound_position;
  order = plain.order;
  room = plain.room;
  laps = plain.laps;
  stage = agrees;
  round = agrees-kept (at e old a) e.accepted e.committed e.start new b e.round plain.round;
}

-- if block 0 may be a clean log's, so it may before the superblock's flush
clean-at : (e : Engine) (old new : Stage) (a b : Bool) → (old ≡ SuperblockFlush → new ≡ SuperblockFlush) → MayBeClean (at e old a) → MayBeClean (at e new b)
clean-at e old new a b flush (inl off) = inl off
clean-at e old new a b flush (inr on) = inr (flush on)

-- a crash leaves of block 0 what it would have left at another stage
pub may-at : (e : Engine) (old new : Stage) (a b : Bool) (v : List ℕ) → (old ≡ SuperblockFlush → new ≡ SuperblockFlush) →
    MayBeSuperblock (at e old a) v → MayBeSuperblock (at e new b) v
may-at e old new a b v flush may = may-kept (at e old a) e.accepted e.committed e.start new b v (clean-at e old new a b flush) may

-- the committed transactions are the same
pub those-at : (e : Engine) → HasThose e e.accepted e.committed
those-at e = record { same = λ j below. refl; more = omega arith }

-- what is durable at home stays so, if no step writes there
pub home-at : (e : Engine) (old new : Stage) (a b : Bool) (disk after : Disk) → Sound (at e old a) disk → KeepsHome disk after →
    HomeHas (at e new b) after e.released
home-at e old new a b disk after sound home =
    let below : e.released ≤ e.bound = sound.plain.order.0 in
    let above : e.bound ≤ e.committed = sound.plain.order.1 in
    home-kept (at e old a) e.accepted e.committed e.start new b (those-at (at e old a)) disk after home e.released (omega arith) sound.home

-- what a round has done stays done, if the superblock reads as before
pub round-at : (e : Engine) (old new : Stage) (a b : Bool) (disk after : Disk) → Sound (at e old a) disk → KeepsHome disk after →
    (after Log 0).reads ≡ (disk Log 0).reads → RoundHolds (at e new b) after e.round
round-at e old new a b disk after sound home reads =
    round-kept (at e old a) e.accepted e.committed e.start new b (those-at (at e old a)) disk after home e.round sound.plain.order.1 reads sound.round

-- the blocks that were handed over are among those of a later stage
pub own-later : (e : Engine) (old new : Stage) (a b : Bool) (k : ℕ) (v : List ℕ) →
    handed old (length (due_blocks e)) ≤ handed new (length (due_blocks e)) →
    IsOwnBlock (at e old a) k v → IsOwnBlock (at e new b) k v
own-later e old new a b k v more own = record {
  index = own.index;
  place = own.place;
  block = own.block;
  handed_over = let below : own.index < handed old (length (due_blocks e)) = own.handed_over in omega arith;
}

-- what is held after the committed transactions may be held at a later stage
pub behind-later : (e : Engine) (old new : Stage) (a b : Bool) (k : ℕ) (v : List ℕ) →
    handed old (length (due_blocks e)) ≤ handed new (length (due_blocks e)) →
    IsBehind (e.first + e.committed) v ⊎ IsOwnBlock (at e old a) k v → IsBehind (e.first + e.committed) v ⊎ IsOwnBlock (at e new b) k v
behind-later e old new a b k v more (inl behind) = inl behind
behind-later e old new a b k v more (inr own) = inr (own-later e old new a b k v more own)

-- a write of due block i, which may have failed
pub record IsDueWrite (e : Engine) (old new : Disk) (i : ℕ) : Type 0 where
  pub write : IsWrite old new (ring_place e.ring (e.start + i)) (block_at (due_blocks e) i)
  pub within : i < length (due_blocks e)

-- the due block stands on the lap from the tail on
due-within : (e : Engine) (i k : ℕ) → IsPlain e → i < length (due_blocks e) → e.tail ≤ k → k < e.tail + e.ring.blocks →
    ring_place e.ring k ≡ ring_place e.ring (e.start + i) → k ≡ e.start + i
due-within e i k plain within low high same =
    let room : e.start + length (due_blocks e) ≤ e.tail + e.ring.blocks = plain.room in
    let order : e.tail ≤ e.start = tail-start e plain in
    one_within e.ring e.tail k (e.start + i) low high (omega arith) (omega arith) same

-- the write leaves each other position of that lap as it was
pub due-other : (e : Engine) (old new : Disk) (i k : ℕ) → IsPlain e → IsDueWrite e old new i → e.tail ≤ k → k < e.tail + e.ring.blocks →
    (k ≡ e.start + i → ⊥) → new Log (ring_place e.ring k) ≡ old Log (ring_place e.ring k)
due-other e old new i k plain due low high other =
    due.write.others (ring_place e.ring k) (λ same. other (due-within e i k plain due.within low high same))

-- the write leaves the superblock as it was
pub due-superblock : (e : Engine) (old new : Disk) (i : ℕ) → IsPlain e → IsDueWrite e old new i → new Log 0 ≡ old Log 0
due-superblock e old new i plain due = due.write.others 0 (λ same. place-above e.ring (e.start + i) (ring-first e plain) (sym same))

-- durable committed blocks stay durable over the write
due-durable : (e : Engine) (old new : Disk) (i k : ℕ) (v : List ℕ) → IsPlain e → IsDueWrite e old new i → e.tail ≤ k → k < e.start →
    IsDurable e old k v → IsDurable e new k v
due-durable e old new i k v plain due low below durable =
    let room : e.start + length (due_blocks e) ≤ e.tail + e.ring.blocks = plain.room in
    due-other e old new i k plain due low (omega arith) (λ same. omega arith) ∙ durable

-- block i of those that are due, at its place
due-own : (e : Engine) (i k : ℕ) (w : List ℕ) → k ≡ e.start + i → w ≡ block_at (due_blocks e) i → i < length (due_blocks e) →
    i < handed e.stage (length (due_blocks e)) → IsOwnBlock e k w
due-own e i k w place is within now = record { index = i; place = place; block = block-there (due_blocks e) i within ∙ ap Some (sym is); handed_over = now }

-- after the write, what is held after the committed transactions is below the due number, or an own
-- block
due-behind : (e : Engine) (old new : Stage) (a b : Bool) (disk after : Disk) (i k : ℕ) (w : List ℕ) → Sound (at e old a) disk →
    IsDueWrite (at e old a) disk after i →
    i < handed new (length (due_blocks e)) → handed old (length (due_blocks e)) ≤ handed new (length (due_blocks e)) →
    e.start ≤ k → k < e.tail + e.ring.blocks → IsOneOf (held (after Log (ring_place e.ring k))) w →
    IsBehind (e.first + e.committed) w ⊎ IsOwnBlock (at e new b) k w
due-behind e old new a b disk after i k w sound due now more low high one =
    let order : e.tail ≤ e.start = tail-start (at e old a) sound.plain in
    ⊎_elim
    (λ here. inr (due-own (at e new b) i k w (due-within (at e old a) i k sound.plain due.within (omega arith) high here.0) here.1 due.within now))
    (λ was. behind-later e old new a b k w more (sound.behind k w low high was))
    (held-after disk after (ring_place e.ring (e.start + i)) (block_at (due_blocks e) i) (ring_place e.ring k) w due.write one)

-- an engine stays sound over a write of a block that is due
pub due-sound : (e : Engine) (old new : Stage) (a b : Bool) (disk after : Disk) (i : ℕ) → Sound (at e old a) disk →
    IsDueWrite (at e old a) disk after i →
    i < handed new (length (due_blocks e)) → handed old (length (due_blocks e)) ≤ handed new (length (due_blocks e)) →
    (old ≡ SuperblockFlush → new ≡ SuperblockFlush) →
    StageAgrees (at e new b) new → StageHolds (at e new b) after new → Sound (at e new b) after
due-sound e old new a b disk after i sound due now more flush agrees holds =
    let there : after Log 0 ≡ disk Log 0 = due-superblock (at e old a) disk after i sound.plain due in
    record {
      plain = plain-at e old new a b sound.plain agrees;
      superblock = λ v one. may-at e old new a b v flush (sound.superblock v (subst (λ (c : Cell). IsOneOf (held c) v) there one));
      durable = λ k low below. due-durable (at e old a) disk after i k _ sound.plain due low below (sound.durable k low below);
      behind = λ k v low high one. due-behind e old new a b disk after i k v sound due now more low high one;
      stage = holds;
      home = home-at e old new a b disk after sound due.write.home;
      round = round-at e old new a b disk after sound due.write.home (ap (λ (c : Cell). c.reads) there);
    }

-- what a flush leaves held was held
pub held-before_flush : (disk : Disk) (m : ℕ) (w : List ℕ) → IsOneOf (held (flushed disk Log Log m)) w → IsOneOf (held (disk Log m)) w
held-before_flush disk m w (inl is) = inl is
held-before_flush disk m w (inr none) = absurd none

-- what is durable stays so
pub durable-flushed : (e : Engine) (disk : Disk) (k : ℕ) (v : List ℕ) → IsDurable e disk k v → IsDurable e (flushed disk Log) k v
durable-flushed e disk k v durable = ap (λ (c : Cell). durable_cell c.reads) durable

-- what is read becomes durable at a flush
pub read-flushed : (e : Engine) (disk : Disk) (k : ℕ) (v : List ℕ) → (disk Log (ring_place e.ring k)).reads ≡ v → IsDurable e (flushed disk Log) k v
read-flushed e disk k v reads = ap durable_cell reads

-- an engine stays sound over a flush
pub flush-sound : (e : Engine) (old new : Stage) (a b : Bool) (disk : Disk) → Sound (at e old a) disk →
    handed old (length (due_blocks e)) ≤ handed new (length (due_blocks e)) →
    ((v : List ℕ) → v ≡ (disk Log 0).reads → MayBeSuperblock (at e new b) v) →
    StageAgrees (at e new b) new → StageHolds (at e new b) (flushed disk Log) new → Sound (at e new b) (flushed disk Log)
flush-sound e old new a b disk sound more may agrees holds = record {
  plain = plain-at e old new a b sound.plain agrees;
  superblock = λ v one. may v (held-flushed disk 0 v one);
  durable = λ k low below. durable-flushed e disk k _ (sound.durable k low below);
  behind = λ k v low high one. behind-later e old new a b k v more (sound.behind k v low high (held-before_flush disk (ring_place e.ring k) v one));
  stage = holds;
  home = home-at e old new a b disk (flushed disk Log) sound (record { same = λ n. refl });
  round = round-at e old new a b disk (flushed disk Log) sound (record { same = λ n. refl }) refl;
}
