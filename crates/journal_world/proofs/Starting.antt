-- The write of the first superblock of a started log, and its flush.
use Rattle.std.proofs.Common.{refl, sym, ◌∙◌, ap, subst, arith, inl, inr, ⊎_elim}
use Rattle.std.specs.Prelude.{◌≡◌, ◌⊎◌, ℕ, ◌+◌, ◌<◌, ◌≤◌, Bool, true, false, List, length}
use Rattle.journal_model.specs.declared.number.Area.TheVariants.{Log}
use Rattle.log_model.specs.Chain.{ring_place}
use Rattle.journal_model.specs.Disk.{Cell, Disk, IsOneOf, flushed, held, written}
use Rattle.log_model.specs.Opening.{greatest_number}
use Rattle.journal_world.specs.declared.round.Round.{Round}
use Rattle.journal_world.specs.declared.round.Round.TheVariants.{Idle as NoRound, Copies, TailWrite, TailFlush}
use Rattle.journal_world.specs.declared.stage.Stage.TheVariants.{SuperblockFlush, SuperblockWrite, Blocks}
use Rattle.journal_world.specs.Engine.{Engine, started_superblock, stepped_from}
use Rattle.journal_world.specs.Opening.{IsBehind}
use Rattle.journal_world.specs.Sound.{HomeHas, IsOwnBlock, IsPlain, MayBeSuperblock, Names, NamesTail, NamesStarted, BeginsAt, RoundAgrees, RoundHolds, Sound}
use Rattle.journal_world.specs.Sound.MayBeSuperblock.{Clean, Old, New}
use Rattle.journal_world.proofs.Changes.{at, flush-sound, home-at, may-at, plain-at, ring-first}
use Rattle.journal_world.proofs.Places.{IsWrite, is_write-written, place-above, written-there}
use Rattle.journal_world.proofs.Positions.{none-taken, tail-start}
use Rattle.journal_world.proofs.Superblocks.{names-superblock}
use Rattle.journal_world.proofs.Tails.{tail-names}
use Rattle.journal_world.proofs.Texts.{due-some}

-- while none is committed, none is released and no round is under way
pub none-released : (e : Engine) → IsPlain e → e.committed ≡ 0 → (e.released ≡ 0) × (e.round ≡ NoRound)
none-released e plain none =
    let below : e.released ≤ e.bound = plain.order.0 in
    let above : e.bound ≤ e.committed = plain.order.1 in
    (omega arith, no-round e.round plain.round (omega arith))
  where
    no-round : (round : Round) → RoundAgrees e round → e.bound ≤ e.released → round ≡ NoRound
    no-round NoRound agrees all = refl
    no-round (Copies transaction block) agrees all = absurd (omega arith)
    no-round TailWrite agrees all = absurd (omega arith)
    no-round TailFlush agrees all = absurd (omega arith)

-- the new superblock names the first transaction
pub started-names : (e : Engine) (a : Bool) → IsPlain (at e SuperblockWrite a) → NamesTail e (started_superblock e)
started-names e a plain =
    let one : length e.accepted ≡ e.committed + 1 = plain.stage.0 in
    let none : e.committed ≡ 0 = plain.stage.2 in
    let numbers : e.first + length e.accepted ≤ greatest_number + 1 = plain.numbers in
    let released : e.released ≡ 0 = (none-released (at e SuperblockWrite a) plain none).0 in
    let start : e.start ≡ 0 = none-taken (at e SuperblockWrite a) plain none in
    let order : e.tail ≤ e.start = tail-start (at e SuperblockWrite a) plain in
    let named : BeginsAt e.shape e.layout e.ring (e.first + e.committed) e.start (started_superblock e) =
    tail-names e.shape e.ring e.superblock (e.first + e.committed) e.start
    (names-superblock (at e SuperblockWrite a) e.started e.superblock plain.names) (omega arith) in
    let number : e.first + e.committed ≡ e.first + e.released = omega arith in
    let place : e.start ≡ e.tail = omega arith in
    subst (λ (k : ℕ). BeginsAt e.shape e.layout e.ring (e.first + e.released) k (started_superblock e)) place
    (subst (λ (n : ℕ). BeginsAt e.shape e.layout e.ring n e.start (started_superblock e)) number named)

-- the write of that superblock, which may have failed
pub record IsStart (e : Engine) (old new : Disk) : Type 0 where
  pub write : IsWrite old new 0 (started_superblock e)

-- that write leaves each ring block as it was
start-other : (e : Engine) (old new : Disk) (k : ℕ) → IsPlain e → IsStart e old new → new Log (ring_place e.ring k) ≡ old Log (ring_place e.ring k)
start-other e old new k plain start = start.write.others (ring_place e.ring k) (place-above e.ring k (ring-first e plain))

-- after it block 0 holds what a crash may leave
start-may : (e : Engine) (a : Bool) (disk after : Disk) (v : List ℕ) → Sound (at e SuperblockWrite a) disk →
    IsStart (at e SuperblockWrite a) disk after → IsOneOf (held (after Log 0)) v → MayBeSuperblock (at e SuperblockWrite a) v
start-may e a disk after v sound start one =
    ⊎_elim
    (λ is. Old (subst (NamesTail e) (sym is) (started-names e a sound.plain)))
    (λ was. sound.superblock v was)
    (start.write.there v one)

-- no block of the transaction is handed over yet
start-behind : (e : Engine) (a : Bool) (disk after : Disk) (k : ℕ) (v : List ℕ) → Sound (at e SuperblockWrite a) disk →
    IsStart (at e SuperblockWrite a) disk after →
    e.start ≤ k → k < e.tail + e.ring.blocks → IsOneOf (held (after Log (ring_place e.ring k))) v → IsBehind (e.first + e.committed) v
start-behind e a disk after k v sound start low high one =
    none-handed (sound.behind k v low high (subst (λ (c : Cell). IsOneOf (held c) v) (start-other (at e SuperblockWrite a) disk after k sound.plain start) one))
  where
    none-handed : IsBehind (e.first + e.committed) v ⊎ IsOwnBlock (at e SuperblockWrite a) k v → IsBehind (e.first + e.committed) v
    none-handed (inl behind) = behind
    none-handed (inr own) = let below = own.handed_over in absurd (omega arith)

-- the engine stays sound if the write fails
pub start-fails : (e : Engine) (a b : Bool) (disk after : Disk) → Sound (at e SuperblockWrite a) disk → IsStart (at e SuperblockWrite a) disk after →
    Sound (at e SuperblockWrite b) after
start-fails e a b disk after sound start =
    let none : e.round ≡ NoRound = (none-released (at e SuperblockWrite a) sound.plain sound.plain.stage.2).1 in
    record {
      plain = plain-at e SuperblockWrite SuperblockWrite a b sound.plain sound.plain.stage;
      superblock = λ v one. may-at e SuperblockWrite SuperblockWrite a b v (λ flush. cc) (start-may e a disk after v sound start one);
      durable = λ k low below. start-other (at e SuperblockWrite a) disk after k sound.plain start ∙ sound.durable k low below;
      behind = λ k v low high one. inl (start-behind e a disk after k v sound start low high one);
      stage = tt;
      home = home-at e SuperblockWrite SuperblockWrite a b disk after sound start.write.home;
      round = subst (RoundHolds (at e SuperblockWrite b) after) (sym none) tt;
    }

-- the engine after the write
abbrev started_engine : Engine → Bool → Engine
started_engine e a = stepped_from (at e SuperblockWrite a) SuperblockWrite

-- that engine stays plain
pub start-plain : (e : Engine) (a : Bool) → IsPlain (at e SuperblockWrite a) → IsPlain (started_engine e a)
start-plain e a plain =
    let none : e.round ≡ NoRound = (none-released (at e SuperblockWrite a) plain plain.stage.2).1 in
    record {
      names = subst (λ (round : Round). NamesStarted (started_engine e a) round (started_superblock e)) (sym none) (started-names e a plain);
      layout = plain.layout;
      uuid = plain.uuid;
      batches = plain.batches;
      numbered = plain.numbered;
      numbers = plain.numbers;
      start = plain.start;
      tail = plain.tail;
      bound_position = plain.bound_position;
      order = plain.order;
      room = plain.room;
      laps = plain.laps;
      stage = (plain.stage.0, refl, plain.stage.2);
      round = subst (RoundAgrees (started_engine e a)) (sym none) (subst (RoundAgrees (at e SuperblockWrite a)) none plain.round);
    }

-- what a crash then leaves of block 0
started-may : (e : Engine) (a : Bool) (v : List ℕ) → MayBeSuperblock (at e SuperblockWrite a) v → MayBeSuperblock (started_engine e a) v
started-may e a v (Clean may names) = Clean (inr refl) names
started-may e a v (Old names) = Old names
started-may e a v (New moves names) = New moves names

-- home need hold no copies while none is released
none-home : (e : Engine) (disk : Disk) (n : ℕ) → n ≡ 0 → HomeHas e disk n
none-home e disk n none = λ i b v newest below. absurd (omega arith)

-- the engine stays sound over the write
pub start-sound : (e : Engine) (a : Bool) (disk : Disk) → Sound (at e SuperblockWrite a) disk →
    Sound (started_engine e a) (written disk Log 0 (started_superblock e))
start-sound e a disk sound =
    let after : Disk = written disk Log 0 (started_superblock e) in
    let start : IsStart (at e SuperblockWrite a) disk after = record { write = is_write-written disk 0 (started_superblock e) } in
    let none = none-released (at e SuperblockWrite a) sound.plain sound.plain.stage.2 in
    record {
      plain = start-plain e a sound.plain;
      superblock = λ v one. started-may e a v (start-may e a disk after v sound start one);
      durable = λ k low below. start-other (at e SuperblockWrite a) disk after k sound.plain start ∙ sound.durable k low below;
      behind = λ k v low high one. inl (start-behind e a disk after k v sound start low high one);
      stage = ap (λ (c : Cell). c.reads) (written-there disk 0 (started_superblock e));
      home = none-home (started_engine e a) after e.released none.0;
      round = subst (RoundHolds (started_engine e a) after) (sym none.1) tt;
    }

-- while none is committed, the superblock names the tail
named-released : (e : Engine) (started : Bool) (v : List ℕ) → started ≡ true → e.round ≡ NoRound → Names e started v → NamesTail e v
named-released e true v is none names = subst (λ (round : Round). NamesStarted e round v) none names
named-released e false v is none names = cc

-- the engine stays sound over the flush
pub started-sound : (e : Engine) (a : Bool) (disk : Disk) → Sound (at e SuperblockFlush a) disk → Sound (at e (Blocks 0) a) (flushed disk Log)
started-sound e a disk sound =
    let one : length e.accepted ≡ e.committed + 1 = sound.plain.stage.0 in
    let none : e.round ≡ NoRound = (none-released (at e SuperblockFlush a) sound.plain sound.plain.stage.2).1 in
    let named : NamesTail e e.superblock = named-released (at e SuperblockFlush a) e.started e.superblock sound.plain.stage.1 none sound.plain.names in
    flush-sound e SuperblockFlush (Blocks 0) a a disk sound (omega arith)
    (λ v is. Old (subst (NamesTail e) (sym (is ∙ sound.stage)) named))
    (one, sound.plain.stage.1, due-some e one) (λ j below. absurd (omega arith))
