-- The write and the flush of the superblock after a round, which release its transactions.
use Rattle.std.proofs.Common.{refl, sym, ◌∙◌, ap, subst, arith, inl, inr, ⊎_elim, length-append}
use Rattle.std.specs.Prelude.{◌≡◌, ◌⊎◌, ℕ, zero, suc, ◌+◌, ◌-◌, ◌<◌, ◌≤◌, Bool, List, [], ◌∷◌, length, map, take}
use Rattle.journal_model.specs.declared.entry.Batch.{Batch}
use Rattle.log_model.specs.declared.log.Text.{Text}
use Rattle.journal_model.specs.declared.number.Area.TheVariants.{Log, Home}
use Rattle.log_model.specs.Chain.{ring_place, texts_blocks}
use Rattle.journal_model.specs.Disk.{Cell, Disk, IsOneOf, flushed, held, written}
use Rattle.log_model.specs.Opening.{greatest_number}
use Rattle.log_model.specs.Text.{text_blocks}
use Rattle.journal_world.specs.declared.round.Round.TheVariants.{Idle as NoRound, TailWrite, TailFlush}
use Rattle.journal_world.specs.declared.stage.Stage.{Stage}
use Rattle.journal_world.specs.declared.stage.Stage.TheVariants.{Idle, SuperblockWrite, SuperblockFlush, Blocks, CommitWrite, CommitFlush}
use Rattle.journal_world.specs.Call.{IsAfterFault}
use Rattle.journal_world.specs.Call.Call.{Write}
use Rattle.journal_world.specs.Checkpoint.{tail_superblock}
use Rattle.journal_world.specs.Engine.{Engine, block_at, committed_texts, text_of}
use Rattle.journal_world.specs.Opening.{IsBehind, IsSuperblock}
use Rattle.journal_world.specs.Sound.{HomeHas, IsDurable, IsPlain, MayBeSuperblock, NamesTail, NamesNewTail, RoundAgrees, RoundHolds, Sound, StageAgrees, position}
use Rattle.journal_world.specs.Sound.MayBeSuperblock.{Old, New}
use Rattle.journal_world.proofs.Due.{committed-behind}
use Rattle.journal_world.proofs.Elements.{all-at}
use Rattle.journal_world.proofs.Homes.{fault-same}
use Rattle.journal_world.proofs.Places.{IsWrite, held-flushed, is_write-fault, is_write-written, next_lap, place-above, written-there}
use Rattle.journal_world.proofs.Rounded.{IsRoundChange, cell-flushed, cell-kept, rounded-sound, started-names}
use Rattle.journal_world.proofs.Rounds.{going, going-change, home-kept, may-kept, some-committed}
use Rattle.journal_world.proofs.Superblocks.{first-above}
use Rattle.journal_world.proofs.Tails.{tail-names}
use Rattle.journal_world.proofs.Texts.{block-there}

-- no more are committed than are accepted
accepted-least : (e : Engine) (stage : Stage) → StageAgrees e stage → e.committed ≤ length e.accepted
accepted-least e Idle agrees = let all : length e.accepted ≡ e.committed = agrees.0 in omega arith
accepted-least e SuperblockWrite agrees = let one : length e.accepted ≡ e.committed + 1 = agrees.0 in omega arith
accepted-least e SuperblockFlush agrees = let one : length e.accepted ≡ e.committed + 1 = agrees.0 in omega arith
accepted-least e (Blocks k) agrees = let one : length e.accepted ≡ e.committed + 1 = agrees.0 in omega arith
accepted-least e CommitWrite agrees = let one : length e.accepted ≡ e.committed + 1 = agrees.0 in omega arith
accepted-least e CommitFlush agrees = let one : length e.accepted ≡ e.committed + 1 = agrees.0 in omega arith

-- more transactions take no fewer ring blocks
blocks-grow : (f : Batch → Text) (m n : ℕ) (bs : List Batch) → m ≤ n →
    length (texts_blocks (map f (take m bs))) ≤ length (texts_blocks (map f (take n bs)))
blocks-grow f zero n bs least = omega arith
blocks-grow f (suc m) zero bs least = absurd (omega arith)
blocks-grow f (suc m) (suc n) [] least = omega arith
blocks-grow f (suc m) (suc n) (b ∷ bs) least =
    let rest : length (texts_blocks (map f (take m bs))) ≤ length (texts_blocks (map f (take n bs))) = blocks-grow f m n bs (omega arith) in
    let one = length-append (text_blocks (f b)) (texts_blocks (map f (take m bs))) in
    let other = length-append (text_blocks (f b)) (texts_blocks (map f (take n bs))) in
    omega arith

-- the tail is not after the round's end, nor that after the start
tail-least : (e : Engine) → IsPlain e → (e.tail ≤ e.bound_position) × (e.bound_position ≤ e.start)
tail-least e plain =
    let tail : e.tail ≡ position e e.released = plain.tail in
    let end : e.bound_position ≡ position e e.bound = plain.bound_position in
    let start : e.start ≡ position e e.committed = plain.start in
    let more = blocks-grow (text_of e) e.released e.bound e.accepted plain.order.0 in
    let most = blocks-grow (text_of e) e.bound e.committed e.accepted plain.order.1 in
    (omega arith, omega arith)

-- the superblock after a round names the tail after the round's transactions
tail-named : (e : Engine) → IsPlain e → IsSuperblock e.shape e.layout e.ring e.superblock → NamesNewTail e (tail_superblock e)
tail-named e plain is =
    let numbers : e.first + length e.accepted ≤ greatest_number + 1 = plain.numbers in
    let until : e.bound ≤ e.committed = plain.order.1 in
    let committed : e.committed ≤ length e.accepted = accepted-least e e.stage plain.stage in
    tail-names e.shape e.ring e.superblock (e.first + e.bound) e.bound_position is (omega arith)

-- a write of the superblock, which may have failed, changes no other block
pub record IsTailWrite (e : Engine) (old new : Disk) : Type 0 where
  pub write : IsWrite old new 0 (tail_superblock e)
  pub home : (b : ℕ) → new Home b ≡ old Home b

-- a write that succeeded is one
tail-written : (e : Engine) (disk : Disk) → IsTailWrite e disk (written disk Log 0 (tail_superblock e))
tail-written e disk = record { write = is_write-written disk 0 (tail_superblock e); home = λ b. refl }

-- a write that failed is one
pub tail-fault : (e : Engine) (old new : Disk) → IsAfterFault (Write Log 0 (tail_superblock e)) old new → IsTailWrite e old new
tail-fault e old new fault = record {
  write = is_write-fault old new 0 (tail_superblock e) fault;
  home = λ b. fault-same (Write Log 0 (tail_superblock e)) old new b refl fault;
}

-- the engine with its superblock written
abbrev pub tail_written : Engine → Engine
tail_written e = record e { superblock = tail_superblock e; round = TailFlush }

module _ (e : Engine) (plain : IsPlain e) (at : e.round ≡ TailWrite) where
  -- the round releases some of the committed transactions
  write-more : e.released < e.bound
  write-more = subst (RoundAgrees e) at plain.round

  -- some transaction is committed
  pub write-some : 0 < e.committed
  write-some = some-committed e plain write-more

  -- the superblock names the tail
  write-named : NamesTail e e.superblock
  write-named = started-names e TailWrite plain write-some at

  -- the write of the superblock is a change of a round
  pub tail_written-change : IsRoundChange e (tail_written e)
  tail_written-change = record {
    names = tail-named e plain write-named.is_superblock;
    tail = plain.tail;
    bound_position = plain.bound_position;
    order = plain.order;
    forward = omega arith;
    round = write-more;
  }

module _ (e : Engine) (disk after : Disk) (sound : Sound e disk) (at : e.round ≡ TailWrite) (tail : IsTailWrite e disk after) where
  -- each ring block stays as it is
  write-ring : (k : ℕ) → after Log (ring_place e.ring k) ≡ disk Log (ring_place e.ring k)
  write-ring k =
      let above : 0 < e.ring.first = first-above e.shape e.ring e.superblock (write-named e sound.plain at).is_superblock in
      tail.write.others (ring_place e.ring k) (place-above e.ring k above)

  -- block 0 may be what it might be before, or the new superblock
  write-held : (v : List ℕ) → IsOneOf (held (after Log 0)) v → NamesNewTail e v ⊎ MayBeSuperblock e v
  write-held v one =
      ⊎_elim
      (λ is. inl (subst (NamesNewTail e) (sym is) (tail-named e sound.plain (write-named e sound.plain at).is_superblock)))
      (λ was. inr (sound.superblock v was))
      (tail.write.there v one)

  -- what is durable at home stays so
  write-home : (b : ℕ) (c : Cell) → disk Home b ≡ c → after Home b ≡ c
  write-home b c durable = tail.home b ∙ durable

  -- the engine stays sound if the write fails
  pub tail_write-fails : (a : Bool) → Sound (going e TailWrite a) after
  tail_write-fails a =
      let f : Engine = going e TailWrite a in
      rounded-sound e f disk after sound (record {
        some = write-some e sound.plain at;
        change = going-change e TailWrite TailWrite a sound.plain (write-some e sound.plain at) at (λ names. names) (write-more e sound.plain at);
        ring = record { each = λ k. cell-kept _ _ (write-ring k) };
        superblock =
            λ v one.
            ⊎_elim (λ names. New (inl refl) names) (λ may. may-kept e f v (λ names. names) (λ moves names. New (inl refl) names) may)
            (write-held v one);
        freed = λ k v low out within one. absurd (omega arith);
        home = home-kept e f disk after e.released (λ b v durable. write-home b _ durable) sound.home;
        round = home-kept e f disk after e.bound (λ b v durable. write-home b _ durable) (subst (RoundHolds e disk) at sound.round);
      })

-- the engine stays sound over the write
pub tail_write-sound : (e : Engine) (disk : Disk) → Sound e disk → e.round ≡ TailWrite → Sound (tail_written e) (written disk Log 0 (tail_superblock e))
tail_write-sound e disk sound at =
    let f : Engine = tail_written e in
    let after : Disk = written disk Log 0 (tail_superblock e) in
    let tail : IsTailWrite e disk after = tail-written e disk in
    let durable : HomeHas e disk e.bound = subst (RoundHolds e disk) at sound.round in
    rounded-sound e f disk after sound (record {
      some = write-some e sound.plain at;
      change = tail_written-change e sound.plain at;
      ring = record { each = λ k. cell-kept _ _ (write-ring e disk after sound at tail k) };
      superblock =
          λ v one.
          ⊎_elim (λ names. New (inr refl) names) (λ may. may-kept e f v (λ names. names) (λ moves names. New (inr refl) names) may)
          (write-held e disk after sound at tail v one);
      freed = λ k v low out within one. absurd (omega arith);
      home = home-kept e f disk after e.released (λ b v is. is) sound.home;
      round = (home-kept e f disk after e.bound (λ b v is. is) durable, ap (λ (c : Cell). c.reads) (written-there disk 0 (tail_superblock e)));
    })

-- the engine with the round's transactions released
abbrev pub released : Engine → Engine
released e = record e { released = e.bound; tail = e.bound_position; round = NoRound }

module _ (e : Engine) (plain : IsPlain e) (at : e.round ≡ TailFlush) where
  -- the round releases some of the committed transactions
  pub flush-some : 0 < e.committed
  flush-some = some-committed e plain (subst (RoundAgrees e) at plain.round)

  -- the superblock names the new tail
  flush-named : NamesNewTail e e.superblock
  flush-named = started-names e TailFlush plain flush-some at

  -- the flush of the superblock is a change of a round
  pub released-change : IsRoundChange e (released e)
  released-change = record {
    names = flush-named;
    tail = plain.bound_position;
    bound_position = plain.bound_position;
    order = (omega arith, plain.order.1);
    forward = (tail-least e plain).0;
    round = refl;
  }

module _ (e : Engine) (disk : Disk) (sound : Sound e disk) (at : e.round ≡ TailFlush) where
  -- no committed block could be taken for one of the next transaction
  committed-block : (j : ℕ) → j < e.start → IsBehind (e.first + e.committed) (block_at (texts_blocks (committed_texts e)) j)
  committed-block j below =
      let start : e.start ≡ length (texts_blocks (committed_texts e)) = sound.plain.start in
      let layout = sound.plain.layout.0 in
      all-at (IsBehind (e.first + e.committed)) (texts_blocks (committed_texts e)) j _
      (committed-behind e sound.plain layout (accepted-least e e.stage sound.plain.stage))
      (block-there (texts_blocks (committed_texts e)) j (omega arith))

  -- the freed ring blocks hold none that could
  freed-behind : (k : ℕ) (v : List ℕ) → e.tail + e.ring.blocks ≤ k → k < e.bound_position + e.ring.blocks →
      IsOneOf (held (flushed disk Log Log (ring_place e.ring k))) v → IsBehind (e.first + e.committed) v
  freed-behind k v low high one =
      let j : ℕ = k - e.ring.blocks in
      let most : e.bound_position ≤ e.start = (tail-least e sound.plain).1 in
      let place : ring_place e.ring k ≡ ring_place e.ring j = ap (ring_place e.ring) (omega arith) ∙ next_lap e.ring j in
      let durable : IsDurable e disk j (block_at (texts_blocks (committed_texts e)) j) = sound.durable j (omega arith) (omega arith) in
      let reads : (disk Log (ring_place e.ring k)).reads ≡ block_at (texts_blocks (committed_texts e)) j =
      ap (λ n. (disk Log n).reads) place ∙ ap (λ (c : Cell). c.reads) durable in
      subst (IsBehind (e.first + e.committed)) (sym (held-flushed disk (ring_place e.ring k) v one ∙ reads)) (committed-block j (omega arith))

  -- the engine stays sound over the flush of that superblock
  pub tail_flush-sound : Sound (released e) (flushed disk Log)
  tail_flush-sound =
      let f : Engine = released e in
      let holds : RoundHolds e disk TailFlush = subst (RoundHolds e disk) at sound.round in
      rounded-sound e f disk (flushed disk Log) sound (record {
        some = flush-some e sound.plain at;
        change = released-change e sound.plain at;
        ring = record { each = λ k. cell-flushed (disk Log (ring_place e.ring k)) };
        superblock = λ v one. Old (subst (NamesNewTail e) (sym (held-flushed disk 0 v one ∙ holds.1)) (flush-named e sound.plain at));
        freed = λ k v low out within one. freed-behind k v out within one;
        home = home-kept e f disk (flushed disk Log) e.bound (λ b v is. is) holds.0;
        round = tt;
      })
