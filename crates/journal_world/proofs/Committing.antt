-- The flush of the commit block: one more transaction is committed.
use Rattle.std.proofs.Common.{refl, sym, ◌∙◌, ap, subst, arith, inl, inr, ⊎_elim, length-append}
use Rattle.std.specs.Prelude.{◌≡◌, ◌⊎◌, ℕ, ◌+◌, ◌-◌, ◌*◌, ◌<◌, ◌≤◌, Bool, true, List, ◌++◌, length}
use Rattle.std.proofs.lemmas.Bool.{cases_lt, true≢false}
use Rattle.journal_model.specs.declared.number.Area.TheVariants.{Log}
use Rattle.log_model.specs.Chain.{texts_blocks, ring_place}
use Rattle.journal_model.specs.Disk.{Disk, flushed}
use Rattle.journal_world.specs.declared.stage.Stage.TheVariants.{CommitFlush, Idle}
use Rattle.journal_world.specs.Engine.{Engine, block_at, committed_texts, due_blocks, stepped_from}
use Rattle.journal_world.specs.Opening.{IsBehind}
use Rattle.journal_world.specs.Sound.{IsDurable, IsOwnBlock, IsPlain, KeepsHome, MayBeSuperblock, Sound, position}
use Rattle.journal_world.proofs.Changes.{at, durable-flushed, held-before_flush, read-flushed}
use Rattle.journal_world.proofs.Kept.{HasThose, agrees-kept, home-kept, may-kept, names-kept, round-kept}
use Rattle.journal_world.proofs.Texts.{block-behind, block-front, committed-more, due-none}

-- the engine with one more committed
abbrev pub done : Engine → Bool → Engine
done e a = stepped_from (at e CommitFlush a) CommitFlush

-- its start is the position of one more transaction
done-start : (e : Engine) (a : Bool) → IsPlain (at e CommitFlush a) → e.start + length (due_blocks e) ≡ position e (e.committed + 1)
done-start e a plain =
    let one : length e.accepted ≡ e.committed + 1 = plain.stage.0 in
    let start : e.start ≡ length (texts_blocks (committed_texts e)) = plain.start in
    let sum = length-append (texts_blocks (committed_texts e)) (due_blocks e) in
    ap (λ n. n + length (due_blocks e)) start ∙ sym sum ∙ ap length (sym (committed-more e (omega arith)))

-- it stays plain
pub done-plain : (e : Engine) (a : Bool) → IsPlain (at e CommitFlush a) → IsPlain (done e a)
done-plain e a plain =
    let one : length e.accepted ≡ e.committed + 1 = plain.stage.0 in
    let started : e.started ≡ true = plain.stage.1 in
    let above : e.bound ≤ e.committed = plain.order.1 in
    let none : length (due_blocks (done e a)) ≡ 0 = ap length (due-none (done e a) (omega arith)) in
    record {
      names =
          names-kept (at e CommitFlush a) e.accepted (e.committed + 1) (e.start + length (due_blocks e)) Idle a e.started e.superblock plain.names;
      layout = plain.layout;
      uuid = plain.uuid;
      batches = plain.batches;
      numbered = plain.numbered;
      numbers = plain.numbers;
      start = done-start e a plain;
      tail = plain.tail;
      bound_position = plain.bound_position;
      order = (plain.order.0, omega arith);
      room =
          let room : e.start + length (due_blocks e) ≤ e.tail + e.ring.blocks = plain.room in
          omega arith;
      laps =
          let laps : e.start + length (due_blocks e) ≤ length e.accepted * e.ring.blocks = plain.laps in
          omega arith;
      stage = (one, λ off. absurd (true≢false (sym started ∙ off)));
      round = agrees-kept (at e CommitFlush a) e.accepted (e.committed + 1) (e.start + length (due_blocks e)) Idle a e.round plain.round;
    }

-- each block of the new transaction is durable
own-durable : (e : Engine) (a : Bool) (disk : Disk) (j : ℕ) → Sound (at e CommitFlush a) disk → j < length (due_blocks e) →
    IsDurable e (flushed disk Log) (e.start + j) (block_at (due_blocks e) j)
own-durable e a disk j sound below =
    elim (cases_lt (j + 1) (length (due_blocks e))) [
      | inl before ↦ durable-flushed e disk (e.start + j) (block_at (due_blocks e) j) (sound.stage.0 j before)
      | inr last ↦
          let same : length (due_blocks e) - 1 ≡ j = omega arith in
          read-flushed e disk (e.start + j) (block_at (due_blocks e) j)
          (subst (λ (i : ℕ). (disk Log (ring_place e.ring (e.start + i))).reads ≡ block_at (due_blocks e) i) same sound.stage.1)
    ]

-- each block of all committed transactions is durable
all-durable : (e : Engine) (a : Bool) (disk : Disk) (k : ℕ) → Sound (at e CommitFlush a) disk → e.tail ≤ k → k < e.start + length (due_blocks e) →
    IsDurable e (flushed disk Log) k (block_at (texts_blocks (committed_texts e) ++ due_blocks e) k)
all-durable e a disk k sound low below =
    let start : e.start ≡ length (texts_blocks (committed_texts e)) = sound.plain.start in
    elim (cases_lt k e.start) [
      | inl before ↦
          subst (IsDurable e (flushed disk Log) k) (sym (block-front (texts_blocks (committed_texts e)) (due_blocks e) k (omega arith)))
          (durable-flushed e disk k _ (sound.durable k low before))
      | inr behind ↦
          let place : e.start + (k - e.start) ≡ k = omega arith in
          subst (IsDurable e (flushed disk Log) k) (sym (block-behind (texts_blocks (committed_texts e)) (due_blocks e) k (k - e.start) (omega arith)))
          (subst (λ (i : ℕ). IsDurable e (flushed disk Log) i (block_at (due_blocks e) (k - e.start))) place
          (own-durable e a disk (k - e.start) sound (omega arith)))
    ]

-- nothing held after the new transaction's blocks could be taken for the next one
done-behind : (e : Engine) (a : Bool) (k : ℕ) (v : List ℕ) → e.start + length (due_blocks e) ≤ k →
    IsBehind (e.first + e.committed) v ⊎ IsOwnBlock (at e CommitFlush a) k v → IsBehind (e.first + (e.committed + 1)) v
done-behind e a k v low (inl behind) = record { below = λ magic. let below = behind.below magic in omega arith }
done-behind e a k v low (inr own) =
    let place : k ≡ e.start + own.index = own.place in
    let below : own.index < length (due_blocks e) = own.handed_over in
    absurd (omega arith)

-- the committed transactions are still the same
done-those : (e : Engine) (a : Bool) → HasThose (at e CommitFlush a) e.accepted (e.committed + 1)
done-those e a = record { same = λ j below. refl; more = omega arith }

-- a crash leaves the same of block 0
done-may : (e : Engine) (a : Bool) (v : List ℕ) → MayBeSuperblock (at e CommitFlush a) v → MayBeSuperblock (done e a) v
done-may e a v may =
    may-kept (at e CommitFlush a) e.accepted (e.committed + 1) (e.start + length (due_blocks e)) Idle a v
    (λ clean. ⊎_elim (λ off. inl off) (λ on. cc) clean) may

-- the engine with one more committed is sound
pub done-sound : (e : Engine) (a : Bool) (disk : Disk) → Sound (at e CommitFlush a) disk → Sound (done e a) (flushed disk Log)
done-sound e a disk sound =
    let start : ℕ = e.start + length (due_blocks e) in
    let below : e.released ≤ e.bound = sound.plain.order.0 in
    let above : e.bound ≤ e.committed = sound.plain.order.1 in
    let one : length e.accepted ≡ e.committed + 1 = sound.plain.stage.0 in
    let home : KeepsHome disk (flushed disk Log) = record { same = λ b. refl } in
    record {
      plain = done-plain e a sound.plain;
      superblock = λ v one. done-may e a v (sound.superblock v (held-before_flush disk 0 v one));
      durable =
          λ k low below.
          subst (λ (bs : List (List ℕ)). IsDurable e (flushed disk Log) k (block_at bs k)) (sym (committed-more e (omega arith)))
          (all-durable e a disk k sound low below);
      behind =
          λ k v low high one.
          inl (done-behind e a k v low (sound.behind k v (omega arith) high (held-before_flush disk (ring_place e.ring k) v one)));
      stage = tt;
      home =
          home-kept (at e CommitFlush a) e.accepted (e.committed + 1) start Idle a (done-those e a) disk (flushed disk Log) home
          e.released (omega arith) sound.home;
      round =
          round-kept (at e CommitFlush a) e.accepted (e.committed + 1) start Idle a (done-those e a) disk (flushed disk Log) home
          e.round sound.plain.order.1 refl sound.round;
    }
