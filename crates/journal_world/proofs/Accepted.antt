-- An engine that takes a batch stays sound.
use Rattle.std.proofs.Common.{refl, sym, ◌∙◌, ap, subst, arith, inl, inr, ⊎_elim, length-append}
use Rattle.std.specs.Prelude.{◌≡◌, ◌⊎◌, ℕ, suc, ◌+◌, ◌*◌, ◌≤◌, Bool, true, false, List, [], ◌∷◌, ◌++◌, length, map}
use Rattle.std.proofs.lemmas.List.{take-append-le}
use Rattle.journal_model.proofs.ListElements.{each-append, get-front}
use Rattle.journal_model.specs.declared.entry.Batch.{Batch}
use Rattle.log_model.specs.Chain.{texts_blocks}
use Rattle.journal_model.specs.Disk.{Disk}
use Rattle.log_model.specs.Opening.{greatest_number}
use Rattle.log_model.specs.Text.{text_blocks}
use Rattle.journal_world.specs.declared.stage.Stage.{Stage}
use Rattle.journal_world.specs.declared.stage.Stage.TheVariants.{Idle, SuperblockWrite, Blocks}
use Rattle.journal_world.specs.Engine.{Engine, Accepts, HasRoom, IsBatch, accepting, block_at, committed_texts, due_blocks, text_of}
use Rattle.journal_world.specs.Opening.{IsBehind}
use Rattle.journal_world.specs.Sound.{AreNumberedFrom, IsOwnBlock, IsPlain, KeepsHome, MayBeSuperblock, Sound, StageAgrees, StageHolds, position}
use Rattle.journal_world.proofs.Elements.{get-last, take-before}
use Rattle.journal_world.proofs.Kept.{HasThose, agrees-kept, home-kept, may-kept, names-kept, round-kept}
use Rattle.journal_world.proofs.Positions.{tail-start}
use Rattle.journal_world.proofs.Texts.{due-of, due-some}

-- one more batch keeps the numbering
numbered-last : (first : ℕ) (bs : List Batch) (b : Batch) → AreNumberedFrom first bs → b.tid ≡ first + length bs →
    AreNumberedFrom first (bs ++ b ∷ [])
numbered-last first [] b numbered number = (omega arith, tt)
numbered-last first (x ∷ bs) b numbered number = (numbered.0, numbered-last (suc first) bs b numbered.1 (omega arith))

-- the premises under which the engine takes a batch
pub record MayTake (e : Engine) (b : Batch) : Type 0 where
  pub number : b.tid ≡ e.first + e.committed
  pub left : b.tid ≤ greatest_number
  pub batch : IsBatch e.layout e.shape b
  pub room : HasRoom e b

-- the engine with the batch, at this stage
abbrev pub taken : Engine → Batch → Stage → Engine
taken e b stage = record e { accepted = e.accepted ++ b ∷ []; stage = stage }

-- then the blocks of the batch are due
taken-due : (e : Engine) (b : Batch) (stage : Stage) → length e.accepted ≡ e.committed → due_blocks (taken e b stage) ≡ text_blocks (text_of e b)
taken-due e b stage all = due-of (taken e b stage) b (get-last e.accepted b e.committed all)

-- one more is accepted than is committed
pub taken-one : (e : Engine) (b : Batch) → length e.accepted ≡ e.committed → length (e.accepted ++ b ∷ []) ≡ e.committed + 1
taken-one e b all = omega (arith, length-append e.accepted (b ∷ []))

-- the earlier transactions have taken as many blocks as before
taken-position : (e : Engine) (b : Batch) (stage : Stage) (n : ℕ) → n ≤ length e.accepted → position (taken e b stage) n ≡ position e n
taken-position e b stage n fits = ap (λ (bs : List Batch). length (texts_blocks (map (text_of e) bs))) (take-append-le n e.accepted (b ∷ []) fits)

-- its blocks are at most one lap more
taken-laps : (e : Engine) (b : Batch) (stage : Stage) → IsPlain (record e { stage = Idle }) → MayTake e b →
    e.start + length (due_blocks (taken e b stage)) ≤ length (e.accepted ++ b ∷ []) * e.ring.blocks
taken-laps e b stage plain may =
    let all : length e.accepted ≡ e.committed = plain.stage.0 in
    let due : length (due_blocks (taken e b stage)) ≡ length (text_blocks (text_of e b)) = ap length (taken-due e b stage all) in
    let room : e.start + length (text_blocks (text_of e b)) ≤ e.tail + e.ring.blocks = may.room in
    let laps : e.start + length (due_blocks e) ≤ length e.accepted * e.ring.blocks = plain.laps in
    let order : e.tail ≤ e.start = tail-start (record e { stage = Idle }) plain in
    let more : length (e.accepted ++ b ∷ []) * e.ring.blocks ≡ (length e.accepted + 1) * e.ring.blocks =
    ap (λ n. n * e.ring.blocks) (length-append e.accepted (b ∷ [])) in
    omega arith

-- the engine with the batch stays plain
pub taken-plain : (e : Engine) (b : Batch) (stage : Stage) → IsPlain (record e { stage = Idle }) → MayTake e b →
    StageAgrees (taken e b stage) stage → IsPlain (taken e b stage)
taken-plain e b stage plain may agrees =
    let all : length e.accepted ≡ e.committed = plain.stage.0 in
    let below : e.released ≤ e.bound = plain.order.0 in
    let above : e.bound ≤ e.committed = plain.order.1 in
    record {
      names = names-kept (record e { stage = Idle }) (e.accepted ++ b ∷ []) e.committed e.start stage e.aborted e.started e.superblock plain.names;
      layout = plain.layout;
      uuid = plain.uuid;
      batches = each-append (IsBatch e.layout e.shape) e.accepted (b ∷ []) plain.batches (may.batch, tt);
      numbered = numbered-last e.first e.accepted b plain.numbered (may.number ∙ ap (λ n. e.first + n) (sym all));
      numbers =
          let one : length (e.accepted ++ b ∷ []) ≡ e.committed + 1 = taken-one e b all in
          let number : b.tid ≡ e.first + e.committed = may.number in
          let left : b.tid ≤ greatest_number = may.left in
          omega arith;
      start = plain.start ∙ sym (taken-position e b stage e.committed (omega arith));
      tail = plain.tail ∙ sym (taken-position e b stage e.released (omega arith));
      bound_position = plain.bound_position ∙ sym (taken-position e b stage e.bound (omega arith));
      order = plain.order;
      room = subst (λ (bs : List (List ℕ)). e.start + length bs ≤ e.tail + e.ring.blocks) (sym (taken-due e b stage all)) may.room;
      laps = taken-laps e b stage plain may;
      stage = agrees;
      round = agrees-kept (record e { stage = Idle }) (e.accepted ++ b ∷ []) e.committed e.start stage e.aborted e.round plain.round;
    }

-- what is held after the committed transactions is still below the due number
taken-behind : (e : Engine) (b : Batch) (stage : Stage) (k : ℕ) (v : List ℕ) →
    IsBehind (e.first + e.committed) v ⊎ IsOwnBlock (record e { stage = Idle }) k v → IsBehind (e.first + e.committed) v ⊎ IsOwnBlock (taken e b stage) k v
taken-behind e b stage k v (inl behind) = inl behind
taken-behind e b stage k v (inr own) = let below = own.handed_over in absurd (omega arith)

-- the texts of the committed transactions are the same
taken-texts : (e : Engine) (b : Batch) (stage : Stage) → length e.accepted ≡ e.committed → committed_texts (taken e b stage) ≡ committed_texts e
taken-texts e b stage all = ap (map (text_of e)) (take-before e.accepted b e.committed all)

-- the committed transactions are the same
taken-those : (e : Engine) (b : Batch) → length e.accepted ≡ e.committed → HasThose (record e { stage = Idle }) (e.accepted ++ b ∷ []) e.committed
taken-those e b all = record { same = λ j below. get-front e.accepted (b ∷ []) j (omega arith); more = omega arith }

-- a crash leaves the same of block 0
taken-may : (e : Engine) (b : Batch) (stage : Stage) (v : List ℕ) → MayBeSuperblock (record e { stage = Idle }) v → MayBeSuperblock (taken e b stage) v
taken-may e b stage v may =
    may-kept (record e { stage = Idle }) (e.accepted ++ b ∷ []) e.committed e.start stage e.aborted v
    (λ clean. ⊎_elim (λ off. inl off) (λ on. cc) clean) may

-- the engine with the batch is sound, if the stage agrees
taken-sound : (e : Engine) (b : Batch) (stage : Stage) (disk : Disk) → Sound (record e { stage = Idle }) disk → MayTake e b →
    StageAgrees (taken e b stage) stage → StageHolds (taken e b stage) disk stage → Sound (taken e b stage) disk
taken-sound e b stage disk sound may agrees holds =
    let below : e.released ≤ e.bound = sound.plain.order.0 in
    let above : e.bound ≤ e.committed = sound.plain.order.1 in
    let those : HasThose (record e { stage = Idle }) (e.accepted ++ b ∷ []) e.committed = taken-those e b sound.plain.stage.0 in
    let home : KeepsHome disk disk = record { same = λ n. refl } in
    record {
      plain = taken-plain e b stage sound.plain may agrees;
      superblock = λ v one. taken-may e b stage v (sound.superblock v one);
      durable =
          λ k low below. sound.durable k low below
          ∙ ap (λ ts. record { reads = block_at (texts_blocks ts) k; others = [] }) (sym (taken-texts e b stage sound.plain.stage.0));
      behind = λ k v low high one. taken-behind e b stage k v (sound.behind k v low high one);
      stage = holds;
      home =
          home-kept (record e { stage = Idle }) (e.accepted ++ b ∷ []) e.committed e.start stage e.aborted those disk disk home
          e.released (omega arith) sound.home;
      round =
          round-kept (record e { stage = Idle }) (e.accepted ++ b ∷ []) e.committed e.start stage e.aborted those disk disk home
          e.round sound.plain.order.1 refl sound.round;
    }

-- the stage after a batch depends on whether the log is started
accepts-by : (e : Engine) (started : Bool) (b : Batch) (disk : Disk) → Sound (record e { started = started; stage = Idle }) disk → MayTake e b →
    Sound (accepting (record e { started = started; stage = Idle }) b) disk
accepts-by e true b disk sound may =
    let one : length (e.accepted ++ b ∷ []) ≡ e.committed + 1 = taken-one e b sound.plain.stage.0 in
    taken-sound (record e { started = true }) b (Blocks 0) disk sound
    (record { number = may.number; left = may.left; batch = may.batch; room = may.room })
    (one, refl, due-some (taken e b (Blocks 0)) one) (λ j below. absurd (omega arith))
accepts-by e false b disk sound may =
    let one : length (e.accepted ++ b ∷ []) ≡ e.committed + 1 = taken-one e b sound.plain.stage.0 in
    taken-sound (record e { started = false }) b SuperblockWrite disk sound
    (record { number = may.number; left = may.left; batch = may.batch; room = may.room })
    (one, refl, sound.plain.stage.1 refl) tt

-- an engine that takes a batch stays sound
pub accepts-sound : (old : Engine) (b : Batch) (new : Engine) (disk : Disk) → Sound old disk → Accepts old b new → Sound new disk
accepts-sound old b new disk sound accepts =
    let idle : Sound (record old { stage = Idle }) disk = subst (λ (s : Stage). Sound (record old { stage = s }) disk) accepts.idle sound in
    let same : accepting old b ≡ new = sym accepts.after in
    subst (λ (e : Engine). Sound e disk) same
    (accepts-by old old.started b disk idle (record { number = accepts.number; left = accepts.left; batch = accepts.batch; room = accepts.room }))
