-- Every crash image of a sound disk opens to the committed transactions or one more.
use Rattle.std.proofs.Common.{◌≡◌, inl, inr, ℕ, ◌+◌, ◌-◌, ◌<◌, ◌≤◌, false, true≢false, List, ◌++◌, length, length-append, length-drop, take, drop, arith, refl, sym, ◌∙◌, subst, ap}
use Rattle.std.proofs.lemmas.Bool.{cases_eq, cases_lt}
use Rattle.journal_model.specs.declared.number.Area.TheVariants.{Log, Home}
use Rattle.log_model.specs.Chain.{texts_blocks, ring_place}
use Rattle.journal_model.specs.Disk.{Disk, Image, Leaves}
use Rattle.journal_model.specs.Layout.{IsLayout}
use Rattle.log_model.specs.Opening.{numbered_below}
use Rattle.log_model.specs.Opening.HasLimit.{OfChain}
use Rattle.journal_model.specs.Transaction.{bytes_of, content_of, last_effect}
use Rattle.journal_world.specs.declared.stage.Stage.{Stage}
use Rattle.journal_world.specs.declared.stage.Stage.TheVariants.{Idle, SuperblockWrite, SuperblockFlush, Blocks, CommitWrite, CommitFlush}
use Rattle.journal_world.specs.Engine.{Engine, IsBatch, block_at, committed_texts, due_blocks}
use Rattle.journal_world.specs.Opening.{IsBehind, NamesNothing}
use Rattle.journal_world.specs.Sound.{HomeHas, MayBeSuperblock, MovesTail, BeginsAt, OpensBetween, OpensTo, RoundHolds, Sound, StageAgrees, handed, position}
use Rattle.journal_world.specs.Sound.MayBeSuperblock.{Clean, Old, New}
use Rattle.journal_world.proofs.Batches.{count-below, texts_of}
use Rattle.journal_world.proofs.Chains.{IsNotDue}
use Rattle.journal_world.proofs.Due.{behind-not_due, due-inner}
use Rattle.journal_world.proofs.Lasts.{bytes-left}
use Rattle.journal_world.proofs.Left.{AreDurable, HasCommit, HasNoCommit, Progress, around-left, behind-left, committed-left, due-left, each-left, more-left, more-rest, part-before, part-none, part-without, place_of_commit, progress}
use Rattle.journal_world.proofs.Left.Progress.{Before, Ending}
use Rattle.journal_world.proofs.Openings.{ChainOpens, HoldsTexts, chain-opens, clean-opens}
use Rattle.journal_world.proofs.Positions.{between_blocks, committed-few, first-split, first_blocks, position-more, position-grows, position-split}
use Rattle.journal_world.proofs.Suffixes.{all-drop, batches-drop, numbered-drop}
use Rattle.journal_world.proofs.Texts.{block-behind, committed-more, due-more}

-- block 0 of an image is a clean log's, and nothing was handed over; or it names the first transaction, and earlier ones are
-- home
data Found (e : Engine) (disk : Disk) (v : List ℕ) : Type 0 where
  FindsNothing : NamesNothing e.shape e.layout e.ring e.first v → e.committed ≡ 0 → handed e.stage (length (due_blocks e)) ≡ 0 → Found e disk v
  FindsTail : (r : ℕ) → e.released ≤ r → r ≤ e.committed → BeginsAt e.shape e.layout e.ring (e.first + r) (position e r) v → HomeHas e disk r →
      Found e disk v

-- if the log is not started, nothing is committed or handed over
clean-unstarted : (e : Engine) (stage : Stage) → StageAgrees e stage → e.started ≡ false →
    (e.committed ≡ 0) × (handed stage (length (due_blocks e)) ≡ 0)
clean-unstarted e Idle agrees clean = (agrees.1 clean, refl)
clean-unstarted e SuperblockWrite agrees clean = (agrees.2, refl)
clean-unstarted e SuperblockFlush agrees clean = (agrees.2, refl)
clean-unstarted e (Blocks k) agrees clean = absurd (true≢false (sym agrees.1 ∙ clean))
clean-unstarted e CommitWrite agrees clean = absurd (true≢false (sym agrees.1 ∙ clean))
clean-unstarted e CommitFlush agrees clean = absurd (true≢false (sym agrees.1 ∙ clean))

-- the same if its first superblock is not flushed
clean-unflushed : (e : Engine) (stage : Stage) → StageAgrees e stage → stage ≡ SuperblockFlush →
    (e.committed ≡ 0) × (handed stage (length (due_blocks e)) ≡ 0)
clean-unflushed e stage agrees flush =
    let flushes : StageAgrees e SuperblockFlush = subst (StageAgrees e) flush agrees in
    (flushes.2, ap (λ (s : Stage). handed s (length (due_blocks e))) flush)

-- if a round moves the tail, its transactions are home
moved-home : (e : Engine) (disk : Disk) → MovesTail e → RoundHolds e disk e.round → HomeHas e disk e.bound
moved-home e disk (inl writes) holds = subst (RoundHolds e disk) writes holds
moved-home e disk (inr flushes) holds = (subst (RoundHolds e disk) flushes holds).0

-- block 0 of an image says one of these
found : (e : Engine) (disk : Disk) (v : List ℕ) → Sound e disk → MayBeSuperblock e v → Found e disk v
found e disk v sound (Clean (inl clean) names) =
    let both = clean-unstarted e e.stage sound.plain.stage clean in FindsNothing names both.0 both.1
found e disk v sound (Clean (inr flush) names) =
    let both = clean-unflushed e e.stage sound.plain.stage flush in FindsNothing names both.0 both.1
found e disk v sound (Old names) =
    let low : e.released ≤ e.bound = sound.plain.order.0 in
    let high : e.bound ≤ e.committed = sound.plain.order.1 in
    FindsTail e.released (omega arith) (omega arith)
    (subst (λ p. BeginsAt e.shape e.layout e.ring (e.first + e.released) p v) sound.plain.tail names) sound.home
found e disk v sound (New moves names) =
    FindsTail e.bound sound.plain.order.0 sound.plain.order.1
    (subst (λ p. BeginsAt e.shape e.layout e.ring (e.first + e.bound) p v) sound.plain.bound_position names)
    (moved-home e disk moves sound.round)

-- the log of the image has the texts of transactions r to n, and nothing due after them
record HoldsFirst (e : Engine) (image : Image) (r n : ℕ) : Type 0 where
  committed : e.committed ≤ n
  few : n ≤ length e.accepted
  fits : position e n ≤ e.tail + e.ring.blocks
  front : (k : ℕ) → position e r ≤ k → k < position e n → image Log (ring_place e.ring k) ≡ block_at (first_blocks e n) k
  rest : (k : ℕ) → position e n ≤ k → k < e.tail + e.ring.blocks →
      IsNotDue e.layout e.shape.home_blocks (e.first + n) (image Log (ring_place e.ring k))

module _ (e : Engine) (disk : Disk) (image : Image) (sound : Sound e disk) (leaves : Leaves disk image) (r : ℕ) (low : e.released ≤ r) (high : r ≤ e.committed) (names : BeginsAt e.shape e.layout e.ring (e.first + r) (position e r) (image Log 0)) (home : HomeHas e disk r) where
  -- the layout is one that texts are made in
  layout-left : IsLayout e.layout
  layout-left = sound.plain.layout.0

  -- the log begins at or after the tail
  tail-below : e.tail ≤ position e r
  tail-below =
      let tail : e.tail ≡ position e e.released = sound.plain.tail in
      let rises : position e e.released ≤ position e r = position-grows e e.released r low in
      omega arith

  -- the log does not begin after the committed transactions
  start-above : position e r ≤ e.start
  start-above =
      let start : e.start ≡ position e e.committed = sound.plain.start in
      let rises : position e r ≤ position e e.committed = position-grows e r e.committed high in
      omega arith

  -- the texts stand at their positions, from the first on
  front-left : (m : ℕ) → HoldsFirst e image r (r + m) → (k : ℕ) → k < length (between_blocks e r m) →
      image Log (ring_place e.ring (position e r + k)) ≡ block_at (between_blocks e r m) k
  front-left m holds k within =
      let size : position e (r + m) ≡ position e r + length (between_blocks e r m) = position-split e r m in
      holds.front (position e r + k) (omega arith) (omega arith)
      ∙ ap (λ (bs : List (List ℕ)). block_at bs (position e r + k)) (first-split e r m)
      ∙ block-behind (first_blocks e r) (between_blocks e r m) (position e r + k) k refl

  -- nothing due follows them within the lap
  rest-left : (m : ℕ) → HoldsFirst e image r (r + m) → (k : ℕ) → length (between_blocks e r m) ≤ k → k < e.ring.blocks →
      IsNotDue e.layout e.shape.home_blocks (e.first + (r + m)) (image Log (ring_place e.ring (position e r + k)))
  rest-left m holds k behind within =
      let size : position e (r + m) ≡ position e r + length (between_blocks e r m) = position-split e r m in
      let most : e.committed ≤ r + m = holds.committed in
      let above : position e r ≤ e.start = start-above in
      elim (cases_lt (position e r + k) (e.tail + e.ring.blocks)) [
        | inl below ↦ holds.rest (position e r + k) (omega arith) below
        | inr past ↦
            let b = around-left e disk image sound leaves layout-left (position e r + k) past (omega arith) in
            behind-not_due e (e.first + (r + m)) (image Log (ring_place e.ring (position e r + k)))
            (record { below = λ magic. let least = b.below magic in omega arith })
      ]

  -- the log has the texts of the batches after the first r
  texts-left : (m : ℕ) → HoldsFirst e image r (r + m) →
      HoldsTexts e.layout e.shape e.ring image (position e r) (texts_of e.layout e.uuid (take m (drop r e.accepted))) (e.first + r + m)
  texts-left m holds =
      let size : position e (r + m) ≡ position e r + length (between_blocks e r m) = position-split e r m in
      let fits : position e (r + m) ≤ e.tail + e.ring.blocks = holds.fits in
      let most : e.committed ≤ r + m = holds.committed in
      let below : e.tail ≤ position e r = tail-below in
      let number : e.first + (r + m) ≡ e.first + r + m = omega arith in
      record {
        fits = omega arith;
        front = front-left m holds;
        rest = λ k behind within.
            subst (λ s. IsNotDue e.layout e.shape.home_blocks s (image Log (ring_place e.ring (position e r + k)))) number
            (rest-left m holds k behind within);
        each = λ k h. let b = each-left e disk image sound leaves layout-left k h in record { below = λ magic. let least = b.below magic in omega arith };
      }

  -- their replay is what an opening makes of the image
  chain-left : (m : ℕ) → HoldsFirst e image r (r + m) → ChainOpens e.shape image (drop r e.accepted) m (e.first + r + m)
  chain-left m holds =
      let few : r + m ≤ length e.accepted = holds.few in
      let size : length (drop r e.accepted) ≡ length e.accepted - r = length-drop r e.accepted in
      let numbers = sound.plain.numbers in
      chain-opens e.layout e.shape e.ring e.uuid (e.first + r) (position e r) m (drop r e.accepted) image layout-left
      names.is_superblock.layout_is names sound.plain.uuid
      (all-drop (IsBatch e.layout e.shape) r e.accepted sound.plain.batches) (numbered-drop e.first r e.accepted sound.plain.numbered)
      (omega arith) (omega arith) (texts-left m holds)

  -- the image opens to these and the r earlier ones, which are home
  opens-sum : (m : ℕ) → HoldsFirst e image r (r + m) → OpensTo e.shape e.accepted image (r + m)
  opens-sum m holds =
      let most : e.committed ≤ r + m = holds.committed in
      let chain : ChainOpens e.shape image (drop r e.accepted) m (e.first + r + m) = chain-left m holds in
      let limit = chain.limit ∙ omega arith in
      record {
        opens = λ ts are. record {
          got = λ b. bytes_of (content_of (last_effect b (take m (drop r ts)))) (image Home b);
          opens = chain.opens (drop r ts) (batches-drop r ts e.accepted are);
          recovered = λ b h. bytes-left e disk image r m ts b leaves home high most are;
        };
        count = λ ts are. record {
          limit = _;
          has = OfChain chain.texts chain.has;
          count = sym (ap (λ end. numbered_below end ts) limit ∙ count-below e.first (r + m) ts e.accepted holds.few sound.plain.numbered are);
        };
      }

  -- the image opens to the number of texts in its log
  opens-first : (n : ℕ) → HoldsFirst e image r n → OpensTo e.shape e.accepted image n
  opens-first n holds =
      let most : e.committed ≤ n = holds.committed in
      let sum : r + (n - r) ≡ n = omega arith in
      subst (λ c. OpensTo e.shape e.accepted image c) sum (opens-sum (n - r) (subst (λ c. HoldsFirst e image r c) (sym sum) holds))

  -- without the commit block, the log has the committed transactions
  holds-before : HasNoCommit e image → HoldsFirst e image r e.committed
  holds-before part =
      let start : e.start ≡ position e e.committed = sound.plain.start in
      let room : e.start + length (due_blocks e) ≤ e.tail + e.ring.blocks = sound.plain.room in
      let below : e.tail ≤ position e r = tail-below in
      record {
        committed = omega arith;
        few = committed-few e e.stage sound.plain.stage;
        fits = omega arith;
        front = λ k from to. committed-left e disk image sound leaves k (omega arith) (omega arith);
        rest = λ k from to. elim (part k (omega arith) to) [
          | inl b ↦ behind-not_due e (e.first + e.committed) (image Log (ring_place e.ring k)) b
          | inr (i, stands, before) ↦ (due-inner e sound.plain layout-left i (image Log (ring_place e.ring k)) stands before).due
        ];
      }

  -- with the commit block, the log has one more transaction
  holds-behind : AreDurable e disk → HasCommit e image → HoldsFirst e image r (e.committed + 1)
  holds-behind durable own =
      let start : e.start ≡ position e e.committed = sound.plain.start in
      let room : e.start + length (due_blocks e) ≤ e.tail + e.ring.blocks = sound.plain.room in
      let below : e.tail ≤ position e r = tail-below in
      let few : e.committed < length e.accepted = due-more e own.index (image Log (ring_place e.ring (place_of_commit e))) own.block in
      let size : position e (e.committed + 1) ≡ e.start + length (due_blocks e) = position-more e start few in
      let sum : length (texts_blocks (committed_texts e) ++ due_blocks e) ≡ length (texts_blocks (committed_texts e)) + length (due_blocks e) =
      length-append (texts_blocks (committed_texts e)) (due_blocks e) in
      record {
        committed = omega arith;
        few = omega arith;
        fits = omega arith;
        front = λ k from to.
            more-left e disk image sound leaves (due-left e disk image sound leaves durable own) k (omega arith) (omega arith)
            ∙ ap (λ (bs : List (List ℕ)). block_at bs k) (sym (committed-more e few));
        rest = λ k from to.
            let b = more-rest e disk image sound leaves k (omega arith) to in
            behind-not_due e (e.first + (e.committed + 1)) (image Log (ring_place e.ring k))
            (record { below = λ magic. let least = b.below magic in omega arith });
      }

  -- the image opens to a number from the committed transactions to all
  abbrev OpensWithin : Type 0
  OpensWithin = (n : ℕ) × (e.committed ≤ n) × (n ≤ length e.accepted) × OpensTo e.shape e.accepted image n

  -- it opens so if its log has the transactions up to that number
  within-holds : (n : ℕ) → HoldsFirst e image r n → OpensWithin
  within-holds n holds = (n, holds.committed, holds.few, opens-first n holds)

  -- it opens so if all but the commit block is durable
  within-ending : AreDurable e disk → OpensWithin
  within-ending durable =
      let room : e.start + length (due_blocks e) ≤ e.tail + e.ring.blocks = sound.plain.room in
      elim (cases_eq (length (due_blocks e)) 0) [
        | inl none ↦ within-holds e.committed (holds-before (part-none e disk image sound leaves none))
        | inr some ↦
            elim (behind-left e disk image sound leaves (place_of_commit e) (omega arith) (omega arith)) [
              | inl other ↦ within-holds e.committed (holds-before (part-without e disk image sound leaves other))
              | inr own ↦ within-holds (e.committed + 1) (holds-behind durable own)
            ]
      ]

  -- it opens so at each point of a commit
  within-progress : Progress e disk e.stage → OpensWithin
  within-progress (Before least) = within-holds e.committed (holds-before (part-before e disk image sound leaves least))
  within-progress (Ending durable) = within-ending durable

-- no ring block of a clean log is ahead
clean-left : (e : Engine) (disk : Disk) (image : Image) → Sound e disk → Leaves disk image →
    e.committed ≡ 0 → handed e.stage (length (due_blocks e)) ≡ 0 → (k : ℕ) → k < e.ring.blocks → IsBehind e.first (image Log (ring_place e.ring k))
clean-left e disk image sound leaves none unhanded k high =
    let start : e.start ≡ position e e.committed = sound.plain.start in
    let empty : position e e.committed ≡ 0 = ap (position e) none in
    elim (behind-left e disk image sound leaves k (omega arith) (omega arith)) [
      | inl b ↦ record { below = λ m. let least = b.below m in omega arith }
      | inr o ↦ let handed_over = o.handed_over in absurd (omega arith)
    ]

-- whatever block 0 says, the image opens
within-found : (e : Engine) (disk : Disk) (image : Image) → Sound e disk → Leaves disk image → Found e disk (image Log 0) →
    (n : ℕ) × (e.committed ≤ n) × (n ≤ length e.accepted) × OpensTo e.shape e.accepted image n
within-found e disk image sound leaves (FindsTail r low high names home) =
    within-progress e disk image sound leaves r low high names home (progress e disk e.stage sound.stage)
within-found e disk image sound leaves (FindsNothing names none unhanded) = (
  0,
  omega arith,
  omega arith,
  clean-opens e.shape e.ring e.first e.accepted image names (clean-left e disk image sound leaves none unhanded) sound.plain.numbered,
)

-- every crash image of a sound disk opens
pub images-open : (e : Engine) (disk : Disk) → Sound e disk → OpensBetween e.shape e.accepted e.committed (length e.accepted) disk
images-open e disk sound = record {
  each = λ image leaves. within-found e disk image sound leaves (found e disk (image Log 0) sound (sound.superblock (image Log 0) (leaves.each Log 0)));
}
