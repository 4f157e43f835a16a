-- What images keep over a flush, a crash, and each moment of a replay.
use Rattle.std.proofs.Common.{refl, sym, ◌∙◌, ap, subst, arith, inl, inr}
use Rattle.std.proofs.Math.Path.{fun_ext}
use Rattle.std.specs.Prelude.{◌≡◌, ◌⊎◌, ⊤, ℕ, ◌+◌, ◌<◌, List, length, Option, Some, None, unwrap_or}
use Rattle.log_model.specs.declared.log.Text.{Text}
use Rattle.journal_model.specs.declared.number.Area.{Area}
use Rattle.journal_model.specs.declared.number.Area.TheVariants.{Log, Home}
use Rattle.journal_model.specs.Disk.{Cell, Disk, Image, IsOneOf, Leaves, Shape, disk_of, flushed, held, reading}
use Rattle.log_model.specs.HomeChange.{OthersRightlyHeld}
use Rattle.log_model.specs.Opening.{HasChain, HasLimit, IsClean, IsCountOf, Opens, greatest_number, numbered_below, super_of}
use Rattle.log_model.specs.Opening.HasLimit.{OfChain, OfClean}
use Rattle.log_model.specs.Superblock.{super_in, super_refusal}
use Rattle.journal_model.specs.Transaction.{History}
use Rattle.journal_world.specs.Opening.{OpensAlways}
use Rattle.journal_world.specs.Sound.{durable_cell}
use Rattle.log_epochs.specs.OpeningSteps.{Found, HasTexts, IsFound, clean_superblock, next_of}
use Rattle.log_epochs.specs.OpeningSteps.HasTexts.{NoTexts, Texts}
use Rattle.log_epochs.proofs.ReplayMoments.{IsReplaying}
use Rattle.log_epochs.specs.EnginePromise.{KeepsImage, KeepsNow, Kept}
use Rattle.log_epochs.specs.Epoch.{Epoch, pinned, pinning}
use Rattle.log_epochs.proofs.CleanLogs.{clean-tail}
use Rattle.log_epochs.proofs.Homes.{held-read}
use Rattle.log_epochs.proofs.Replaying.{IsReadyFor, SameLog, durable-one, kept-home, one-chain, opens-replaying, others-copying, same-chain}

-- two images of one log are clean alike
pub same-clean : (shape : Shape) (image other : Image) → SameLog image other → IsClean shape image → IsClean shape other
same-clean shape image other same is = record {
  accepted = ap (super_refusal shape) (same 0) ∙ is.accepted;
  clean = ap (λ (block : List ℕ). (super_in block).s_start) (same 0) ∙ is.clean;
}

-- two images of one log have the same limit
pub same-limit : (shape : Shape) (image other : Image) (limit : ℕ) → SameLog image other → HasLimit shape image limit → HasLimit shape other limit
same-limit shape image other limit same (OfClean clean) =
    subst (HasLimit shape other) (ap (λ (block : List ℕ). (super_in block).s_sequence) (same 0)) (OfClean (same-clean shape image other same clean))
same-limit shape image other limit same (OfChain texts has) =
    subst (HasLimit shape other) (ap (λ (block : List ℕ). (super_in block).s_sequence + length texts) (same 0))
    (OfChain texts (same-chain shape image other texts same has))

-- an image has one limit
pub one-limit : (shape : Shape) (image : Image) (limit other : ℕ) → HasLimit shape image limit → HasLimit shape image other → limit ≡ other
one-limit shape image limit other (OfClean clean) (OfClean also) = refl
one-limit shape image limit other (OfClean clean) (OfChain texts has) = absurd (has.started.started clean.clean)
one-limit shape image limit other (OfChain texts has) (OfClean clean) = absurd (has.started.started clean.clean)
one-limit shape image limit other (OfChain texts has) (OfChain others also) =
    ap (λ (ts : List Text). (super_of image).s_sequence + length ts) (one-chain shape image others texts also has)

-- an image has one count
one-count : (shape : Shape) (image : Image) (ts : History) (n m : ℕ) → IsCountOf shape image ts n → IsCountOf shape image ts m → n ≡ m
one-count shape image ts n m is also =
    is.count ∙ ap (λ (limit : ℕ). numbered_below limit ts) (one-limit shape image is.limit also.limit is.has also.has) ∙ sym also.count

-- the count depends on the log alone
same-count : (shape : Shape) (image other : Image) (ts : History) (n : ℕ) → SameLog image other → IsCountOf shape image ts n → IsCountOf shape other ts n
same-count shape image other ts n same is =
    record { limit = is.limit; has = same-limit shape image other is.limit same is.has; count = is.count }

-- an image of the same log may become the pin
pin-count : (shape : Shape) (pin : Option Image) (image other : Image) (ts : History) (n : ℕ) → SameLog image other →
    IsCountOf shape (unwrap_or pin image) ts n → IsCountOf shape (unwrap_or pin other) ts n
pin-count shape None image other ts n same is = same-count shape image other ts n same is
pin-count shape (Some p) image other ts n same is = is

-- a crash image of a flushed disk is one of the disk before
pub flushed-leaves : (disk : Disk) (area : Area) (image : Image) → Leaves (flushed disk area) image → Leaves disk image
flushed-leaves disk area image leaves = record { each = λ a n. each area a n (leaves.each a n) }
  where
    each : (area a : Area) (n : ℕ) → IsOneOf (held (flushed disk area a n)) (image a n) → IsOneOf (held (disk a n)) (image a n)
    each Log Log n one = held-read (disk Log n) (image Log n) one
    each Log Home n one = one
    each Home Log n one = one
    each Home Home n one = held-read (disk Home n) (image Home n) one

-- what the disk reads may be left by a crash
pub reads-left : (disk : Disk) → Leaves disk (reading disk)
reads-left disk = record { each = λ a n. inl refl }

-- the flush of an area keeps the promise
pub flush-keeps : (shape : Shape) (epoch : Option Epoch) (disk : Disk) (area : Area) → KeepsNow shape epoch disk → KeepsNow shape epoch (flushed disk area)
flush-keeps shape None disk area keeps = tt
flush-keeps shape (Some epoch) disk area keeps = λ image leaves. keeps image (flushed-leaves disk area image leaves)

-- a durable block holds one value
only : (v w : List ℕ) → (v ≡ w) ⊎ ⊥ → v ≡ w
only v w (inl is) = is
only v w (inr none) = absurd none

-- the log's flush that pins what the device reads keeps the promise
pub pin-keeps : (shape : Shape) (epoch : Option Epoch) (disk : Disk) → KeepsNow shape epoch disk →
    KeepsNow shape (pinning epoch (reading disk)) (flushed disk Log)
pin-keeps shape None disk keeps = tt
pin-keeps shape (Some epoch) disk keeps = λ image leaves ts are.
    let kept : Kept shape epoch ts image = keeps image (flushed-leaves disk Log image leaves) ts are in
    let same : SameLog image (reading disk) = λ n. sym (only (image Log n) (disk Log n).reads (leaves.each Log n)) in
    record {
      n = kept.n;
      low = kept.low;
      high = kept.high;
      count = pin-count shape epoch.pin image (reading disk) ts kept.n same kept.count;
      opens = kept.opens;
      others = kept.others;
      numbered = kept.numbered;
    }

-- a disk that a crash left holds nothing else
left-alone : (left image : Image) → Leaves (disk_of left) image → left ≡ image
left-alone left image leaves = fun_ext (λ a. fun_ext (λ n. sym (only (image a n) (left a n) (leaves.each a n))))

-- a crash keeps the promise
pub stop-keeps : (shape : Shape) (epoch : Option Epoch) (disk : Disk) (left : Image) → Leaves disk left → KeepsNow shape epoch disk →
    KeepsNow shape (pinning epoch left) (disk_of left)
stop-keeps shape None disk left out keeps = tt
stop-keeps shape (Some epoch) disk left out keeps = λ image leaves.
    subst (KeepsImage shape (pinned epoch left)) (left-alone left image leaves)
    (λ ts are.
    let kept : Kept shape epoch ts left = keeps left out ts are in
    record {
      n = kept.n;
      low = kept.low;
      high = kept.high;
      count = kept.count;
      opens = kept.opens;
      others = kept.others;
      numbered = kept.numbered;
    })

-- the epoch has a pin
abbrev pub IsPinned : Option Epoch → Type 0
IsPinned None = ⊤
IsPinned (Some epoch) = (pin : Image) × (epoch.pin ≡ Some pin)

-- a pin is there
pub pinning-pins : (epoch : Option Epoch) (image : Image) → IsPinned (pinning epoch image)
pinning-pins None image = tt
pinning-pins (Some epoch) image = (unwrap_or epoch.pin image, refl)

-- with a pin, another image does not matter
pub pin-stays : (pin : Option Image) (p image other : Image) → pin ≡ Some p → unwrap_or pin image ≡ unwrap_or pin other
pin-stays pin p image other is = ap (λ (o : Option Image). unwrap_or o image) is ∙ sym (ap (λ (o : Option Image). unwrap_or o other) is)

-- the disk as the opening's flush of the log left it
pub record IsFlushed (shape : Shape) (found : Found) (epoch : Option Epoch) (base : Disk) : Type 0 where
  pub log : (n : ℕ) → base Log n ≡ durable_cell (found.image Log n)
  pub home : (b : ℕ) → (base Home b).reads ≡ found.image Home b
  pub pin : IsPinned epoch
  pub keeps : KeepsNow shape epoch base

-- a chain has its limit
pub found-chain : (shape : Shape) (image : Image) (texts : List Text) (limit : ℕ) → HasTexts shape image texts limit → HasChain shape image texts →
    limit ≡ (super_of image).s_sequence + length texts
found-chain shape image texts limit (NoTexts clean) has = absurd (has.started.started clean.clean)
found-chain shape image texts limit (Texts ts also) has = refl

-- the replay may begin
pub ready : (shape : Shape) (found : Found) (epoch : Option Epoch) (base : Disk) → IsFound shape found → HasChain shape found.image found.texts →
    IsFlushed shape found epoch base → IsReadyFor shape found.texts (clean_superblock found) found.image base
ready shape found epoch base is has flush =
    let small : found.limit < greatest_number = is.number in
    let tail = clean-tail shape (found.image Log 0) (next_of found) has.started.accepted is.size (omega arith) in
    let sequence : (super_in (clean_superblock found)).s_sequence ≡ found.limit + 1 = tail.sequence in
    record {
      has = has;
      durable = λ m v one. durable-one (base Log m) (found.image Log m) v (flush.log m) one;
      reads = λ m. inl (sym (ap (λ (c : Cell). c.reads) (flush.log m)));
      accepted = tail.accepted;
      clean = tail.clean;
      ring = tail.ring;
      none_ahead = λ place ahead.
          is.none_ahead place (record {
            low = ahead.low;
            high = ahead.high;
            magic = ahead.magic;
            above = let above = ahead.above in omega arith;
          });
    }

-- each moment of the replay and its end keeps what the flush kept
pub replaying-keeps : (shape : Shape) (found : Found) (epoch : Option Epoch) (base disk : Disk) → IsFound shape found → HasChain shape found.image found.texts →
    IsFlushed shape found epoch base → IsReplaying shape.home_blocks found.texts (clean_superblock found) base disk → KeepsNow shape epoch disk
replaying-keeps shape found None base disk is has flush replaying = tt
replaying-keeps shape found (Some epoch) base disk is has flush replaying = λ image leaves ts are.
    let first : Kept shape epoch ts (reading base) = flush.keeps (reading base) (reads-left base) ts are in
    let same : (other : Image) (out : Leaves base other) → (flush.keeps other out ts are).n ≡ first.n =
    λ other out.
    let kept : Kept shape epoch ts other = flush.keeps other out ts are in
    one-count shape (unwrap_or epoch.pin other) ts kept.n first.n kept.count
    (subst (λ (i : Image). IsCountOf shape i ts first.n) (pin-stays epoch.pin flush.pin.0 (reading base) other flush.pin.1) first.count) in
    let always : OpensAlways shape ts first.n base =
    record { each = λ other out. subst (λ (n : ℕ). Opens shape ts n other) (same other out) (flush.keeps other out ts are).opens } in
    let rightly : (other : Image) → Leaves base other → OthersRightlyHeld shape.home_blocks epoch.opening epoch.directs ts first.n (other Home) =
    λ other out.
    subst (λ (n : ℕ). OthersRightlyHeld shape.home_blocks epoch.opening epoch.directs ts n (other Home)) (same other out) (flush.keeps other out ts are).others in
    let all_ready = ready shape found (Some epoch) base is has flush in
    record {
      n = first.n;
      low = first.low;
      high = first.high;
      count = subst (λ (i : Image). IsCountOf shape i ts first.n) (pin-stays epoch.pin flush.pin.0 (reading base) image flush.pin.1) first.count;
      opens = ((opens-replaying shape found.texts (clean_superblock found) found.image base disk all_ready replaying).keeps ts first.n always).each image leaves;
      others =
          others-copying shape found.texts base epoch.opening epoch.directs found.image image ts first.n has all_ready.reads
          (kept-home found.texts base disk image replaying.home leaves) always rightly;
      numbered = first.numbered;
    }
