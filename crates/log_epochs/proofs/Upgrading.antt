-- At each stage of an upgrade the log is clean, with the same ring and number, so images open as before.
use Rattle.std.proofs.Common.{refl, sym, ◌∙◌, ap, ap₂, subst, arith, inl, inr, ⊎_elim}
use Rattle.std.specs.Prelude.{◌≡◌, ℕ, ◌+◌, ◌-◌, ◌<◌, ◌≤◌, ◌==◌, true, false, if◌then◌else◌, List, length, Option, Some, None}
use Rattle.std.proofs.lemmas.Bool.{cases_eq}
use Rattle.std.proofs.lemmas.Bool.Decides.{nat_tests}
use Rattle.journal_model.specs.declared.number.Area.{Area}
use Rattle.journal_model.specs.declared.number.Area.TheVariants.{Log, Home}
use Rattle.journal_model.specs.Disk.{Cell, Disk, Image, IsOneOf, Leaves, Shape, held, reading, written}
use Rattle.journal_model.specs.Layout.{begins_with_magic, sequence_in}
use Rattle.journal_model.specs.Transaction.{History, Volume}
use Rattle.log_model.specs.Chain.{Ring}
use Rattle.log_model.specs.Opening.{IsCountOf, NothingAhead, OpensAs, ring_of, super_of}
use Rattle.log_model.specs.Opening.OpensAs.{Clean, Replayed}
use Rattle.log_model.specs.Superblock.{super_in, super_refusal, widened}
use Rattle.log_format.proofs.Widening.{before_features, widened_accepted}
use Rattle.journal_world.specs.Call.{Call, IsAfterFault, after_success}
use Rattle.journal_world.specs.Sound.{durable_cell}
use Rattle.journal_world.proofs.Places.{IsWrite, is_write-fault, is_write-written}
use Rattle.journal_world.proofs.Superblocks.{accepted-first, accepted-size}
use Rattle.log_epochs.specs.EnginePromise.{KeepsNow, Kept}
use Rattle.log_epochs.specs.Epoch.{Epoch}
use Rattle.log_epochs.specs.UpgradeSteps.{IsUpgradable, UpgradeCall, UpgradeStage, pinning_in}
use Rattle.log_epochs.specs.UpgradeSteps.UpgradeCall.{FlushLog, WriteSuperblock, FlushSuperblock}
use Rattle.log_epochs.specs.UpgradeSteps.UpgradeStage.{LogFlush, SuperblockWrite, SuperblockFlush, Done}
use Rattle.log_epochs.proofs.Keeping.{IsPinned, flush-keeps, pin-keeps, pin-stays, pinning-pins}
use Rattle.log_epochs.proofs.Stages.{undone-keeps}

-- what the superblock of a wide log says
pub record IsWidened (shape : Shape) (block : List ℕ) : Type 0 where
  pub accepted : super_refusal shape (widened block) ≡ None
  pub clean : (super_in (widened block)).s_start ≡ 0
  pub sequence : (super_in (widened block)).s_sequence ≡ (super_in block).s_sequence
  pub ring : ring_of (super_in (widened block)) ≡ ring_of (super_in block)

pub is-widened : (shape : Shape) (block : List ℕ) → IsUpgradable shape block → IsWidened shape block
is-widened shape block may =
    let large : 1024 ≤ shape.block_size = accepted-size shape block may.accepted in
    let size : length block ≡ shape.block_size = may.size in
    record {
      accepted = widened_accepted shape block (omega arith) may.is_narrow may.accepted;
      clean = before_features 0x1c block (omega arith) (omega arith) ∙ may.clean;
      sequence = before_features 0x18 block (omega arith) (omega arith);
      ring =
          ap₂ (λ (first blocks : ℕ). let r : Ring = record { first = first; blocks = blocks - first } in r)
          (before_features 0x14 block (omega arith) (omega arith))
          (before_features 0x10 block (omega arith) (omega arith));
    }

-- the image with another block 0
unfoldable pub with_first : Image → List ℕ → Image
with_first image v Log n = if n == 0 then v else image Log n
with_first image v Home b = image Home b

module _ (shape : Shape) (block : List ℕ) (may : IsUpgradable shape block) (image : Image) (is : image Log 0 ≡ widened block) where
  -- the image with the old superblock
  abbrev pub narrow_image : Image
  narrow_image = with_first image block

  narrow-other : (n : ℕ) → (n ≡ 0 → ⊥) → narrow_image Log n ≡ image Log n
  unfolding with_first
  narrow-other n other = let test : (n == 0) ≡ false = grind (arith, nat_tests) in rw test

  -- nothing is ahead that was not before
  still-none : NothingAhead narrow_image (super_of narrow_image).s_sequence → NothingAhead image (super_of image).s_sequence
  unfolding with_first
  still-none none place ahead =
      let w : IsWidened shape block = is-widened shape block may in
      let ring : ring_of (super_of image) ≡ ring_of (super_in block) = ap (λ (b : List ℕ). ring_of (super_in b)) is ∙ w.ring in
      let sequence : (super_of image).s_sequence ≡ (super_in block).s_sequence = ap (λ (b : List ℕ). (super_in b).s_sequence) is ∙ w.sequence in
      let above : 0 < (super_in block).s_first = accepted-first shape block may.accepted in
      let low : (super_in block).s_first ≤ place = subst (λ (r : Ring). r.first ≤ place) ring ahead.low in
      let other : narrow_image Log place ≡ image Log place = narrow-other place (λ zero. omega arith) in
      none place (record {
        low = low;
        high = subst (λ (r : Ring). place < r.first + r.blocks) ring ahead.high;
        magic = ap begins_with_magic other ∙ ahead.magic;
        above = subst (λ (b : List ℕ). (super_in block).s_sequence < sequence_in b) (sym other) (subst (λ (s : ℕ). s < sequence_in (image Log place)) sequence ahead.above);
      })

  -- it opens as before
  pub opens-widened : (got : Volume) → OpensAs shape narrow_image got → OpensAs shape image got
  unfolding with_first
  opens-widened got (Clean clean none same) =
      let w : IsWidened shape block = is-widened shape block may in
      Clean (record {
        accepted = ap (super_refusal shape) is ∙ w.accepted;
        clean = ap (λ (b : List ℕ). (super_in b).s_start) is ∙ w.clean;
      }) (still-none none) same
  opens-widened got (Replayed texts has none made) = absurd (has.started.started may.clean)

-- the log is flushed: block 0 is durable, and n is pinned
pub record IsUpgradeReady (shape : Shape) (block : List ℕ) (epoch : Option Epoch) (disk : Disk) : Type 0 where
  pub may : IsUpgradable shape block
  pub durable : disk Log 0 ≡ durable_cell block
  pub pin : IsPinned epoch
  pub keeps : KeepsNow shape epoch disk

-- nothing is written yet
pub record IsUpgradeRead (shape : Shape) (block : List ℕ) (epoch : Option Epoch) (disk : Disk) : Type 0 where
  pub may : IsUpgradable shape block
  pub reads : (disk Log 0).reads ≡ block
  pub keeps : KeepsNow shape epoch disk

-- the invariant of each stage
abbrev pub UpgradeHolds : Shape → List ℕ → UpgradeStage → Option Epoch → Disk → Type 0
UpgradeHolds shape block LogFlush epoch disk = IsUpgradeRead shape block epoch disk
UpgradeHolds shape block SuperblockWrite epoch disk = IsUpgradeReady shape block epoch disk
UpgradeHolds shape block SuperblockFlush epoch disk = KeepsNow shape epoch disk
UpgradeHolds shape block Done epoch disk = KeepsNow shape epoch disk

pub upgrade-keeps : (shape : Shape) (block : List ℕ) (stage : UpgradeStage) (epoch : Option Epoch) (disk : Disk) →
    UpgradeHolds shape block stage epoch disk → KeepsNow shape epoch disk
upgrade-keeps shape block LogFlush epoch disk holds = holds.keeps
upgrade-keeps shape block SuperblockWrite epoch disk holds = holds.keeps
upgrade-keeps shape block SuperblockFlush epoch disk holds = holds
upgrade-keeps shape block Done epoch disk holds = holds

module _ (shape : Shape) (block : List ℕ) (epoch : Epoch) (disk after : Disk) (image : Image) (ready : IsUpgradeReady shape block (Some epoch) disk) (write : IsWrite disk after 0 (widened block)) (leaves : Leaves after image) where
  -- an image with the old superblock was a crash image before
  left-before : IsOneOf (held (disk Log 0)) (image Log 0) → Leaves disk image
  left-before was = record { each = each }
    where
      each : (a : Area) (n : ℕ) → IsOneOf (held (disk a n)) (image a n)
      each Log n = elim (cases_eq n 0) [
        | inl zero ↦ subst (λ (k : ℕ). IsOneOf (held (disk Log k)) (image Log k)) (sym zero) was
        | inr other ↦ subst (λ (c : Cell). IsOneOf (held c) (image Log n)) (write.others n other) (leaves.each Log n)
      ]
      each Home b = subst (λ (c : Cell). IsOneOf (held c) (image Home b)) (write.home.same b) (leaves.each Home b)

  -- so was one with the new superblock replaced by the old one
  narrow-left : (is : image Log 0 ≡ widened block) → Leaves disk (narrow_image shape block ready.may image is)
  unfolding with_first
  narrow-left is = record { each = each }
    where
      each : (a : Area) (n : ℕ) → IsOneOf (held (disk a n)) (narrow_image shape block ready.may image is a n)
      each Log n = elim (cases_eq n 0) [
        | inl same ↦
            let test : (n == 0) ≡ true = grind (arith, nat_tests) in
            rw test (subst (λ (k : ℕ). IsOneOf (held (disk Log k)) block) (sym same) (subst (λ (c : Cell). IsOneOf (held c) block) (sym ready.durable) (inl refl)))
        | inr other ↦
            let test : (n == 0) ≡ false = grind (arith, nat_tests) in
            rw test (subst (λ (c : Cell). IsOneOf (held c) (image Log n)) (write.others n other) (leaves.each Log n))
      ]
      each Home b = subst (λ (c : Cell). IsOneOf (held c) (image Home b)) (write.home.same b) (leaves.each Home b)

  -- an image keeps what that one keeps
  widened-kept : (is : image Log 0 ≡ widened block) (ts : History) → Kept shape epoch ts (narrow_image shape block ready.may image is) → Kept shape epoch ts image
  unfolding with_first
  widened-kept is ts kept = record {
    n = kept.n;
    low = kept.low;
    high = kept.high;
    count = subst (λ (i : Image). IsCountOf shape i ts kept.n) (pin-stays epoch.pin ready.pin.0 (narrow_image shape block ready.may image is) image ready.pin.1) kept.count;
    opens = record { got = kept.opens.got; opens = opens-widened shape block ready.may image is kept.opens.got kept.opens.opens; recovered = kept.opens.recovered };
    others = kept.others;
    numbered = kept.numbered;
  }

-- the write of the superblock, also a failed one, keeps the promise
pub widened-keeps : (shape : Shape) (block : List ℕ) (epoch : Option Epoch) (disk after : Disk) → IsUpgradeReady shape block epoch disk →
    IsWrite disk after 0 (widened block) → KeepsNow shape epoch after
widened-keeps shape block None disk after ready write = tt
widened-keeps shape block (Some epoch) disk after ready write = λ image leaves ts are.
    ⊎_elim
    (λ is. widened-kept shape block epoch disk after image ready write leaves is ts
    (ready.keeps (narrow_image shape block ready.may image is) (narrow-left shape block epoch disk after image ready write leaves is) ts are))
    (λ was. ready.keeps image (left-before shape block epoch disk after image ready write leaves was) ts are)
    (write.there (image Log 0) (leaves.each Log 0))

-- each call that succeeds leads to the next stage
pub upgrade-call : (shape : Shape) (block : List ℕ) (stage next : UpgradeStage) (call : Call) (epoch : Option Epoch) (disk : Disk) →
    UpgradeCall block stage call next → UpgradeHolds shape block stage epoch disk →
    UpgradeHolds shape block next (pinning_in stage epoch (reading disk)) (after_success call disk)
upgrade-call shape block stage next call epoch disk FlushLog holds = record {
  may = holds.may;
  durable = ap durable_cell holds.reads;
  pin = pinning-pins epoch (reading disk);
  keeps = pin-keeps shape epoch disk holds.keeps;
}
upgrade-call shape block stage next call epoch disk WriteSuperblock holds =
    widened-keeps shape block epoch disk (written disk Log 0 (widened block)) holds (is_write-written disk 0 (widened block))
upgrade-call shape block stage next call epoch disk FlushSuperblock holds = flush-keeps shape epoch disk Log holds

-- a failed call keeps the promise
pub upgrade-fault : (shape : Shape) (block : List ℕ) (stage next : UpgradeStage) (call : Call) (epoch : Option Epoch) (disk after : Disk) →
    UpgradeCall block stage call next → UpgradeHolds shape block stage epoch disk → IsAfterFault call disk after → KeepsNow shape epoch after
upgrade-fault shape block stage next call epoch disk after FlushLog holds fault = undone-keeps shape epoch Log disk after fault holds.keeps
upgrade-fault shape block stage next call epoch disk after WriteSuperblock holds fault =
    widened-keeps shape block epoch disk after holds (is_write-fault disk after 0 (widened block) fault)
upgrade-fault shape block stage next call epoch disk after FlushSuperblock holds fault = undone-keeps shape epoch Log disk after fault holds
