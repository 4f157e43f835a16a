-- What holds at each moment of an upgrade.
use Rattle.std.proofs.Common.{refl, sym, ◌∙◌, ap, subst, arith, inl, inr, ⊎_elim}
use Rattle.std.specs.Prelude.{◌≡◌, ◌≢◌, ◌⊎◌, ℕ, ◌==◌, true, false, List, None}
use Rattle.std.proofs.lemmas.Bool.{cases_eq}
use Rattle.std.proofs.lemmas.Bool.Decides.{nat_tests}
use Rattle.journal_model.specs.declared.number.Area.{Area}
use Rattle.journal_model.specs.declared.number.Area.TheVariants.{Log, Home}
use Rattle.journal_model.specs.Disk.{Cell, Disk, Image, IsOneOf, Leaves, Shape, flushed, held}
use Rattle.journal_model.specs.Transaction.{History}
use Rattle.log_model.specs.Opening.{HasLimit, Opens}
use Rattle.log_model.specs.Opening.HasLimit.{OfClean}
use Rattle.log_model.specs.Superblock.{super_in, super_refusal, widened}
use Rattle.journal_world.specs.Call.{Call, IsAfterFault, after_success}
use Rattle.journal_world.specs.Opening.{OpensAlways}
use Rattle.journal_world.specs.Sound.{durable_cell}
use Rattle.journal_world.proofs.Places.{IsWrite, is_write-fault, is_write-written}
use Rattle.log_epochs.specs.UpgradeRun.{IsPastUpgradeFlush, IsUpgradeMoment, KeepsNumber, UpgradeReached}
use Rattle.log_epochs.specs.UpgradeRun.IsUpgradeMoment.{Unread, At, Fault}
use Rattle.log_epochs.specs.UpgradeRun.KeepsNumber.{Unwritten, Past}
use Rattle.log_epochs.specs.UpgradeRun.UpgradeReached.{Tested, Called}
use Rattle.log_epochs.specs.UpgradeSteps.{IsUpgradableOn, UpgradeCall, UpgradeStage}
use Rattle.log_epochs.specs.UpgradeSteps.UpgradeCall.{FlushLog, WriteSuperblock, FlushSuperblock}
use Rattle.log_epochs.specs.UpgradeSteps.UpgradeStage.{LogFlush, SuperblockWrite, SuperblockFlush, Done}
use Rattle.log_epochs.proofs.Homes.{held-read}
use Rattle.log_epochs.proofs.Stages.{flush-undone}
use Rattle.log_epochs.proofs.Upgrading.{IsWidened, is-widened, narrow_image, opens-widened, with_first}

-- of the log only block 0 is written, and of home nothing
record IsWriting (block : List ℕ) (old disk : Disk) : Type 0 where
  home : (b : ℕ) → disk Home b ≡ old Home b
  log : (n : ℕ) → n ≢ 0 → disk Log n ≡ flushed old Log Log n
  block_0 : (v : List ℕ) → IsOneOf (held (disk Log 0)) v → (v ≡ block) ⊎ (v ≡ widened block)

module _ (shape : Shape) (block : List ℕ) (old disk : Disk) (on : IsUpgradableOn shape block old) (is : IsWriting block old disk) (image : Image) (leaves : Leaves disk image) where
  -- the image with the old superblock is a crash image of the flush
  each-before : (first : List ℕ) → first ≡ block → (a : Area) (n : ℕ) → IsOneOf (held (flushed old Log a n)) (with_first image first a n)
  unfolding with_first
  each-before first same Log n = elim (cases_eq n 0) [
    | inl zero ↦
        let test : (n == 0) ≡ true = grind (arith, nat_tests) in
        rw test (inl (same ∙ sym on.read ∙ ap (λ (k : ℕ). (old Log k).reads) (sym zero)))
    | inr other ↦
        let test : (n == 0) ≡ false = grind (arith, nat_tests) in
        rw test (subst (λ (c : Cell). IsOneOf (held c) (image Log n)) (is.log n other) (leaves.each Log n))
  ]
  each-before first same Home b = subst (λ (c : Cell). IsOneOf (held c) (image Home b)) (is.home b) (leaves.each Home b)

  -- so is an image that has the old superblock
  same-before : image Log 0 ≡ block → (a : Area) (n : ℕ) → IsOneOf (held (flushed old Log a n)) (image a n)
  same-before same Log n = elim (cases_eq n 0) [
    | inl zero ↦ inl (ap (image Log) zero ∙ same ∙ sym on.read ∙ ap (λ (k : ℕ). (old Log k).reads) (sym zero))
    | inr other ↦ subst (λ (c : Cell). IsOneOf (held c) (image Log n)) (is.log n other) (leaves.each Log n)
  ]
  same-before same Home b = subst (λ (c : Cell). IsOneOf (held c) (image Home b)) (is.home b) (leaves.each Home b)

  -- it opens as that did
  opens-before : (ts : History) (n : ℕ) → OpensAlways shape ts n (flushed old Log) → Opens shape ts n image
  unfolding with_first
  opens-before ts n always =
      ⊎_elim
      (λ same. always.each image (record { each = same-before same }))
      (λ new.
      let opened = always.each (narrow_image shape block on.may image new) (record { each = each-before block refl }) in
      record { got = opened.got; opens = opens-widened shape block on.may image new opened.got opened.opens; recovered = opened.recovered })
      (is.block_0 (image Log 0) (leaves.each Log 0))

  -- it has the same limit
  limit-of : (first : List ℕ) → image Log 0 ≡ first → super_refusal shape first ≡ None → (super_in first).s_start ≡ 0 →
      HasLimit shape image (super_in first).s_sequence
  limit-of first same accepted clean =
      subst (HasLimit shape image) (ap (λ (b : List ℕ). (super_in b).s_sequence) same)
      (OfClean (record { accepted = ap (super_refusal shape) same ∙ accepted; clean = ap (λ (b : List ℕ). (super_in b).s_start) same ∙ clean }))

  limit-stays : HasLimit shape image (super_in block).s_sequence
  limit-stays =
      let w : IsWidened shape block = is-widened shape block on.may in
      ⊎_elim
      (λ same. limit-of block same on.may.accepted on.may.clean)
      (λ new. subst (HasLimit shape image) w.sequence (limit-of (widened block) new w.accepted w.clean))
      (is.block_0 (image Log 0) (leaves.each Log 0))

past : (shape : Shape) (block : List ℕ) (old disk : Disk) → IsUpgradableOn shape block old → IsWriting block old disk → IsPastUpgradeFlush shape block old disk
past shape block old disk on is = record {
  keeps = record { keeps = λ ts n always. record { each = λ image leaves. opens-before shape block old disk on is image leaves ts n always } };
  number = λ image leaves. limit-stays shape block old disk on is image leaves;
  home = is.home;
  log = is.log;
  block_0 = is.block_0;
}

-- the flush alone is such a moment
flushed-writing : (shape : Shape) (block : List ℕ) (old : Disk) → IsUpgradableOn shape block old → IsWriting block old (flushed old Log)
flushed-writing shape block old on = record {
  home = λ b. refl;
  log = λ n other. refl;
  block_0 = λ v one. inl (⊎_elim (λ same. same ∙ on.read) (λ none. absurd none) one);
}

-- the write of the superblock is such a moment
write-writing : (block : List ℕ) (old disk after : Disk) → IsWriting block old disk → IsWrite disk after 0 (widened block) → IsWriting block old after
write-writing block old disk after is write = record {
  home = λ b. write.home.same b ∙ is.home b;
  log = λ n other. write.others n other ∙ is.log n other;
  block_0 = λ v one. ⊎_elim (λ new. inr new) (λ was. is.block_0 v was) (write.there v one);
}

-- its flush is such a moment
flush-writing : (block : List ℕ) (old disk : Disk) → IsWriting block old disk → IsWriting block old (flushed disk Log)
flush-writing block old disk is = record {
  home = is.home;
  log = λ n other. ap (λ (c : Cell). durable_cell c.reads) (is.log n other);
  block_0 = λ v one. is.block_0 v (held-read (disk Log 0) v one);
}

-- the invariant of each stage after the flush
abbrev StageWrites : List ℕ → Disk → UpgradeStage → Disk → Type 0
StageWrites block old LogFlush disk = disk ≡ old
StageWrites block old SuperblockWrite disk = IsWriting block old disk
StageWrites block old SuperblockFlush disk = IsWriting block old disk
StageWrites block old Done disk = IsWriting block old disk

call-writes : (shape : Shape) (block : List ℕ) (old disk : Disk) (stage next : UpgradeStage) (call : Call) → IsUpgradableOn shape block old →
    UpgradeCall block stage call next → StageWrites block old stage disk → StageWrites block old next (after_success call disk)
call-writes shape block old disk stage next call on FlushLog same = subst (λ (d : Disk). IsWriting block old (flushed d Log)) (sym same) (flushed-writing shape block old on)
call-writes shape block old disk stage next call on WriteSuperblock is = write-writing block old disk _ is (is_write-written disk 0 (widened block))
call-writes shape block old disk stage next call on FlushSuperblock is = flush-writing block old disk is

reached-writes : (shape : Shape) (block : List ℕ) (old : Disk) (stage : UpgradeStage) (disk : Disk) → IsUpgradableOn shape block old →
    UpgradeReached block old stage disk → StageWrites block old stage disk
reached-writes shape block old stage disk on Tested = refl
reached-writes shape block old stage disk on (Called before next call mid new reached due same) =
    subst (StageWrites block old next) (sym same) (call-writes shape block old mid before next call on due (reached-writes shape block old before mid on reached))

at-keeps : (shape : Shape) (block : List ℕ) (old : Disk) (stage : UpgradeStage) (disk : Disk) → IsUpgradableOn shape block old →
    StageWrites block old stage disk → KeepsNumber shape old disk
at-keeps shape block old LogFlush disk on same = Unwritten same
at-keeps shape block old SuperblockWrite disk on is = Past block on (past shape block old disk on is)
at-keeps shape block old SuperblockFlush disk on is = Past block on (past shape block old disk on is)
at-keeps shape block old Done disk on is = Past block on (past shape block old disk on is)

fault-keeps : (shape : Shape) (block : List ℕ) (old disk after : Disk) (stage next : UpgradeStage) (call : Call) → IsUpgradableOn shape block old →
    UpgradeCall block stage call next → StageWrites block old stage disk → IsAfterFault call disk after → KeepsNumber shape old after
fault-keeps shape block old disk after stage next call on FlushLog same fault = Unwritten (flush-undone Log disk after fault ∙ same)
fault-keeps shape block old disk after stage next call on WriteSuperblock is fault =
    Past block on (past shape block old after on (write-writing block old disk after is (is_write-fault disk after 0 (widened block) fault)))
fault-keeps shape block old disk after stage next call on FlushSuperblock is fault =
    subst (KeepsNumber shape old) (sym (flush-undone Log disk after fault)) (Past block on (past shape block old disk on is))

-- at each moment nothing is written, or each image opens as before
pub upgrade-moment-keeps : (shape : Shape) (old disk : Disk) → IsUpgradeMoment shape old disk → KeepsNumber shape old disk
upgrade-moment-keeps shape old disk (Unread same) = Unwritten same
upgrade-moment-keeps shape old disk (At block stage on reached) = at-keeps shape block old stage disk on (reached-writes shape block old stage disk on reached)
upgrade-moment-keeps shape old disk (Fault block on failed) =
    fault-keeps shape block old failed.disk disk failed.stage failed.next failed.call on failed.due (reached-writes shape block old failed.stage failed.disk on failed.reached) failed.fault
