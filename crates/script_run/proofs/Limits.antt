-- Lemmas: what an opening of a log finds.
use Rattle.std.proofs.Common.{◌∙◌, ap, ap₂, subst, sym, arith}
use Rattle.std.specs.Prelude.{◌≡◌, ◌≢◌, ◌==◌, ℕ, ◌+◌, List, length, None, true, false}
use Rattle.std.proofs.lemmas.Bool.Decides.{nat_tests}
use Rattle.log_model.specs.declared.log.Text.{Text}
use Rattle.journal_model.specs.declared.number.Area.TheVariants.{Log}
use Rattle.journal_model.specs.Disk.{Image, Shape}
use Rattle.log_model.specs.Opening.{HasChain, super_of}
use Rattle.log_model.specs.Superblock.{Super, super_in, super_refusal}
use Rattle.log_scan.specs.Scanning.{AreTextsOf, IsScanned}
use Rattle.recovery.specs.Opening.{Tells}
use Rattle.recovery.specs.Opening.Tells.{OfClean, OfChain}
use Rattle.script_run.specs.Limit.{IsReadLog}

-- a superblock that was read and accepted for the device's measures
pub read-log : (shape : Shape) (image : Image) (size log_blocks : ℕ) (block : List ℕ) (fields log : Super) → size ≡ shape.block_size →
    log_blocks ≡ shape.log_blocks → block ≡ image Log 0 →
    (let s : Shape = record { block_size = size; log_blocks = log_blocks; home_blocks = shape.home_blocks } in super_refusal s block ≡ None) →
    fields ≡ super_in block → log ≡ fields → IsReadLog shape image log
read-log shape image size log_blocks block fields log long many same tested is new = record {
  accepted =
      subst (λ (b : List ℕ). super_refusal shape b ≡ None) same
      (subst (λ (s : Shape). super_refusal s block ≡ None)
      (ap₂ (λ (a b : ℕ). let s : Shape = record { block_size = a; log_blocks = b; home_blocks = shape.home_blocks } in s) long many) tested);
  same = new ∙ is ∙ ap super_in same;
}

pub test-clean : (start : ℕ) → true ≡ (start == 0) → start ≡ 0
test-clean start test = grind (arith, nat_tests)

pub test-started : (start : ℕ) → false ≡ (start == 0) → start ≢ 0
test-started start test = λ clean. grind (arith, nat_tests)

module _ (shape : Shape) (image : Image) (s : Super) (read : IsReadLog shape image s) where
  -- the report on a clean log
  pub tells-clean : s.s_start ≡ 0 → Tells shape image true s.s_sequence 0
  tells-clean clean =
      subst (λ (t : Super). Tells shape image true t.s_sequence 0) (sym read.same)
      (OfClean (record { accepted = read.accepted; clean = ap (λ (t : Super). t.s_start) (sym read.same) ∙ clean }))

  -- the texts of a log are its chain
  chain-of : s.s_start ≢ 0 → (texts : List Text) → AreTextsOf (super_of image) shape.home_blocks image texts → HasChain shape image texts
  chain-of started texts are = record {
    started = record { accepted = read.accepted; started = λ clean. started (ap (λ (t : Super). t.s_start) read.same ∙ clean) };
    chain = are.chain;
    undamaged = λ k damaged. are.undamaged k damaged.damaged;
  }

  -- the report on a log that a scan counted
  pub tells-chain : s.s_start ≢ 0 → (count : ℕ) → IsScanned s shape.home_blocks image count → Tells shape image false (s.s_sequence + count) count
  tells-chain started count scanned =
      let are = subst (λ (t : Super). AreTextsOf t shape.home_blocks image scanned.texts) read.same scanned.are in
      subst (λ (n : ℕ). Tells shape image false (s.s_sequence + n) n) (sym scanned.number)
      (subst (λ (t : Super). Tells shape image false (t.s_sequence + length scanned.texts) (length scanned.texts)) (sym read.same)
      (OfChain scanned.texts (chain-of started scanned.texts are)))
