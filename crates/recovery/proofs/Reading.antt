-- Block 0 of a log, as it was read, and why it is refused.
use Rattle.std.proofs.Common.{◌∙◌, ap₂, subst}
use Rattle.std.specs.Prelude.{◌≡◌, ℕ, List, length, Option, None}
use Rattle.journal_model.specs.declared.refusal.JournalError.{JournalError}
use Rattle.journal_model.specs.Disk.{Shape}
use Rattle.log_model.specs.Superblock.{Super, super_in, super_refusal}
use Rattle.log_format.specs.Accepted.{IsAccepted}
use Rattle.recovery.specs.Opening.{IsWellRead}

-- a device's shape, by its parts
shape-parts : (shape : Shape) (size log_blocks : ℕ) → size ≡ shape.block_size → log_blocks ≡ shape.log_blocks →
    let s : Shape = record { block_size = size; log_blocks = log_blocks; home_blocks = shape.home_blocks } in s ≡ shape
shape-parts shape size log_blocks same also =
    ap₂ (λ (a b : ℕ). let s : Shape = record { block_size = a; log_blocks = b; home_blocks = shape.home_blocks } in s) same also

-- the tests of a block hold for the device's shape
pub tested-for : (shape : Shape) (size log_blocks : ℕ) (block : List ℕ) (answer : Option JournalError) → size ≡ shape.block_size → log_blocks ≡ shape.log_blocks →
    (let s : Shape = record { block_size = size; log_blocks = log_blocks; home_blocks = shape.home_blocks } in super_refusal s block ≡ answer) →
    super_refusal shape block ≡ answer
tested-for shape size log_blocks block answer same also tested =
    subst (λ (s : Shape). super_refusal s block ≡ answer) (shape-parts shape size log_blocks same also) tested

-- an accepted superblock is accepted for the device's shape
pub accepted-for : (shape : Shape) (size log_blocks : ℕ) (fields : Super) → size ≡ shape.block_size → log_blocks ≡ shape.log_blocks →
    IsAccepted size log_blocks fields → IsAccepted shape.block_size shape.log_blocks fields
accepted-for shape size log_blocks fields same also accepted =
    subst (λ (b : ℕ). IsAccepted shape.block_size b fields) also (subst (λ (a : ℕ). IsAccepted a log_blocks fields) same accepted)

-- a superblock that passes its tests is well read
pub well-read : (shape : Shape) (size log_blocks : ℕ) (block : List ℕ) (fields : Super) → length block ≡ size → size ≡ shape.block_size →
    log_blocks ≡ shape.log_blocks →
    (let s : Shape = record { block_size = size; log_blocks = log_blocks; home_blocks = shape.home_blocks } in super_refusal s block ≡ None) →
    fields ≡ super_in block → IsAccepted size log_blocks fields → IsWellRead shape block fields
well-read shape size log_blocks block fields long same also tested is accepted = record {
  size = long ∙ same;
  tested = tested-for shape size log_blocks block None same also tested;
  fields_are = is;
  accepted = accepted-for shape size log_blocks fields same also accepted;
}
