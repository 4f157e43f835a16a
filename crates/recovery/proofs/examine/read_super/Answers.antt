use Rattle.std.proofs.Common.{◌≡◌, ℕ, List, ap, sym, subst, ◌∙◌, inr}
use Rattle.std.specs.Prelude.{length, Some, None}
use Rattle.std.proofs.lemmas.Result.{err_from_is_err_and}
use Rattle.journal_model.specs.Disk.{Shape}
use Rattle.log_model.specs.Superblock.{super_in, super_refusal}
use Rattle.recovery.specs.Opening.{IsWellRead}
use Rattle.log_scan.proofs.Listed.{refused-listed}
use Rattle.recovery.proofs.Reading.{tested-for, well-read}
use Rattle.recovery.proofs.examine.read_super.Goals as goal

pub returns-in_err-fields-clause-faults : goal.returns-in_err-fields-clause-faults
returns-in_err-fields-clause-faults g c =
    let shape : Shape = (g.D.Device.state c.args.device.now).shape in
    let block : List ℕ = c.bytes.result.now in
    let p = err_from_is_err_and c.from_residual-in_err-fields.result c.from_residual-in_err-fields.ensures.1 in
    let refused = tested-for shape (length block) c.blocks-2.result block (Some c.in_err-fields.field-0.0)
    (ap length c.bytes.ensures ∙ c.read.ensures.size ∙ c.new-block.ensures ∙ c.block_size-2.ensures.size)
    (c.blocks-2.ensures ∙ ap (λ (s : Shape). s.log_blocks) c.read.ensures.device.stays.shape) (c.in_err-fields.ensures.tests shape.home_blocks) in
    rw (p.1, p.2)
    (inr (inr (
      refused-listed shape block c.in_err-fields.field-0.0 refused,
      c.in_ok-read.ensures.faults,
      λ honest. rw (c.bytes.ensures ∙ c.in_ok-read.ensures.bytes honest) at refused,
    )))

pub returns-clause-well : goal.returns-clause-well
returns-clause-well g c =
    let shape : Shape = (g.D.Device.state c.args.device.now).shape in
    let block : List ℕ = c.read.new.self in
    let same : length c.bytes.result.now ≡ shape.block_size =
    ap length c.bytes.ensures ∙ c.read.ensures.size ∙ c.new-block.ensures ∙ c.block_size-2.ensures.size in
    subst (IsWellRead shape block) (sym c.new.ensures)
    (well-read shape (length c.bytes.result.now) c.blocks-2.result block c.in_ok-fields.fields
    (ap length (sym c.bytes.ensures)) same (c.blocks-2.ensures ∙ ap (λ (s : Shape). s.log_blocks) c.read.ensures.device.stays.shape)
    (subst (λ (b : List ℕ). let s : Shape = record { block_size = length c.bytes.result.now; log_blocks = c.blocks-2.result; home_blocks = shape.home_blocks } in super_refusal s b ≡ None) c.bytes.ensures (c.in_ok-fields.ensures.tests shape.home_blocks))
    (c.in_ok-fields.ensures.fields ∙ ap super_in c.bytes.ensures) c.in_ok-fields.ensures.accepted)
