use Rattle.std.proofs.Common.{ap, ◌∙◌, inr}
use Rattle.std.specs.Prelude.{length, Some}
use Rattle.journal_model.specs.Disk.{Shape}
use Rattle.log_scan.proofs.Listed.{refused-listed}
use Rattle.recovery.proofs.Reading.{tested-for}
use Rattle.recovery.proofs.examine.refusal_of_large.Goals as goal

pub returns-clause-refused : goal.returns-clause-refused
returns-clause-refused g c =
    let shape : Shape = (g.D.Device.state c.args.device.now).shape in
    let refused =
    tested-for shape (length c.bytes.result.now) c.blocks-2.result c.bytes.result.now (Some c.in-Err-read.e)
    (ap length c.bytes.ensures ∙ c.in-Ok.ensures.size)
    (c.blocks-2.ensures ∙ ap (λ (s : Shape). s.log_blocks) c.read_large.ensures.device.stays.shape) (c.in-Err-read.ensures.tests shape.home_blocks) in
    inr (inr (
      refused-listed shape c.bytes.result.now c.in-Err-read.e refused,
      c.in-Ok.ensures.faults,
      λ honest. rw (c.bytes.ensures ∙ c.in-Ok.ensures.bytes honest) at refused,
    ))
