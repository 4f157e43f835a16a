use Rattle.std.proofs.Common.{ap, ◌∙◌, inr}
use Rattle.std.specs.Prelude.{length, Some}
use Rattle.journal_model.specs.Disk.{Shape, reading}
use Rattle.log_model.specs.Opening.{super_of}
use Rattle.log_model.specs.Superblock.{Super}
use Rattle.log_scan.specs.Finding.{every_block}
use Rattle.log_scan.proofs.Listed.{refused-listed}
use Rattle.log_dump.proofs.Dumps.{tested-for}
use Rattle.log_dump.proofs.dumping.refusal_of_large.Goals as goal

pub returns-clause-refused : goal.returns-clause-refused
returns-clause-refused g c =
    let shape : Shape = (g.D.Device.state c.args.device.now).shape in
    let fields : Super = super_of (reading (g.D.Device.state c.args.device.now).disk) in
    inr (inr (
      refused-listed (record { block_size = length c.bytes.result.now; log_blocks = c.blocks-2.result; home_blocks = every_block fields }) c.bytes.result.now c.in-Err-read.e (c.in-Err-read.ensures.tests (every_block fields)),
      c.in-Ok.ensures.faults,
      λ honest. tested-for fields shape.block_size shape.log_blocks (length c.bytes.result.now) c.blocks-2.result c.bytes.result.now _ (Some c.in-Err-read.e)
          (ap length c.bytes.ensures ∙ c.in-Ok.ensures.size) (c.blocks-2.ensures ∙ ap (λ (s : Shape). s.log_blocks) c.read_block.ensures.device.stays.shape)
          (c.bytes.ensures ∙ c.in-Ok.ensures.bytes honest) (c.in-Err-read.ensures.tests (every_block fields)),
    ))
