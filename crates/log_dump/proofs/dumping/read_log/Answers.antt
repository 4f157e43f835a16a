use Rattle.std.proofs.Common.{length, ap, ◌∙◌, inr}
use Rattle.std.specs.Prelude.{None, Some}
use Rattle.std.proofs.lemmas.Result.{err_from_is_err_and}
use Rattle.journal_model.specs.Disk.{Shape, reading}
use Rattle.log_model.specs.Opening.{super_of}
use Rattle.log_model.specs.Superblock.{Super, super_in}
use Rattle.log_scan.specs.Finding.{every_block}
use Rattle.log_scan.proofs.Listed.{refused-listed}
use Rattle.log_dump.proofs.Dumps.{accepted-for, tested-for}
use Rattle.log_dump.proofs.dumping.read_log.Goals as goal

pub returns-in_err-fields-clause-faults : goal.returns-in_err-fields-clause-faults
returns-in_err-fields-clause-faults g c =
    let shape : Shape = (g.D.Device.state c.args.device.now).shape in
    let fields : Super = super_of (reading (g.D.Device.state c.args.device.now).disk) in
    let p = err_from_is_err_and c.from_residual-in_err-fields.result c.from_residual-in_err-fields.ensures.1 in
    rw (p.1, p.2)
    (inr (inr (
      refused-listed (record { block_size = length c.bytes.result.now; log_blocks = c.blocks-log_blocks.result; home_blocks = every_block fields }) c.bytes.result.now c.in_err-fields.field-0.0 (c.in_err-fields.ensures.tests (every_block fields)),
      c.in_ok-read.ensures.faults,
      λ h. tested-for fields shape.block_size shape.log_blocks (length c.bytes.result.now) c.blocks-log_blocks.result
          c.bytes.result.now _ (Some c.in_err-fields.field-0.0)
          (ap length c.bytes.ensures ∙ c.read.ensures.size ∙ c.new-superblock.ensures ∙ c.block_size-2.ensures.size) c.blocks-log_blocks.ensures
          (c.bytes.ensures ∙ c.in_ok-read.ensures.bytes h) (c.in_err-fields.ensures.tests (every_block fields)),
    )))

pub returns-clause-read : goal.returns-clause-read
returns-clause-read g c = λ h.
    let shape : Shape = (g.D.Device.state c.args.device.now).shape in
    let fields : Super = super_of (reading (g.D.Device.state c.args.device.now).disk) in record {
      accepted =
          tested-for fields shape.block_size shape.log_blocks (length c.bytes.result.now) c.blocks-log_blocks.result
          c.bytes.result.now _ None
          (ap length c.bytes.ensures ∙ c.read.ensures.size ∙ c.new-superblock.ensures ∙ c.block_size-2.ensures.size) c.blocks-log_blocks.ensures
          (c.bytes.ensures ∙ c.in_ok-read.ensures.bytes h) (c.in_ok-fields.ensures.tests (every_block fields));
      same = c.new.ensures ∙ c.in_ok-fields.ensures.fields ∙ ap super_in (c.bytes.ensures ∙ c.in_ok-read.ensures.bytes h);
    }

pub returns-clause-accepted : goal.returns-clause-accepted
returns-clause-accepted g c =
    let shape : Shape = (g.D.Device.state c.args.device.now).shape in
    accepted-for (length c.bytes.result.now) shape.block_size c.blocks-log_blocks.result shape.log_blocks
    c.in_ok-fields.fields c.new.result
    (ap length c.bytes.ensures ∙ c.read.ensures.size ∙ c.new-superblock.ensures ∙ c.block_size-2.ensures.size) c.blocks-log_blocks.ensures c.new.ensures c.in_ok-fields.ensures.accepted
