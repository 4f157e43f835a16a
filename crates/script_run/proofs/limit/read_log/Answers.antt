use Rattle.std.proofs.Common.{◌∙◌, ap, length}
use Rattle.journal_model.specs.Disk.{Shape, reading}
use Rattle.script_run.proofs.Limits.{read-log}
use Rattle.script_run.proofs.limit.read_log.Goals as goal

-- the superblock is accepted
pub returns-clause-read : goal.returns-clause-read
returns-clause-read g c = λ honest.
    let old = g.D.Device.state c.args.device.now in
    read-log old.shape (reading old.disk) (length c.bytes.result.now) c.blocks-2.result c.bytes.result.now c.in_ok-fields.fields c.new.result
    (ap length c.bytes.ensures ∙ c.in_ok-superblock.ensures.size) (c.blocks-2.ensures ∙ ap (λ (s : Shape). s.log_blocks) c.read_block.ensures.device.stays.shape)
    (c.bytes.ensures ∙ c.in_ok-superblock.ensures.bytes honest) (c.in_ok-fields.ensures.tests old.shape.home_blocks) c.in_ok-fields.ensures.fields c.new.ensures
