use Rattle.std.proofs.Common.{◌∙◌, ap, arith, length, drop}
use Rattle.journal_model.proofs.Buffers.{as-long, whole-buffer}
use Rattle.block_device.proofs.reading.read_block.Goals as goal

-- the buffer is a block
pub returns-clause-size : goal.returns-clause-size
returns-clause-size g c =
    let new = c.read.auto.into in
    let old = c.deref_mut.ensures.len in
    let made = c.in_ok-bytes.ensures.len in
    let told = c.block_size.ensures.size in
    ap length c.in_ok-new.ensures
    ∙ as-long c.in_ok-bytes.bytes.len (g.D.Device.state c.args.device.now).shape.block_size c.read.new.into
    (drop (length c.read.new.into) c.in_ok-bytes.bytes.items) (omega arith) (omega arith)

-- the block is what was read
pub returns-clause-bytes : goal.returns-clause-bytes
returns-clause-bytes g c = λ honest.
    let new = c.read.auto.into in
    let old = c.deref_mut.ensures.len in
    c.in_ok-new.ensures
    ∙ whole-buffer c.in_ok-bytes.bytes.len c.read.new.into (drop (length c.read.new.into) c.in_ok-bytes.bytes.items) (omega arith)
    ∙ c.in_ok-read.ensures.bytes honest
