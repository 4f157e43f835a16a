use Rattle.std.proofs.Common.{refl, ap, sym, ◌∙◌}
use Rattle.journal_model.specs.Disk.{Disk}
use Rattle.block_device.specs.State.{DeviceState}
use Rattle.file_device.specs.Ahead.{HasRead}
use Rattle.file_device.specs.Files.{file_state}
use Rattle.file_device.proofs.KeptAhead.{failed-after, files-leave, on-err, on-ok, read-as, read-after, read-leaves, same-read, no-read}
use Rattle.file_device.proofs.device.FileDevice.read_file.Given.{Over}
use Rattle.file_device.proofs.device.FileDevice.read_file.Goals as goal
use Rattle.file_device.proofs.device.FileDevice.read_file.Goals.{then-goes_on+else-hand_out-2, else-goes_on}

-- what was just read ahead is what its area reads
pub returns-then-hand_out-2-clause-bytes : goal.returns-then-hand_out-2-clause-bytes
returns-then-hand_out-2-clause-bytes g c agrees =
    let ahead : HasRead c.hand_out.new.self c.hand_out-then-goes_on.new.self = read-as c.read_ahead.ensures c.hand_out-then-goes_on.ensures.same in
    c.if-hand_out-2.ensures.bytes refl agrees
    ∙ ap (λ (s : DeviceState). (s.disk c.args.area c.args.n).reads) (read-leaves g.C.Contents.contents ahead ∙ ap (file_state g.C.Contents.contents) (c.hand_out.ensures.same ∙ c.note_asked-goes_on.ensures))

-- before the block itself is read, the files were only read
so_far : (g : Over) (c : goal.After-slice_known-3-1 g) → HasRead c.args.self.now c.if-goes_on.self
so_far g c = elim c.if-goes_on.branch [
  | then-goes_on+else-hand_out-2 w ↦ read-as (same-read (c.hand_out.ensures.same ∙ c.note_asked-goes_on.ensures) (read-as w.read_ahead.ensures w.hand_out-then-goes_on.ensures.same)) w.self-is
  | else-goes_on w ↦ same-read (c.hand_out.ensures.same ∙ c.note_asked-goes_on.ensures) (read-as (no-read c.hand_out.new.self) w.self-is)
]

so_far_read : (g : Over) (c : goal.After-read_block-arg-2-1 g) → HasRead c.args.self.now c.if-goes_on.self
so_far_read g c = elim c.if-goes_on.branch [
  | then-goes_on+else-hand_out-2 w ↦ read-as (same-read (c.hand_out.ensures.same ∙ c.note_asked-goes_on.ensures) (read-as w.read_ahead.ensures w.hand_out-then-goes_on.ensures.same)) w.self-is
  | else-goes_on w ↦ same-read (c.hand_out.ensures.same ∙ c.note_asked-goes_on.ensures) (read-as (no-read c.hand_out.new.self) w.self-is)
]

-- the block still reads as in its file
pub read_block-requires-clause-apart : goal.read_block-requires-clause-apart
read_block-requires-clause-apart g c =
    let asked : HasRead c.args.self.now c.if-goes_on.self = so_far_read g c in
    ap (λ (s : DeviceState). s.disk c.args.area c.args.n) (read-leaves g.C.Contents.contents asked) ∙ c.requires.apart
    ∙ sym (ap (λ (disk : Disk). disk c.args.area c.args.n) (files-leave g.C.Contents.contents asked))

pub returns-clause-bytes : goal.returns-clause-bytes
returns-clause-bytes g c =
    let leaves = read-leaves g.C.Contents.contents (so_far g c) in
    on-ok c.read_block.result (λ gives agrees. gives agrees ∙ ap (λ (s : DeviceState). (s.disk c.args.area c.args.n).reads) leaves) c.read_block.ensures.bytes

pub returns-clause-ok : goal.returns-clause-ok
returns-clause-ok g c = on-ok c.read_block.result (read-after (so_far g c)) c.read_block.ensures.ok

pub returns-clause-err : goal.returns-clause-err
returns-clause-err g c = on-err c.read_block.result (failed-after c.args.n (so_far g c)) c.read_block.ensures.err
