use Rattle.std.specs.Prelude.{◌≡◌, length}
use Rattle.script_run.proofs.Disks.{empty-log}
use Rattle.script_run.proofs.disk.empty_disk.Goals as goal

pub returns : goal.returns
returns c =
    let long : length c.args.measures.now.uuid ≡ 16 = search in
    empty-log c.args.measures.now c.new-device.result c.format.new.device c.crash.result
    (rw c.from-log_blocks.ensures at c.new-device.ensures) c.format.ensures.shape
    c.in_ok-format.ensures.ok long c.crash.ensures.image c.crash.ensures.shape
