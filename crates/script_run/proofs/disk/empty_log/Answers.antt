use Rattle.block_device.specs.Memory.{state_of}
use Rattle.script_run.proofs.Disks.{opened-zero, run-anew, run-zero}
use Rattle.script_run.proofs.disk.empty_log.Goals as goal

-- the device is over the disk of the opening
pub returns-in-Ok-clause-anew : goal.returns-in-Ok-clause-anew
returns-in-Ok-clause-anew c =
    run-anew c.args.measures.now c.args.stop c.args.fail c.in_ok-disk.disk c.in-Ok.opened.device c.in-Ok.opened.superblock c.in-Ok.opened.next c.with_stops.result
    c.in_ok-disk.ensures c.in-Ok.ensures.shape (c.in-Ok.ensures.opened tt) (c.in-Ok.ensures.run tt) c.with_stops.ensures.device c.with_stops.ensures.superblock c.with_stops.ensures.next

-- opening an empty log leaves home as it is
pub returns-in-Ok-clause-home : goal.returns-in-Ok-clause-home
returns-in-Ok-clause-home c =
    run-zero c.in-Ok.opened.device c.args.stop c.args.fail c.with_stops.result.device c.with_stops.ensures.device
    (opened-zero c.args.measures.now (state_of c.in_ok-disk.disk) (state_of c.in-Ok.opened.device) c.in-Ok.opened.superblock c.in-Ok.opened.next
    c.in_ok-disk.ensures (c.in-Ok.ensures.opened tt) c.in-Ok.ensures.shape)
