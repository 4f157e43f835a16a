use Rattle.std.proofs.Common.{refl}
use Rattle.journal_model.specs.declared.number.Area.TheVariants.{Home}
use Rattle.journal_model.specs.Disk.{Disk, flushed}
use Rattle.block_device.specs.State.{DeviceState}
use Rattle.recovery.specs.Making.{IsMakingMoment}
use Rattle.jbench_logs.specs.Done.{IsMakeMoment}
use Rattle.jbench_logs.specs.Done.IsMakeMoment.{OfHome, OfLog}
use Rattle.jbench_logs.proofs.ReadsAfter.{each-flushed, each-of-log, each-read}
use Rattle.jbench_logs.proofs.logs.make_log.Goals as goal

-- no log was made
pub returns-in_err-format-clause-moments : goal.returns-in_err-format-clause-moments
returns-in_err-format-clause-moments g c =
    let m = c.args.measures.now in
    let s : DeviceState = g.D.Device.state c.args.device.now in
    each-of-log (IsMakingMoment s.shape m.log_blocks m.uuid m.wide s.disk) (IsMakeMoment s.shape m.log_blocks m.uuid m.wide s.disk) s (g.D.Device.state c.format.new.device)
    (λ disk is. OfLog is) c.format.ensures.moments

-- a log was made, and home is durable
pub returns-in-Ok-clause-moments : goal.returns-in-Ok-clause-moments
returns-in-Ok-clause-moments g c =
    let m = c.args.measures.now in
    let s : DeviceState = g.D.Device.state c.args.device.now in
    let made : DeviceState = g.D.Device.state c.format.new.device in
    let P : Disk → Type 0 = IsMakeMoment s.shape m.log_blocks m.uuid m.wide s.disk in
    each-flushed P s made (g.D.Device.state c.flush.new.self) (flushed made.disk Home)
    (each-of-log (IsMakingMoment s.shape m.log_blocks m.uuid m.wide s.disk) P s made (λ disk is. OfLog is) c.format.ensures.moments)
    c.in-Ok.ensures.ok (OfHome made.disk c.in_ok-format.ensures.ok refl)

-- a log was made, and home may not be durable
pub returns-in-Err-clause-moments : goal.returns-in-Err-clause-moments
returns-in-Err-clause-moments g c =
    let m = c.args.measures.now in
    let s : DeviceState = g.D.Device.state c.args.device.now in
    let made : DeviceState = g.D.Device.state c.format.new.device in
    let P : Disk → Type 0 = IsMakeMoment s.shape m.log_blocks m.uuid m.wide s.disk in
    each-read P s made (g.D.Device.state c.flush.new.self)
    (each-of-log (IsMakingMoment s.shape m.log_blocks m.uuid m.wide s.disk) P s made (λ disk is. OfLog is) c.format.ensures.moments) c.in-Err.ensures.err
