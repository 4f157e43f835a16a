use Rattle.log_epochs.specs.OpeningRun.{IsMoment}
use Rattle.jbench_logs.proofs.ReadsAfter.{each-read}
use Rattle.jbench_logs.proofs.logs.recover.Goals as goal

-- after a refusal the device is only read
pub returns-clause-moments : goal.returns-clause-moments
returns-clause-moments g c = λ honest.
    each-read (IsMoment (g.D.Device.state c.args.device).shape (g.D.Device.state c.args.device).disk) (g.D.Device.state c.args.device) _
    (g.D.Device.state c.refuse.new.device) (c.in-Err.ensures.moments (c.refuse.ensures.device.honest honest)) c.refuse.ensures.device.stays
