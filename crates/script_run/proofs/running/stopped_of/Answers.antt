use Rattle.std.proofs.Common.{◌∙◌, ap}
use Rattle.block_device.specs.Stop.{inner_of}
use Rattle.script_run.proofs.Ends.{led-after}
use Rattle.script_run.proofs.running.stopped_of.Goals as goal

pub returns-clause-led : goal.returns-clause-led
returns-clause-led g c = λ operations led.
    led-after g.H.HomeFact.holds operations c.args.performed.sealed.items c.args.performed.acknowledged c.args.performed.device c.into_inner.result
    (c.into_inner.ensures ∙ ap inner_of c.into_inner-device.ensures) led

-- it is the disk inside the device
pub returns-clause-behind : goal.returns-clause-behind
returns-clause-behind g c = c.into_inner.ensures ∙ ap inner_of c.into_inner-device.ensures
