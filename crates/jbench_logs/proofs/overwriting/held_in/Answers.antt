use Rattle.std.proofs.Common.{◌+◌, ℕ, ap}
use Rattle.jbench_logs.proofs.Holding.{held-ahead, held-whole, undamaged}
use Rattle.jbench_logs.proofs.overwriting.held_in.Goals as goal

-- a number is ahead
pub returns-in-Some-clause-held : goal.returns-in-Some-clause-held
returns-in-Some-clause-held g c = λ honest.
    held-ahead c.args.log.now (g.D.Device.state c.args.device.now) (g.D.Device.state c.end_of.new.device) c.in_ok-end.end
    (c.first_number.result + c.in_ok-end.end.transactions) c.in-Some.place c.in_ok-end.ensures.clean
    (c.in_ok-end.ensures.ends (c.lowest_ahead.ensures.device.honest honest)) (undamaged c.in_ok-end.end.damaged c.is_some.result c.is_some.ensures c.if-is_some.false)
    c.end_of.ensures.device.stays (ap (λ (n : ℕ). n + c.in_ok-end.end.transactions) c.first_number.ensures.value)
    ((rw c.in-Some.is at c.in_ok-place.ensures.ahead) honest)

-- none is
pub returns-in-None-clause-held : goal.returns-in-None-clause-held
returns-in-None-clause-held g c = λ honest.
    held-whole c.args.log.now (g.D.Device.state c.args.device.now) (g.D.Device.state c.end_of.new.device) c.in_ok-end.end
    (c.first_number.result + c.in_ok-end.end.transactions) c.held_whole.result c.in_ok-end.ensures.clean
    (c.in_ok-end.ensures.ends (c.lowest_ahead.ensures.device.honest honest)) (undamaged c.in_ok-end.end.damaged c.is_some.result c.is_some.ensures c.if-is_some.false)
    c.end_of.ensures.device.stays (ap (λ (n : ℕ). n + c.in_ok-end.end.transactions) c.first_number.ensures.value)
    ((rw c.in-None.is at c.in_ok-place.ensures.ahead) honest) c.held_whole.ensures
