use Rattle.std.proofs.Common.{◌∙◌, ap, ◌+◌, ℕ, arith}
use Rattle.recovery.proofs.Testing.{ahead-refused, number-refused}
use Rattle.recovery.proofs.examine.test_log.Goals as goal

pub returns-in-Some-clause-refused : goal.returns-in-Some-clause-refused
returns-in-Some-clause-refused g c =
    ahead-refused (g.D.Device.honest c.lowest_ahead.new.device) c.args.log.now (g.D.Device.state c.args.device.now) (g.D.Device.state c.count_transactions.new.device)
    (g.D.Device.state c.lowest_ahead.new.device) c.in_ok-transactions.transactions _ c.in-Some.place
    (rw c.in-Some.is at c.in_ok-place.ensures.within).0 (rw c.in-Some.is at c.in_ok-place.ensures.within).1
    (ap (λ (n : ℕ). n + c.in_ok-transactions.transactions) c.first_number.ensures.value) c.count_transactions.ensures.device.stays
    (c.in_ok-place.ensures.faults ∙ c.in_ok-transactions.ensures.faults)
    (λ h. c.in_ok-transactions.ensures.has (c.lowest_ahead.ensures.device.honest h)) (rw c.in-Some.is at c.in_ok-place.ensures.ahead)

pub returns-then-limit-from-clause-refused : goal.returns-then-limit-from-clause-refused
returns-then-limit-from-clause-refused g c =
    number-refused (g.D.Device.honest c.lowest_ahead.new.device) c.args.log.now (g.D.Device.state c.args.device.now) (g.D.Device.state c.count_transactions.new.device)
    (g.D.Device.state c.lowest_ahead.new.device) c.in_ok-transactions.transactions _
    (ap (λ (n : ℕ). n + c.in_ok-transactions.transactions) c.first_number.ensures.value) (let limit = c.from.ensures in omega arith) c.count_transactions.ensures.device.stays
    (c.in_ok-place.ensures.faults ∙ c.in_ok-transactions.ensures.faults)
    (λ h. c.in_ok-transactions.ensures.has (c.lowest_ahead.ensures.device.honest h)) (rw c.in_default.is at c.in_ok-place.ensures.ahead)
