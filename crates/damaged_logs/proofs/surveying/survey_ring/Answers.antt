use Rattle.std.proofs.Common.{ℕ, ◌+◌, ap}
use Rattle.damaged_logs.proofs.Surveys.{surveyed-limit, surveyed-ring}
use Rattle.damaged_logs.proofs.surveying.survey_ring.Goals as goal
use Rattle.damaged_logs.proofs.surveying.survey_ring.Goals.{then-is_some+in_ok-greatest, else-is_some}

-- the ring is read again if a block is ahead
pub returns-clause-surveyed : goal.returns-clause-surveyed
returns-clause-surveyed g c =
    elim c.if-is_some.branch [
      | then-is_some+in_ok-greatest w ↦
          rw (w.device-is, w.greatest-is)
          (λ honest.
          let looked = w.greatest_in_ring.ensures.device.honest honest in
          surveyed-ring c.args.log.now (g.D.Device.state c.args.device.now) (g.D.Device.state c.chain_end.new.device) (g.D.Device.state c.lowest_ahead.new.device)
          c.in_ok-end.end c.in_ok-ahead.ahead (c.first_number.result + c.in_ok-end.end.transactions)
          (c.in_ok-end.ensures.ends (c.lowest_ahead.ensures.device.honest looked)) c.chain_end.ensures.device.stays c.lowest_ahead.ensures.device.stays
          (ap (λ (n : ℕ). n + c.in_ok-end.end.transactions) c.first_number.ensures.value) (c.in_ok-ahead.ensures.ahead looked) w.in_ok-greatest.greatest
          (w.in_ok-greatest.ensures.greatest honest) c.refusal.result c.refusal.ensures)
      | else-is_some w ↦
          rw (w.device-is, w.greatest-is)
          (λ honest.
          surveyed-limit c.args.log.now (g.D.Device.state c.args.device.now) (g.D.Device.state c.chain_end.new.device) (g.D.Device.state c.lowest_ahead.new.device)
          c.in_ok-end.end c.in_ok-ahead.ahead (c.first_number.result + c.in_ok-end.end.transactions)
          (c.in_ok-end.ensures.ends (c.lowest_ahead.ensures.device.honest honest)) c.chain_end.ensures.device.stays c.lowest_ahead.ensures.device.stays
          (ap (λ (n : ℕ). n + c.in_ok-end.end.transactions) c.first_number.ensures.value) (c.in_ok-ahead.ensures.ahead honest) c.is_some.result c.is_some.ensures
          w.if-is_some.false c.refusal.result c.refusal.ensures)
    ]
