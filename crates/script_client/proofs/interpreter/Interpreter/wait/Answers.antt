use Rattle.std.proofs.Common.{◌∙◌, refl}
use Rattle.script_client.specs.declared.outcome.OperationOutcome.TheVariants.{Skipped}
use Rattle.script_client.specs.declared.slots.Slot.TheVariants.{Stopped, Waited}
use Rattle.script_client.specs.Names.{stands_for}
use Rattle.script_client.proofs.TakenNames.{else-waited, may-return, may-stand, put-back, put-there}
use Rattle.script_client.proofs.interpreter.Interpreter.wait.Goals as goal

-- a ticket was taken, or a receipt, or what was taken is put back
pub put-requires : goal.put-requires
put-requires g c =
    may-stand c.args.self.now.slots c.wait_for-outcome.new.self.slots c.args.name (Stopped c.in-Stopped.ticket) c.wait_for-outcome.result.1 c.in-Stopped.ensures.slot
    (c.wait_for-outcome.ensures.slots ∙ c.take.ensures.others) (λ h this none. cc)

pub put-requires-in-Waited : goal.put-requires-in-Waited
put-requires-in-Waited g c =
    may-stand c.args.self.now.slots c.wait_again-outcome.new.self.slots c.args.name (Waited c.in-Waited.receipt) (Waited c.in-Waited.receipt) c.in-Waited.ensures.slot
    (c.wait_again-outcome.ensures.slots ∙ c.take.ensures.others) (λ h this none. cc)

pub put-requires-in_default : goal.put-requires-in_default
put-requires-in_default g c =
    may-return c.args.self.now.slots c.take.new.self c.args.name c.take.result c.take.ensures.slot c.take.ensures.others

-- a ticket stood there
pub returns-in-Stopped-clause-done : goal.returns-in-Stopped-clause-done
returns-in-Stopped-clause-done g c =
    rw (← c.in-Stopped.ensures.slot) (
      c.wait_for-outcome.result.1,
      c.wait_for-outcome.ensures.done,
      put-there c.args.self.now.slots c.wait_for-outcome.new.self.slots c.put.new.self c.args.name c.wait_for-outcome.result.1
          (c.wait_for-outcome.ensures.slots ∙ c.take.ensures.others) c.put.ensures,
    )

-- a receipt did
pub returns-in-Waited-clause-done : goal.returns-in-Waited-clause-done
returns-in-Waited-clause-done g c =
    rw (← c.in-Waited.ensures.slot) (
      c.wait_again-outcome.ensures.done,
      put-there c.args.self.now.slots c.wait_again-outcome.new.self.slots c.put-in-Waited.new.self c.args.name (Waited c.in-Waited.receipt)
          (c.wait_again-outcome.ensures.slots ∙ c.take.ensures.others) c.put-in-Waited.ensures,
    )

-- neither did
pub returns-in_default-clause-done : goal.returns-in_default-clause-done
returns-in_default-clause-done g c =
    else-waited g.D.Device.state g.D.Device.honest Skipped (record { client = c.args.self.now.client; names = c.args.self.now.slots })
    (record { client = c.args.self.now.client; names = c.put-in_default.new.self })
    (refl, refl, put-back c.args.self.now.slots c.take.new.self c.put-in_default.new.self c.args.name c.take.result c.take.ensures.slot c.take.ensures.others c.put-in_default.ensures)
    c.args.name (stands_for c.args.self.now.slots c.args.name) (λ t is. c.in_default.not-Stopped t (c.take.ensures.slot ∙ is))
    (λ t is. c.in_default.not-Waited t (c.take.ensures.slot ∙ is))
