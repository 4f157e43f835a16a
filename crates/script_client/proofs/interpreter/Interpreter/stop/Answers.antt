use Rattle.std.proofs.Common.{◌∙◌, ap, refl, set}
use Rattle.group_commit.specs.Values.{TicketValue}
use Rattle.script_client.specs.declared.outcome.OperationOutcome.TheVariants.{Skipped, Transaction}
use Rattle.script_client.specs.declared.slots.Slot.TheVariants.{Open, Stopped}
use Rattle.script_client.specs.Names.{stands_for}
use Rattle.script_client.specs.Shown.{ticket_of}
use Rattle.script_client.proofs.TakenNames.{else-stopped, may-return, may-stand, put-back, put-there}
use Rattle.script_client.proofs.interpreter.Interpreter.stop.Goals as goal

-- a handle was taken, and what was taken is put back
pub put-requires : goal.put-requires
put-requires g c =
    may-stand c.args.self.now.slots c.take.new.self c.args.name (Open c.in-Open.handle) _ c.in-Open.ensures.slot c.take.ensures.others (λ h this none. cc)

pub put-requires-in_default : goal.put-requires-in_default
put-requires-in_default g c =
    may-return c.args.self.now.slots c.take.new.self c.args.name c.take.result c.take.ensures.slot c.take.ensures.others

-- the ticket stands there
pub returns-in-Open-clause-done : goal.returns-in-Open-clause-done
returns-in-Open-clause-done g c =
    rw (← c.in-Open.ensures.slot) (
      ap Transaction (c.tid-tid.ensures ∙ ap (λ (t : TicketValue). t.tid) c.stop-ticket.ensures.ticket),
      c.stop-ticket.ensures.ends,
      put-there c.args.self.now.slots c.take.new.self c.put.new.self c.args.name (Stopped (ticket_of c.in-Open.handle)) c.take.ensures.others
          (c.put.ensures ∙ ap (λ (t : TicketValue). set c.take.new.self c.args.name (Stopped t)) c.stop-ticket.ensures.ticket),
    )

-- no handle is open there
pub returns-in_default : goal.returns-in_default
returns-in_default g c = record {
  rest = refl;
  done =
      else-stopped g.D.Device.state g.D.Device.honest Skipped (record { client = c.args.self.now.client; names = c.args.self.now.slots })
      (record { client = c.args.self.now.client; names = c.put-in_default.new.self })
      (refl, refl, put-back c.args.self.now.slots c.take.new.self c.put-in_default.new.self c.args.name c.take.result c.take.ensures.slot c.take.ensures.others c.put-in_default.ensures)
      c.args.name (stands_for c.args.self.now.slots c.args.name) (λ h is. c.in_default.not-Open h (c.take.ensures.slot ∙ is));
}
