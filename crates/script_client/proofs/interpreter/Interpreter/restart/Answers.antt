use Rattle.std.proofs.Common.{◌∙◌, ap, inl, inr, refl, set}
use Rattle.group_commit.specs.Values.{TicketValue}
use Rattle.script_client.specs.declared.outcome.OperationOutcome.TheVariants.{Skipped, Transaction}
use Rattle.script_client.specs.declared.slots.Slot.TheVariants.{Open, Stopped}
use Rattle.script_client.specs.Names.{stands_for}
use Rattle.script_client.specs.Shown.{ticket_of}
use Rattle.script_client.proofs.TakenNames.{else-restarted, may-return, may-stand, put-back, put-there}
use Rattle.script_client.proofs.interpreter.Interpreter.restart.Goals as goal

-- a handle was taken, and what was taken is put back
pub put-requires : goal.put-requires
put-requires g c =
    may-stand c.args.self.now.slots c.take.new.self c.args.name (Open c.in-Open.handle) _ c.in-Open.ensures.slot c.take.ensures.others (λ h this none. cc)

pub put-requires-in-Err : goal.put-requires-in-Err
put-requires-in-Err g c =
    may-stand c.args.self.now.slots c.take.new.self c.args.name (Open c.in-Open.handle) _ c.in-Open.ensures.slot c.take.ensures.others (λ h this none. cc)

pub put-requires-in_default : goal.put-requires-in_default
put-requires-in_default g c =
    may-return c.args.self.now.slots c.take.new.self c.args.name c.take.result c.take.ensures.slot c.take.ensures.others

-- another handle stands there
pub returns-in-Ok-clause-done : goal.returns-in-Ok-clause-done
returns-in-Ok-clause-done g c =
    rw (← c.in-Open.ensures.slot)
    (inl
    (record {
      handle = c.in-Ok.handle;
      outcome_is = ap Transaction c.tid-tid.ensures;
      restarts = c.in-Ok.ensures.ok.0;
      next = c.in-Ok.ensures.ok.1;
      names = put-there c.args.self.now.slots c.take.new.self c.put.new.self c.args.name (Open c.in-Ok.handle) c.take.ensures.others c.put.ensures;
    }))

-- or the ticket does
pub returns-in-Err-clause-done : goal.returns-in-Err-clause-done
returns-in-Err-clause-done g c =
    rw (← c.in-Open.ensures.slot)
    (inr (
      c.in-Err.e,
      refl,
      record {
        why = c.in-Err.ensures.err.1;
        names =
            put-there c.args.self.now.slots c.take.new.self c.put-in-Err.new.self c.args.name (Stopped (ticket_of c.in-Open.handle)) c.take.ensures.others
            (c.put-in-Err.ensures ∙ ap (λ (t : TicketValue). set c.take.new.self c.args.name (Stopped t)) c.in-Err.ensures.err.0);
      },
    ))

-- no handle is open there
pub returns-in_default : goal.returns-in_default
returns-in_default g c = record {
  rest = refl;
  done =
      else-restarted g.D.Device.state g.D.Device.honest Skipped (record { client = c.args.self.now.client; names = c.args.self.now.slots })
      (record { client = c.args.self.now.client; names = c.put-in_default.new.self })
      (refl, refl, put-back c.args.self.now.slots c.take.new.self c.put-in_default.new.self c.args.name c.take.result c.take.ensures.slot c.take.ensures.others c.put-in_default.ensures)
      c.args.name c.args.credits (stands_for c.args.self.now.slots c.args.name) (λ h is. c.in_default.not-Open h (c.take.ensures.slot ∙ is));
}
