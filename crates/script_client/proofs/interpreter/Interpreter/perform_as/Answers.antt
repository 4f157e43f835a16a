use Rattle.std.proofs.Common.{inl, inr, refl, subst}
use Rattle.std.proofs.lemmas.Bool.{false≢true}
use Rattle.script_client.specs.declared.outcome.OperationOutcome.{OperationOutcome}
use Rattle.script_client.specs.Performed.{HasDone}
use Rattle.script_client.proofs.interpreter.Interpreter.perform_as.Goals as goal

-- the ring had no room
pub returns-then-lacks_room-clause-done : goal.returns-then-lacks_room-clause-done
returns-then-lacks_room-clause-done g c =
    let first = c.perform-outcome in
    rw c.if-makes_room.true (inr (record {
      refused = record { client = first.new.self.client; names = first.new.self.slots };
      none =
          subst (λ (o : OperationOutcome). HasDone g.D.Device.state g.D.Device.honest c.args.operation.now o
          (record { client = c.args.self.now.client; names = c.args.self.now.slots }) (record { client = first.new.self.client; names = first.new.self.slots }))
          (c.if-lacks_room.ensures.0 refl) first.ensures.done;
      again = c.perform_after_round.ensures.done;
    }))

-- it had
pub returns-else-lacks_room-clause-done : goal.returns-else-lacks_room-clause-done
returns-else-lacks_room-clause-done g c = rw c.if-makes_room.true (inl (c.perform-outcome.ensures.done, (λ is. false≢true (c.if-lacks_room.ensures.1 is))))

-- it was not asked for
pub returns-else-makes_room-clause-done : goal.returns-else-makes_room-clause-done
returns-else-makes_room-clause-done g c = rw c.if-makes_room.false c.perform.ensures.done
