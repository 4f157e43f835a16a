use Rattle.std.proofs.Common.{◌≡◌, ◌∙◌, arith, length, refl}
use Rattle.script_client.specs.Outcomes.{IsLastApplied}
use Rattle.script_client.specs.Performed.{HasDoneAs}
use Rattle.script_client.proofs.InOrder.{all-applied, none-performed, one-more-performed, refused-applied, unwritten-applied}
use Rattle.script_client.proofs.performing.apply_all.Goals as goal

-- no operation was performed yet
pub loop-operation-init : goal.loop-operation-init
loop-operation-init g c = record {
  operations = refl;
  performs = none-performed (HasDoneAs c.args.after.makes_room g.D.Device.state g.D.Device.honest) (IsLastApplied c.args.after) c.args.operations.now (record { client = c.args.interpreter.now.client; names = c.args.interpreter.now.slots })
      (g.W.Write.contents c.args.out.now);
}

-- a line could not be written
pub returns-in-Err-clause-applies : goal.returns-in-Err-clause-applies
returns-in-Err-clause-applies g c =
    unwritten-applied (HasDoneAs c.args.after.makes_room g.D.Device.state g.D.Device.honest) (IsLastApplied c.args.after) c.args.operations.now c.loop-operation.operation-index c.operation-item.result c.perform_as-outcome.result
    (record { client = c.args.interpreter.now.client; names = c.args.interpreter.now.slots }) (record { client = c.loop-operation.interpreter.client; names = c.loop-operation.interpreter.slots })
    (record { client = c.perform_as-outcome.new.self.client; names = c.perform_as-outcome.new.self.slots }) (g.W.Write.contents c.args.out.now) (g.W.Write.contents c.loop-operation.out)
    (g.W.Write.contents c.write_line.new.out) c.loop-operation-test.true c.operation-item.is c.loop-operation.invariant.performs c.perform_as-outcome.ensures.done

-- it was refused, and ends the list
pub returns-in-Some-clause-applies : goal.returns-in-Some-clause-applies
returns-in-Some-clause-applies g c =
    refused-applied (HasDoneAs c.args.after.makes_room g.D.Device.state g.D.Device.honest) (IsLastApplied c.args.after) c.args.operations.now c.loop-operation.operation-index c.operation-item.result c.perform_as-outcome.result
    (record { client = c.args.interpreter.now.client; names = c.args.interpreter.now.slots }) (record { client = c.loop-operation.interpreter.client; names = c.loop-operation.interpreter.slots })
    (record { client = c.perform_as-outcome.new.self.client; names = c.perform_as-outcome.new.self.slots }) (g.W.Write.contents c.args.out.now) (g.W.Write.contents c.loop-operation.out)
    (g.W.Write.contents c.write_line.new.out) c.loop-operation-test.true c.operation-item.is c.loop-operation.invariant.performs c.perform_as-outcome.ensures.done
    c.in-Some.e c.in-Some.ensures.some.0 (c.in-Some.e, refl, c.in-Some.ensures.some.1) c.in-Ok.ensures

-- one more was performed, and the list goes on
pub loop-operation-preserved : goal.loop-operation-preserved
loop-operation-preserved g c = record {
  operations = c.perform_as-outcome.ensures.operations ∙ c.loop-operation.invariant.operations;
  performs =
      one-more-performed (HasDoneAs c.args.after.makes_room g.D.Device.state g.D.Device.honest) (IsLastApplied c.args.after) c.args.operations.now c.loop-operation.operation-index c.operation-item.result c.perform_as-outcome.result
      (record { client = c.args.interpreter.now.client; names = c.args.interpreter.now.slots }) (record { client = c.loop-operation.interpreter.client; names = c.loop-operation.interpreter.slots })
      (record { client = c.perform_as-outcome.new.self.client; names = c.perform_as-outcome.new.self.slots }) (g.W.Write.contents c.args.out.now) (g.W.Write.contents c.loop-operation.out)
      (g.W.Write.contents c.write_line.new.out) c.loop-operation-test.true c.operation-item.is c.loop-operation.invariant.performs c.perform_as-outcome.ensures.done c.in-Ok.ensures
      c.in_default.ensures.none;
}

-- all were performed
pub returns-clause-applies : goal.returns-clause-applies
returns-clause-applies g c =
    let end : c.loop-operation.operation-index ≡ length c.args.operations.now = omega (arith, c.loop-operation-test.false, c.loop-operation.auto.operation-index-end) in
    all-applied (HasDoneAs c.args.after.makes_room g.D.Device.state g.D.Device.honest) (IsLastApplied c.args.after) c.args.operations.now
    (record { client = c.args.interpreter.now.client; names = c.args.interpreter.now.slots }) (record { client = c.loop-operation.interpreter.client; names = c.loop-operation.interpreter.slots })
    (g.W.Write.contents c.args.out.now) (g.W.Write.contents c.loop-operation.out) c.loop-operation.operation-index end c.loop-operation.invariant.performs
