use Rattle.std.proofs.Common.{◌∙◌, refl}
use Rattle.std.proofs.lemmas.Bool.{false≢true}
use Rattle.script_client.specs.Outcomes.{IsLast}
use Rattle.script_client.specs.Performed.{HasDone}
use Rattle.script_client.proofs.InOrder.{last-performed, none-performed, one-more-performed}
use Rattle.script_client.proofs.performing.perform_all.Goals as goal

-- no operation was performed yet
pub loop-operation-init : goal.loop-operation-init
loop-operation-init g c = record {
  operations = refl;
  performs = none-performed (HasDone g.D.Device.state g.D.Device.honest) (IsLast c.args.after) c.args.operations.now (record { client = c.args.interpreter.now.client; names = c.args.interpreter.now.slots })
      (g.W.Write.contents c.args.out.now);
}

-- one more was, and the list goes on
pub loop-operation-preserved : goal.loop-operation-preserved
loop-operation-preserved g c = record {
  operations = c.perform-outcome.ensures.operations ∙ c.loop-operation.invariant.operations;
  performs =
      one-more-performed (HasDone g.D.Device.state g.D.Device.honest) (IsLast c.args.after) c.args.operations.now c.loop-operation.operation-index c.operation-item.result c.perform-outcome.result
      (record { client = c.args.interpreter.now.client; names = c.args.interpreter.now.slots }) (record { client = c.loop-operation.interpreter.client; names = c.loop-operation.interpreter.slots })
      (record { client = c.perform-outcome.new.self.client; names = c.perform-outcome.new.self.slots }) (g.W.Write.contents c.args.out.now) (g.W.Write.contents c.loop-operation.out)
      (g.W.Write.contents c.write_line.new.out) c.loop-operation-test.true c.operation-item.is c.loop-operation.invariant.performs c.perform-outcome.ensures.done c.in_ok-write_line.ensures
      (λ last. false≢true (c.if-is_last.ensures.1 last));
}

-- the list ends there
pub returns-then-is_last-clause-all : goal.returns-then-is_last-clause-all
returns-then-is_last-clause-all g c =
    last-performed (HasDone g.D.Device.state g.D.Device.honest) (IsLast c.args.after) c.args.operations.now c.loop-operation.operation-index c.operation-item.result c.perform-outcome.result
    (record { client = c.args.interpreter.now.client; names = c.args.interpreter.now.slots }) (record { client = c.loop-operation.interpreter.client; names = c.loop-operation.interpreter.slots })
    (record { client = c.perform-outcome.new.self.client; names = c.perform-outcome.new.self.slots }) (g.W.Write.contents c.args.out.now) (g.W.Write.contents c.loop-operation.out)
    (g.W.Write.contents c.write_line.new.out) c.loop-operation-test.true c.operation-item.is c.loop-operation.invariant.performs c.perform-outcome.ensures.done c.in_ok-write_line.ensures
    (c.if-is_last.ensures.0 refl)
