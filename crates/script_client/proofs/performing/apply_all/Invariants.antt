use Rattle.std.proofs.Common.{◌≡◌, take}
use Rattle.script_client.specs.Outcomes.{IsLastApplied}
use Rattle.script_client.specs.Performed.{HasDoneAs}
use Rattle.script_client.proofs.InOrder.{PerformsSoFar}
use Rattle.script_client.proofs.performing.apply_all.Given as goal

-- the operations up to here were performed, and their lines written
abbrev pub invariant-loop-operation : goal.invariant-loop-operation
invariant-loop-operation g l = record {
  operations : l.interpreter.client.operations ≡ l.fn.interpreter.client.operations;
  performs : PerformsSoFar (HasDoneAs l.after.makes_room g.D.Device.state g.D.Device.honest) (IsLastApplied l.after) (take l.operation-index l.operations)
      (record { client = l.fn.interpreter.client; names = l.fn.interpreter.slots }) (record { client = l.interpreter.client; names = l.interpreter.slots })
      (g.W.Write.contents l.fn.out) (g.W.Write.contents l.out);
}
