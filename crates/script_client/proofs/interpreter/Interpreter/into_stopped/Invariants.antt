use Rattle.std.proofs.Common.{◌≡◌, vec_len}
use Rattle.script_client.specs.Ended.{StopsHandles}
use Rattle.script_client.specs.Shown.{IsLeftOf}
use Rattle.script_client.proofs.interpreter.Interpreter.into_stopped.Given as goal

-- handles were stopped; operations, device, sealed and running transactions, and what was acknowledged are the same
abbrev pub invariant-loop-slot : goal.invariant-loop-slot
invariant-loop-slot g l = record {
  operations : l.client.operations ≡ l.fn.self.client.operations;
  left : IsLeftOf l.fn.self.client l.client.journal.device l.client.journal.journal.front.sealed l.client.shown;
  stops : StopsHandles g.D.Device.state l.fn.self.client.journal l.client.journal;
  running : l.client.journal.journal.front.running ≡ l.fn.self.client.journal.journal.front.running;
}

-- the slots that remain
abbrev pub decreases-loop-slot : goal.decreases-loop-slot
decreases-loop-slot g l = vec_len l.slots
