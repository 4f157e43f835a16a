use Rattle.std.proofs.Common.{◌≡◌}
use Rattle.script_client.specs.Performed.{TakesCheckTurn}
use Rattle.script_client.specs.Shown.{IsSameButJournal}
use Rattle.script_client.specs.Steps.{Steps}
use Rattle.script_client.proofs.interpreter.Interpreter.check.Given as goal

-- all turns so far had something to do, and only the journal changed
abbrev pub invariant-loop : goal.invariant-loop
invariant-loop g l = record {
  turns : Steps (λ i. TakesCheckTurn g.D.Device.state) l.counter l.fn.self.client.journal l.self.client.journal;
  rest : IsSameButJournal l.fn.self.client l.self.client;
  slots : l.self.slots ≡ l.fn.self.slots;
}
