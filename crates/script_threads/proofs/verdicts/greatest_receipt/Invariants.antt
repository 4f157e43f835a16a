use Rattle.std.specs.Prelude.{All, IfSome, take}
use Rattle.script_threads.specs.Verdicts.{HasReceiptUpTo, IsOfClient}
use Rattle.script_threads.proofs.verdicts.greatest_receipt.Given as goal

-- It is the greatest so far.
abbrev pub invariant-loop-client : goal.invariant-loop-client
invariant-loop-client l = record {
  all : All (λ c. All (λ h. HasReceiptUpTo l.greatest h.receipt) c.items) (take l.client-index l.clients);
  some : IfSome l.greatest (IsOfClient l.clients);
}
