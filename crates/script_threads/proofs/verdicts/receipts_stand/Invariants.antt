use Rattle.std.specs.Prelude.{All, take}
use Rattle.script_threads.specs.Verdicts.{HasReceiptIn}
use Rattle.script_threads.proofs.verdicts.receipts_stand.Given as goal

-- All so far stand.
abbrev pub invariant-loop-client : goal.invariant-loop-client
invariant-loop-client l = All (λ c. All (λ h. HasReceiptIn l.committed h.receipt) c.items) (take l.client-index l.clients)
