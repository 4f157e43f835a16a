use Rattle.std.specs.Prelude.{All, take}
use Rattle.script_threads.specs.Verdicts.{HasReceiptIn}
use Rattle.script_threads.proofs.verdicts.client_stands.Given as goal

-- All so far stand.
abbrev pub invariant-loop-handle : goal.invariant-loop-handle
invariant-loop-handle l = All (λ h. HasReceiptIn l.committed h.receipt) (take l.handle-index l.handles)
