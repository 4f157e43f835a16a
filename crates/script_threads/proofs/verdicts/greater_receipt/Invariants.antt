use Rattle.std.specs.Prelude.{◌≡◌, ◌⊎◌, ℕ, Some, All, IfSome, take}
use Rattle.script_threads.specs.Verdicts.{HasReceiptUpTo, IsOfHandle, IsUpTo}
use Rattle.script_threads.proofs.verdicts.greater_receipt.Given as goal

-- It is the greatest so far.
abbrev pub invariant-loop-handle : goal.invariant-loop-handle
invariant-loop-handle l = record {
  all : All (λ h. HasReceiptUpTo l.greatest h.receipt) (take l.handle-index l.handles);
  keeps : (tid : ℕ) → IsUpTo l.fn.least tid → IsUpTo l.greatest tid;
  some : IfSome l.greatest (λ tid. (l.fn.least ≡ Some tid) ⊎ IsOfHandle l.handles tid);
}
