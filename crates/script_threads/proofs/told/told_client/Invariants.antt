use Rattle.std.specs.Prelude.{take}
use Rattle.std.specs.List.{AllZip}
use Rattle.script_threads.specs.Runs.{IsTold}
use Rattle.script_threads.proofs.told.told_client.Given as goal

-- All so far are told.
abbrev pub invariant-loop-handle : goal.invariant-loop-handle
invariant-loop-handle g l = AllZip (λ h t. IsTold h.tid h.receipt t) (take l.handle-index l.handles) l.told.items
