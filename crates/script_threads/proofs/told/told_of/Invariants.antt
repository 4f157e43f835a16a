use Rattle.std.specs.Prelude.{take}
use Rattle.std.specs.List.{AllZip}
use Rattle.script_threads.specs.Runs.{IsTold}
use Rattle.script_threads.proofs.told.told_of.Given as goal

-- All so far are told.
abbrev pub invariant-loop-client : goal.invariant-loop-client
invariant-loop-client g l = AllZip (λ c ts. AllZip (λ h t. IsTold h.tid h.receipt t) c.handles.items ts.items) (take l.client-index l.clients) l.told.items
