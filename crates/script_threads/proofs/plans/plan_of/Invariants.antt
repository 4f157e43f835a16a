use Rattle.std.specs.Prelude.{take}
use Rattle.std.specs.List.{AllZip}
use Rattle.script_threads.specs.Plans.{IsPlanOf}
use Rattle.script_threads.proofs.plans.plan_of.Given as goal

-- The plans of the handles so far.
abbrev pub invariant-loop-handle : goal.invariant-loop-handle
invariant-loop-handle l = AllZip (IsPlanOf l.block_size) (take l.handle-index l.client) l.plan.items
