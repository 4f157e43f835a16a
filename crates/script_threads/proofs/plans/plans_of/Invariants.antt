use Rattle.std.specs.Prelude.{take}
use Rattle.script_threads.specs.Plans.{ArePlansOf}
use Rattle.script_threads.proofs.plans.plans_of.Given as goal

-- The plans of the clients so far.
abbrev pub invariant-loop-client : goal.invariant-loop-client
invariant-loop-client l = ArePlansOf l.block_size (take l.client-index l.clients) l.plans.items
