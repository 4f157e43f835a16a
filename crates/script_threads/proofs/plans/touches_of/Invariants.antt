use Rattle.std.specs.Prelude.{◌≡◌, map, take}
use Rattle.script_threads.specs.Plans.{planned}
use Rattle.script_threads.proofs.plans.touches_of.Given as goal

-- The touches so far.
abbrev pub invariant-loop-touch : goal.invariant-loop-touch
invariant-loop-touch l = l.all.items ≡ map (planned l.block_size) (take l.touch-index l.touches)
