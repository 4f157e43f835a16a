use Rattle.std.specs.Prelude.{◌≡◌, [], All, IsNone, take}
use Rattle.script_threads.proofs.running.refused_of.Given as goal

-- If the list is empty, no client so far was refused anything.
abbrev pub invariant-loop-place : goal.invariant-loop-place
invariant-loop-place g l = l.refused.items ≡ [] → All (λ c. IsNone c.refusal) (take l.place l.clients)
