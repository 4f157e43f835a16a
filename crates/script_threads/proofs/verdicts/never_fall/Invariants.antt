use Rattle.std.specs.Prelude.{All, take}
use Rattle.script_threads.specs.Verdicts.{NeverFall}
use Rattle.script_threads.proofs.verdicts.never_fall.Given as goal

-- None so far falls.
abbrev pub invariant-loop-client : goal.invariant-loop-client
invariant-loop-client l = All (λ c. NeverFall c.items) (take l.client-index l.clients)
