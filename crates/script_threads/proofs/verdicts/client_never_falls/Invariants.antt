use Rattle.std.specs.Prelude.{◌+◌, ◌<◌, ◌≤◌, ℕ, slice_index_or}
use Rattle.script_threads.specs.declared.told.ToldHandle.{ToldHandle}
use Rattle.script_threads.proofs.verdicts.client_never_falls.Given as goal

-- None so far falls.
abbrev pub invariant-loop-place : goal.invariant-loop-place
invariant-loop-place l = (k : ℕ) (d e : ToldHandle) → k + 1 < l.place → (slice_index_or l.handles k d).tid ≤ (slice_index_or l.handles (k + 1) e).tid
