use Rattle.std.proofs.Common.{◌≡◌, ◌++◌, drop, vec_capacity}
use Rattle.checkpoint.specs.Steps.{places_of}
use Rattle.checkpoint.proofs.steps.list_copies.Given as goal

-- the listed places, and then those that are left, are all
abbrev pub invariant-loop-place : goal.invariant-loop-place
invariant-loop-place l =
    record {
      rest : l.list.items ++ places_of l.place (drop l.place l.entries) ≡ places_of 0 l.fn.entries;
      capacity : vec_capacity l.list ≡ vec_capacity l.fn.list;
    }
