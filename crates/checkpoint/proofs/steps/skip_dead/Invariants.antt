use Rattle.std.proofs.Common.{◌≤◌, ◌-◌, length}
use Rattle.checkpoint.specs.Steps.{AreDead}
use Rattle.checkpoint.proofs.steps.skip_dead.Given as goal

-- the copies that were passed over are not live
abbrev pub invariant-loop-place : goal.invariant-loop-place
invariant-loop-place l =
    record {
      after : l.from ≤ l.place;
      within : l.place ≤ length l.copies.copies;
      dead : AreDead l.copies.copies l.from l.place;
    }

-- fewer copies are left
abbrev pub decreases-loop-place : goal.decreases-loop-place
decreases-loop-place l = length l.copies.copies - l.place
