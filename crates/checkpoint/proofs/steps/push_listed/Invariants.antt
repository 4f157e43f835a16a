use Rattle.std.proofs.Common.{◌≡◌, ◌++◌, map, take}
use Rattle.checkpoint.specs.Copies.{AreCopies}
use Rattle.checkpoint.specs.Steps.{fresh}
use Rattle.checkpoint.proofs.steps.push_listed.Given as goal

-- the first listed copies are added
abbrev pub invariant-loop-block : goal.invariant-loop-block
invariant-loop-block l =
    record {
      added : l.copies.copies ≡ l.fn.copies.copies ++ map (fresh l.tid) (take l.block-index l.list);
      room : l.copies.room ≡ l.fn.copies.room;
      kept : AreCopies l.copies;
    }
