use Rattle.std.proofs.Common.{◌≡◌, drop, map}
use Rattle.checkpoint.specs.Copies.{AreCopies}
use Rattle.checkpoint.specs.Steps.{withdrawn_all}
use Rattle.checkpoint.proofs.steps.withdraw_touched.Given as goal

-- what is withdrawn, and then what is left to withdraw, is all
abbrev pub invariant-loop-block : goal.invariant-loop-block
invariant-loop-block l =
    record {
      rest : withdrawn_all (map (λ e. e.0) (drop l.block-index l.entries)) l.copies.copies ≡ withdrawn_all (map (λ e. e.0) l.fn.entries) l.fn.copies.copies;
      room : l.copies.room ≡ l.fn.copies.room;
      kept : AreCopies l.copies;
    }
