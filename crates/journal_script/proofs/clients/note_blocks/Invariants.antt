use Rattle.std.specs.Prelude.{ℕ, take, Contains}
use Rattle.std.specs.BTreeSet.{keys}
use Rattle.journal_script.specs.Clients.{HasTouched}
use Rattle.journal_script.proofs.clients.note_blocks.Given as goal

-- the blocks of the touches so far are noted, and the others stay
abbrev pub invariant-loop-touch : goal.invariant-loop-touch
invariant-loop-touch l = record {
  keeps : (b : ℕ) → Contains (keys l.initial.blocks) b → Contains (keys l.blocks) b;
  notes : HasTouched (take l.touch-index l.touches) (keys l.blocks);
}
