use Rattle.std.specs.Prelude.{ℕ, take, Contains}
use Rattle.std.specs.BTreeSet.{keys}
use Rattle.journal_script.specs.Clients.{HasTouchedAll}
use Rattle.journal_script.proofs.clients.note_client.Given as goal

-- the blocks of the handles so far are noted, and the others stay
abbrev pub invariant-loop-handle : goal.invariant-loop-handle
invariant-loop-handle l = record {
  keeps : (b : ℕ) → Contains (keys l.initial.blocks) b → Contains (keys l.blocks) b;
  notes : HasTouchedAll (take l.handle-index l.client) (keys l.blocks);
}
