use Rattle.std.proofs.Common.{◌∙◌}
use Rattle.block_tables.proofs.Maps.{get-seen, seen-inserted}
use Rattle.block_tables.proofs.copies.CopyTable.note.Goals as goal
use Rattle.block_tables.proofs.copies.CopyTable.note.Goals.{in-Ok, in-Err}

-- the place was inserted
pub returns-clause-ok : goal.returns-clause-ok
returns-clause-ok c =
    elim c.match-insert.branch [
      | in-Ok w ↦ rw (w.result-is, ← c.self.view_is) (seen-inserted c.self.inside.newest c.insert.new.self c.args.block c.args.place w.in-Ok.ensures.updates)
      | in-Err w ↦ rw w.result-is tt
    ]

-- a block that has a place takes no memory
pub returns-clause-absent : goal.returns-clause-absent
returns-clause-absent c =
    elim c.match-insert.branch [
      | in-Ok w ↦ rw w.result-is tt
      | in-Err w ↦ rw (w.result-is, ← c.self.view_is) (get-seen c.self.inside.newest c.args.block ∙ w.in-Err.ensures.absent)
    ]
