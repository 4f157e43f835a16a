use Rattle.std.proofs.Common.{sym, ◌∙◌}
use Rattle.std.proofs.lemmas.Bool.{true≢false}
use Rattle.block_tables.proofs.Covering.{noted-covered, noted-uncovered}
use Rattle.block_tables.proofs.Maps.{get-seen, seen-inserted}
use Rattle.block_tables.proofs.revokes.RevokeTable.note.Goals as goal
use Rattle.block_tables.proofs.revokes.RevokeTable.note.Goals.{in-Ok, in-Err}

-- the block is covered as far already
pub returns-then-covers-clause-ok : goal.returns-then-covers-clause-ok
returns-then-covers-clause-ok c = noted-covered c.args.self.now c.args.block c.args.tid (c.covers.ensures.0 c.if-covers.true)

-- the transaction was inserted
pub returns-clause-ok : goal.returns-clause-ok
returns-clause-ok c =
    elim c.match-insert.branch [
      | in-Ok w ↦
          rw (w.result-is)
          (rw (← c.self.view_is) (seen-inserted c.self.inside.greatest c.insert.new.self c.args.block c.args.tid w.in-Ok.ensures.updates)
          ∙ noted-uncovered c.args.self.now c.args.block c.args.tid (λ covers. true≢false (sym (c.covers.ensures.1 covers) ∙ c.if-covers.false)))
      | in-Err w ↦ rw w.result-is tt
    ]

-- a block that was noted takes no memory
pub returns-clause-absent : goal.returns-clause-absent
returns-clause-absent c =
    elim c.match-insert.branch [
      | in-Ok w ↦ rw w.result-is tt
      | in-Err w ↦ rw (w.result-is, ← c.self.view_is) (get-seen c.self.inside.greatest c.args.block ∙ w.in-Err.ensures.absent)
    ]
