use Rattle.std.proofs.Common.{sym, subst}
use Rattle.std.specs.Prelude.{List, ℕ, Contains}
use Rattle.std.specs.BTreeSet.{keys}
use Rattle.journal_script.proofs.Keys.{insert-keeps, insert-one}
use Rattle.journal_script.proofs.clients.note_block.Goals as goal

-- the other blocks stay
pub returns-clause-keeps : goal.returns-clause-keeps
returns-clause-keeps c = λ b has. subst (λ (ks : List ℕ). Contains ks b) (sym c.in_ok-insert.ensures.keys) (insert-keeps (keys c.args.blocks.now) c.block.inside.0 b has)

-- this one is noted
pub returns-clause-notes : goal.returns-clause-notes
returns-clause-notes c =
    subst (λ (n : ℕ). Contains (keys c.insert.new.self) n) c.block.view_is
    (subst (λ (ks : List ℕ). Contains ks c.block.inside.0) (sym c.in_ok-insert.ensures.keys) (insert-one (keys c.args.blocks.now) c.block.inside.0))
