use Rattle.std.proofs.Common.{◌∙◌, sym, ap, subst}
use Rattle.std.specs.Prelude.{List, Option, ℕ, Contains, unwrap_or}
use Rattle.std.specs.BTreeSet.{keys}
use Rattle.journal_script.proofs.Keys.{insert-keeps, insert-one}
use Rattle.journal_script.proofs.script.Operation.note_block.Goals as goal

-- the other blocks stay
pub returns-in_ok-insert-in-Some-clause-keeps : goal.returns-in_ok-insert-in-Some-clause-keeps
returns-in_ok-insert-in-Some-clause-keeps c = λ b has.
    subst (λ (ks : List ℕ). Contains ks b) (sym c.in_ok-insert-in-Some.ensures.keys) (insert-keeps (keys c.args.named.now) c.in-Some.field-0.0 b has)

-- this one is noted
pub returns-in_ok-insert-in-Some-clause-notes : goal.returns-in_ok-insert-in-Some-clause-notes
returns-in_ok-insert-in-Some-clause-notes c = λ b is there.
    let seen = c.block-2.view_is ∙ c.block.ensures ∙ is in
    let here = rw c.in-Some.is at seen in
    subst (λ (n : ℕ). Contains (keys c.insert.new.self) n) (ap (λ (o : Option ℕ). unwrap_or o 0) here)
    (subst (λ (ks : List ℕ). Contains ks c.in-Some.field-0.0) (sym c.in_ok-insert-in-Some.ensures.keys) (insert-one (keys c.args.named.now) c.in-Some.field-0.0))
