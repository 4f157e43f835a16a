use Rattle.std.proofs.Common.{◌∙◌, inl, inr, sym, ap, subst, ⊎_elim}
use Rattle.std.specs.Prelude.{◌≡◌, List, Option, Some, ℕ, Contains, unwrap_or}
use Rattle.std.specs.BTreeSet.{keys}
use Rattle.journal_script.proofs.Keys.{insert-keeps, insert-one, insert-only}
use Rattle.journal_script.proofs.script.Operation.note_direct.Goals as goal

-- the other blocks stay
pub returns-in_ok-insert-in-Some-clause-keeps : goal.returns-in_ok-insert-in-Some-clause-keeps
returns-in_ok-insert-in-Some-clause-keeps c = λ b has.
    subst (λ (ks : List ℕ). Contains ks b) (sym c.in_ok-insert-in-Some.ensures.keys) (insert-keeps (keys c.args.directs.now) c.in-Some.field-0.0 b has)

-- this one is noted
pub returns-in_ok-insert-in-Some-clause-notes : goal.returns-in_ok-insert-in-Some-clause-notes
returns-in_ok-insert-in-Some-clause-notes c = λ b is.
    let seen = c.direct_block-2.view_is ∙ c.direct_block.ensures ∙ is in
    let here = rw c.in-Some.is at seen in
    subst (λ (n : ℕ). Contains (keys c.insert.new.self) n) (ap (λ (o : Option ℕ). unwrap_or o 0) here)
    (subst (λ (ks : List ℕ). Contains ks c.in-Some.field-0.0) (sym c.in_ok-insert-in-Some.ensures.keys) (insert-one (keys c.args.directs.now) c.in-Some.field-0.0))

-- and none else
pub returns-in_ok-insert-in-Some-clause-no_others : goal.returns-in_ok-insert-in-Some-clause-no_others
returns-in_ok-insert-in-Some-clause-no_others c = λ b has.
    let block = c.in-Some.field-0.0 in
    let seen = c.direct_block-2.view_is ∙ c.direct_block.ensures in
    let here = rw c.in-Some.is at seen in
    ⊎_elim
    (λ (old : Contains (keys c.args.directs.now) b). inl old)
    (λ (one : block ≡ b). inr (sym here ∙ ap Some one))
    (insert-only (keys c.args.directs.now) block b (subst (λ (ks : List ℕ). Contains ks b) c.in_ok-insert-in-Some.ensures.keys has))
