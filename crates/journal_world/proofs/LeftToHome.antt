-- A block stays left to home while the engine takes no batch with an entry of it.
use Rattle.std.proofs.Common.{sym, ◌∙◌, ap, subst, arith, inl, inr, ⊎_elim}
use Rattle.std.specs.Prelude.{◌≡◌, ◌⊎◌, ℕ, zero, suc, ◌≤◌, List, [], ◌∷◌, ◌++◌, map, Some, slice_get, Contains}
use Rattle.std.proofs.lemmas.Bool.{cases_lt}
use Rattle.std.proofs.lemmas.Option.{none-some, same_Some, slice_get_within}
use Rattle.journal_model.proofs.ListElements.{get-front}
use Rattle.journal_model.specs.declared.entry.Batch.{Batch}
use Rattle.journal_model.specs.declared.entry.Entry.TheVariants.{Copy}
use Rattle.journal_world.specs.Direct.{IsLeftToHome}
use Rattle.journal_world.specs.Engine.{Accepts, Engine}
use Rattle.journal_world.proofs.Lasts.{entry-block}
use Rattle.journal_world.proofs.Onward.{GoesOn}

-- an element of a list with one more
push-cases : {X : Type 0} (xs : List X) (y : X) (j : ℕ) (x : X) → slice_get (xs ++ y ∷ []) j ≡ Some x → (slice_get xs j ≡ Some x) ⊎ (y ≡ x)
push-cases [] y zero x stands = inr (same_Some y x stands)
push-cases [] y (suc j) x stands = absurd (none-some x stands)
push-cases (z ∷ xs) y zero x stands = inl stands
push-cases (z ∷ xs) y (suc j) x stands = push-cases xs y j x stands

-- a batch without an entry of a block leaves it to home
pub left-taken : (old new : Engine) (c : Batch) (b : ℕ) → Accepts old c new → (Contains (map (λ p. p.0) c.entries) b → ⊥) → IsLeftToHome old b → IsLeftToHome new b
left-taken old new c b accepts none left = subst (λ (e : Engine). IsLeftToHome e b) (sym accepts.after) (record {
  none_newest = λ i v newest. ⊎_elim
      (λ stands. left.none_newest i v (record {
        copy = record { batch = newest.copy.batch; committed = newest.copy.committed; stands = stands; copy = newest.copy.copy };
        last = λ j later behind below at has. newest.last j later behind below (get-front old.accepted (c ∷ []) j (slice_get_within old.accepted j later at) ∙ at) has;
      }))
      (λ same. none (subst (λ (d : Batch). Contains (map (λ p. p.0) d.entries) b) (sym same) (entry-block newest.copy.batch.entries b (Copy v) newest.copy.copy)))
      (push-cases old.accepted c i newest.copy.batch newest.copy.stands);
  none_due = λ j due least stands has. ⊎_elim
      (λ at. left.none_due j due least at has)
      (λ same. none (subst (λ (d : Batch). Contains (map (λ p. p.0) d.entries) b) (sym same) has))
      (push-cases old.accepted c j due stands);
})

-- an engine that goes on still leaves it to home
pub left-going : (old new : Engine) (b : ℕ) → GoesOn old new → IsLeftToHome old b → IsLeftToHome new b
left-going old new b on left =
    let more : old.committed ≤ new.committed = on.committed in
    let at : (j : ℕ) → slice_get old.accepted j ≡ slice_get new.accepted j = λ j. ap (λ (bs : List Batch). slice_get bs j) (sym on.accepted) in
    record {
      none_newest = λ i v newest.
          elim (cases_lt i old.committed) [
            | inl below ↦ left.none_newest i v (record {
              copy = record { batch = newest.copy.batch; committed = below; stands = at i ∙ newest.copy.stands; copy = newest.copy.copy };
              last = λ j later behind few stands has. newest.last j later behind (omega arith) (sym (at j) ∙ stands) has;
            })
            | inr due ↦
                left.none_due i newest.copy.batch (omega arith) (at i ∙ newest.copy.stands) (entry-block newest.copy.batch.entries b (Copy v) newest.copy.copy)
          ];
      none_due = λ j due least stands has. left.none_due j due (omega arith) (at j ∙ stands) has;
    }

-- an engine that has no transactions leaves each block to home
pub fresh-left : (e : Engine) (b : ℕ) → e.accepted ≡ [] → IsLeftToHome e b
fresh-left e b none =
    let nothing : (j : ℕ) (c : Batch) → slice_get e.accepted j ≡ Some c → ⊥ =
    λ j c stands. none-some c (ap (λ (bs : List Batch). slice_get bs j) (sym none) ∙ stands) in
    record {
      none_newest = λ i v newest. nothing i newest.copy.batch newest.copy.stands;
      none_due = λ j due least stands has. nothing j due stands;
    }
