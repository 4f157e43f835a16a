-- Lemmas: operations performed in order.
use Rattle.std.proofs.Common.{◌∙◌, ap, arith, inl, inr, refl, subst, sym}
use Rattle.std.specs.Prelude.{◌≡◌, ℕ, ◌+◌, ◌<◌, ◌++◌, List, [], ◌∷◌, Option, Some, None, get_or, length, take}
use Rattle.std.proofs.lemmas.List.{append-nil, append_assoc, take_all, take_more}
use Rattle.std.specs.Io.KnownBytes.{Appends}
use Rattle.std.specs.List.{AllByRecursion}
use Rattle.std.proofs.Common.{⊎_elim}
use Rattle.block_device.specs.State.{DeviceState}
use Rattle.journal_model.specs.declared.refusal.JournalError.{JournalError}
use Rattle.group_commit.specs.Extension.{EndsHandle}
use Rattle.journal_front.specs.Values.{HandleValue}
use Rattle.journal_steps.specs.Values.{JournalValue}
use Rattle.script_client.specs.declared.outcome.OperationOutcome.{OperationOutcome}
use Rattle.script_client.specs.declared.outcome.OperationOutcome.TheVariants.{Refused}
use Rattle.journal_script.specs.declared.script.Operation.{Operation}
use Rattle.script_client.specs.Lines.{line_of}
use Rattle.script_client.specs.Outcomes.{AppliesAll, AppliesSome, AppliesUpTo, Performs, PerformsAll, Writes}
use Rattle.script_client.specs.Outcomes.Performs.{NoneYet, OneMore}
use Rattle.script_client.specs.Performed.{Table}
use Rattle.script_client.proofs.Telling.{open-or_not}

-- the operations were performed, the list goes on after each, and the lines were written
pub record PerformsSoFar {D : Type 0} (Does : Operation → OperationOutcome → Table D → Table D → Type 0) (Last : OperationOutcome → Type 0) (operations : List Operation) (old new : Table D)
    (before written : Option (List ℕ)) : Type 0 where
  pub outcomes : List OperationOutcome
  pub performs : Writes before written (λ lines. Performs Does Last operations outcomes lines old new)
  pub go : AllByRecursion (λ o. Last o → ⊥) outcomes

-- the list goes on after one more outcome
pub goes-on : (Last : OperationOutcome → Type 0) (outcomes : List OperationOutcome) (one : OperationOutcome) → AllByRecursion (λ o. Last o → ⊥) outcomes → (Last one → ⊥)
    → AllByRecursion (λ o. Last o → ⊥) (outcomes ++ one ∷ [])
goes-on Last [] one all on = (on, tt)
goes-on Last (x ∷ outcomes) one all on = (all.0, goes-on Last outcomes one all.1 on)

-- appended lines add up
appends-more : (before mid written : Option (List ℕ)) (lines line : List ℕ) → Appends before mid lines → Appends mid written line → Appends before written (lines ++ line)
appends-more None mid written lines line first then = tt
appends-more (Some xs) None written lines line first then = absurd first
appends-more (Some xs) (Some ys) None lines line first then = absurd then
appends-more (Some xs) (Some ys) (Some zs) lines line first then = then ∙ ap (λ (bs : List ℕ). bs ++ line) first ∙ append_assoc xs lines line

-- nothing is appended
appends-none : (written : Option (List ℕ)) → Appends written written []
appends-none None = tt
appends-none (Some xs) = sym (append-nil xs)

module _ {D : Type 0} (Does : Operation → OperationOutcome → Table D → Table D → Type 0) (Last : OperationOutcome → Type 0) (operations : List Operation) where
  -- no operation was performed yet
  pub none-performed : (t : Table D) (written : Option (List ℕ)) → PerformsSoFar Does Last [] t t written written
  none-performed t written = record { outcomes = []; performs = record { lines = []; said = appends-none written; are = NoneYet t }; go = tt }

  module _ (i : ℕ) (one : Operation) (outcome : OperationOutcome) (old now new : Table D) (before mid written : Option (List ℕ)) (within : i < length operations) (is : one ≡ get_or operations i one)
      (so_far : PerformsSoFar Does Last (take i operations) old now before mid) (done : Does one outcome now new) where
    -- one more operation was performed
    performs-more : Performs Does Last (take (i + 1) operations) (so_far.outcomes ++ outcome ∷ []) (so_far.performs.lines ++ line_of one outcome) old new
    performs-more =
        subst (λ (xs : List Operation). Performs Does Last xs (so_far.outcomes ++ outcome ∷ []) (so_far.performs.lines ++ line_of one outcome) old new)
        (sym (take_more operations i one within ∙ ap (λ (x : Operation). take i operations ++ x ∷ []) (sym is)))
        (OneMore (take i operations) so_far.outcomes so_far.performs.lines one outcome old now new so_far.performs.are so_far.go done)

    -- its line was written too
    pub writes-more : Appends mid written (line_of one outcome) →
        Writes before written (λ lines. Performs Does Last (take (i + 1) operations) (so_far.outcomes ++ outcome ∷ []) lines old new)
    writes-more line = record {
      lines = so_far.performs.lines ++ line_of one outcome;
      said = appends-more before mid written so_far.performs.lines (line_of one outcome) so_far.performs.said line;
      are = performs-more;
    }

    -- the list goes on after it
    pub one-more-performed : Appends mid written (line_of one outcome) → (Last outcome → ⊥) → PerformsSoFar Does Last (take (i + 1) operations) old new before written
    one-more-performed line on = record {
      outcomes = so_far.outcomes ++ outcome ∷ [];
      performs = writes-more line;
      go = goes-on Last so_far.outcomes outcome so_far.go on;
    }

    -- the list ends there
    pub last-performed : Appends mid written (line_of one outcome) → Last outcome → Writes before written (PerformsAll Does Last operations old new)
    unfolding writes-more
    last-performed line last = record {
      lines = (writes-more line).lines;
      said = (writes-more line).said;
      are = record {
        count = i + 1;
        outcomes = so_far.outcomes ++ outcome ∷ [];
        performs = performs-more;
        all = inr (so_far.outcomes, outcome, refl, last);
      };
    }

    -- `apply` ends there, with this refusal
    pub refused-applied : (e : JournalError) → outcome ≡ Refused e → Last (Refused e) → Appends mid written (line_of one outcome) →
        AppliesUpTo Does Last operations old new before written e
    refused-applied e refused last line = record {
      count = i + 1;
      outcomes = so_far.outcomes;
      performs =
          subst (λ (o : OperationOutcome). Writes before written (λ lines. Performs Does Last (take (i + 1) operations) (so_far.outcomes ++ o ∷ []) lines old new))
          refused (writes-more line);
      last = last;
    }

    -- its line could not be written
    pub unwritten-applied : AppliesSome Does Last operations old new
    unwritten-applied = record {
      count = i + 1;
      outcomes = so_far.outcomes ++ outcome ∷ [];
      lines = so_far.performs.lines ++ line_of one outcome;
      performs = performs-more;
    }

  -- all operations were performed
  pub all-performed : (old new : Table D) (before written : Option (List ℕ)) (i : ℕ) → i ≡ length operations → PerformsSoFar Does Last (take i operations) old new before written →
      Writes before written (PerformsAll Does Last operations old new)
  all-performed old new before written i end so_far = record {
    lines = so_far.performs.lines;
    said = so_far.performs.said;
    are = record { count = i; outcomes = so_far.outcomes; performs = so_far.performs.are; all = inl end };
  }

  pub all-applied : (old new : Table D) (before written : Option (List ℕ)) (i : ℕ) → i ≡ length operations → PerformsSoFar Does Last (take i operations) old new before written →
      AppliesAll Does Last operations old new before written
  all-applied old new before written i end so_far = record {
    outcomes = so_far.outcomes;
    performs =
        subst (λ (xs : List Operation). Writes before written (λ lines. Performs Does Last xs so_far.outcomes lines old new))
        (ap (λ (n : ℕ). take n operations) end ∙ take_all (length operations) operations (omega arith)) so_far.performs;
    go = so_far.go;
  }

-- stopping a handle seals nothing
pub ends-sealed : {D : Type 0} (state : D → DeviceState) (h : HandleValue) (old new : JournalValue D) → EndsHandle state h old new → new.journal.front.sealed ≡ old.journal.front.sealed
ends-sealed state h old new ends =
    ⊎_elim
    (λ is. ap (λ f. f.sealed) (ends.stops is).front.after)
    (λ none. ap (λ (v : JournalValue _). v.journal.front.sealed) (ends.other none))
    (open-or_not old.journal.front h)

-- nor does it change the running transaction
pub ends-running : {D : Type 0} (state : D → DeviceState) (h : HandleValue) (old new : JournalValue D) → EndsHandle state h old new → new.journal.front.running ≡ old.journal.front.running
ends-running state h old new ends =
    ⊎_elim
    (λ is. ap (λ f. f.running) (ends.stops is).front.after)
    (λ none. ap (λ (v : JournalValue _). v.journal.front.running) (ends.other none))
    (open-or_not old.journal.front h)
