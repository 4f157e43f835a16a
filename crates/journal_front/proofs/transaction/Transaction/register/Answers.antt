use Rattle.std.proofs.Common.{List, ap, sym, true≢false, [], ◌++◌, ◌∙◌, ◌∷◌}
use Rattle.journal_model.specs.declared.transaction.Step.{Step}
use Rattle.journal_model.specs.Transaction.{Transaction, entries}
use Rattle.journal_model.proofs.Effects.{entries-push_read}
use Rattle.journal_front.proofs.transaction.Transaction.register.Goals as goal

-- the entries stay, and the reserved room is used up
pub invariant_of-self : goal.invariant_of-self
invariant_of-self g c =
    let t = c.self.inside in
    let noted = c.register.ensures in
    record {
      entries_are =
          c.self.invariant.entries_are ∙ sym (entries-push_read t.known.steps c.args.step c.requires.untouched)
          ∙ ap (λ (k : Transaction). entries k.steps) (sym noted);
      joined_is = rw noted c.self.invariant.joined_is;
      handles_are = λ keeps. c.self.invariant.handles_are keeps ∙ ap (λ (k : Transaction). k.handles) (sym noted);
      steps_are = λ keeps. c.keep_step.ensures.kept keeps ∙ ap (λ (ss : List Step). ss ++ c.args.step ∷ []) (c.self.invariant.steps_are keeps) ∙ ap (λ (k : Transaction). k.steps) (sym noted);
      none_kept = λ drops. let none = c.self.invariant.none_kept drops in (none.0, c.keep_step.ensures.dropped drops ∙ none.1);
      step_room = λ keeps is. absurd (true≢false (sym is));
    }
