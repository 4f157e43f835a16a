use Rattle.std.proofs.Common.{List, ap, nat_eq, sym, true≢false, ℕ, [], ◌++◌, ◌∙◌, ◌∷◌}
use Rattle.indexmap.specs.IndexMap.{insert_entry}
use Rattle.journal_model.specs.declared.entry.Entry.{Entry}
use Rattle.journal_model.specs.declared.transaction.Step.{Step}
use Rattle.journal_model.specs.Transaction.{Transaction, entries}
use Rattle.journal_front.proofs.EntriesOfSteps.{entries-touch}
use Rattle.journal_front.proofs.transaction.Transaction.register_touch.Goals as goal

-- the entries are those after one more step, and no room is reserved
pub invariant_of-self-2 : goal.invariant_of-self-2
invariant_of-self-2 g c =
    let t = c.self.inside in
    let noted = c.register.ensures in
    record {
      entries_are =
          c.in_ok-write.ensures.running
          ∙ ap (λ (es : List (ℕ × Entry)). insert_entry nat_eq es c.args.step.block c.args.entry) c.self.invariant.entries_are
          ∙ sym (entries-touch t.known.steps c.args.step c.args.entry c.requires) ∙ ap (λ (k : Transaction). entries k.steps) (sym noted);
      joined_is = rw noted c.self.invariant.joined_is;
      handles_are = λ keeps. c.self.invariant.handles_are keeps ∙ ap (λ (k : Transaction). k.handles) (sym noted);
      steps_are = λ keeps.
          c.keep_step.ensures.kept keeps ∙ ap (λ (ss : List Step). ss ++ c.args.step ∷ []) (c.room_for_step.ensures.same ∙ c.self.invariant.steps_are keeps)
          ∙ ap (λ (k : Transaction). k.steps) (sym noted);
      none_kept = λ drops.
          let none = c.self.invariant.none_kept drops in
          (none.0, c.keep_step.ensures.dropped drops ∙ c.room_for_step.ensures.same ∙ none.1);
      step_room = λ keeps is. absurd (true≢false (sym is));
    }
