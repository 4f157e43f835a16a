use Rattle.std.proofs.Common.{ℕ, List, ◌≡◌, ◌+◌, ◌≤◌, length, arith, ap, sym, ◌∙◌}
use Rattle.journal_model.specs.declared.entry.Entry.{Entry}
use Rattle.journal_model.specs.Transaction.{copied, entries}
use Rattle.journal_front.specs.Transaction.{OpenTransaction}
use Rattle.journal_front.proofs.Counting.{all-copies, counts-copy, counts-revoke, few-copies, none-yet, other-revokes}
use Rattle.journal_front.proofs.transaction.Transaction.counts.Goals as goal

pub loop-entry-init : goal.loop-entry-init
loop-entry-init g c =
    none-yet _ _
    (ap (λ (es : List (ℕ × Entry)). length (copied es))
    (c.into_iter-entry-iterator.ensures.into_iter_gives ∙ c.iter-entry-items.ensures.rest ∙ c.running-entries.ensures ∙ c.self.invariant.entries_are)
    ∙ ap (λ (t : OpenTransaction). length (copied (entries t.transaction.steps))) c.self.view_is)

pub loop-entry-preserved-in-Copy : goal.loop-entry-preserved-in-Copy
loop-entry-preserved-in-Copy g c = counts-copy _ _ _ _ _ _ _ c.in-Some.ensures.steps c.in-Copy.is c.loop-entry.invariant

pub loop-entry-preserved : goal.loop-entry-preserved
loop-entry-preserved g c = counts-revoke _ _ _ _ _ _ c.in-Some.ensures.steps c.in_default.is c.loop-entry.invariant

-- no more are counted than there are entries
pub overflow_add-copies : goal.overflow_add-copies
overflow_add-copies g c =
    let es = entries c.args.self.now.transaction.steps in
    let few : c.loop-entry.copies + 1 ≤ length es =
    let count = counts-copy _ _ _ _ _ _ _ c.in-Some.ensures.steps c.in-Copy.is c.loop-entry.invariant in
    let all = few-copies es (c.loop-entry.copies + 1) _ count in omega arith in
    let len : length es ≡ c.len-all.result =
    ap (λ (t : OpenTransaction). length (entries t.transaction.steps)) (sym c.self.view_is) ∙ ap length (sym (c.running-entries.ensures ∙ c.self.invariant.entries_are)) ∙ sym c.len-all.ensures.len in
    omega arith

pub overflow_sub-result : goal.overflow_sub-result
overflow_sub-result g c =
    let es = entries c.args.self.now.transaction.steps in
    let few = few-copies es c.loop-entry.copies _ c.loop-entry.invariant in
    let len : length es ≡ c.len-all.result =
    ap (λ (t : OpenTransaction). length (entries t.transaction.steps)) (sym c.self.view_is) ∙ ap length (sym (c.running-entries.ensures ∙ c.self.invariant.entries_are)) ∙ sym c.len-all.ensures.len in
    omega arith

pub returns-clause-copies : goal.returns-clause-copies
returns-clause-copies g c = all-copies _ _ _ c.in-None.ensures.steps.0 c.loop-entry.invariant

pub returns-clause-revokes : goal.returns-clause-revokes
returns-clause-revokes g c =
    let es = entries c.args.self.now.transaction.steps in
    let others = other-revokes es c.loop-entry.copies (all-copies _ _ _ c.in-None.ensures.steps.0 c.loop-entry.invariant) in
    let len : length es ≡ c.len-all.result =
    ap (λ (t : OpenTransaction). length (entries t.transaction.steps)) (sym c.self.view_is) ∙ ap length (sym (c.running-entries.ensures ∙ c.self.invariant.entries_are)) ∙ sym c.len-all.ensures.len in
    omega arith
