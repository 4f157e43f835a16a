use Rattle.std.proofs.Common.{ℕ, List, ◌≡◌, ◌≤◌, ◌<◌, arith, sym, ap, subst, ◌∙◌, length}
use Rattle.std.specs.List.{AllByRecursion}
use Rattle.std.proofs.lemmas.Bool.{true≢false}
use Rattle.log_model.specs.Opening.{greatest_number}
use Rattle.journal_model.specs.Transaction.{entries}
use Rattle.journal_world.specs.Front.{left_in}
use Rattle.journal_front.specs.Transaction.{OpenTransaction}
use Rattle.journal_front.proofs.Unfinished.{committing-none}
use Rattle.journal_front.proofs.front.Front.new.Goals as goal

-- nothing is sealed yet, nothing is written, and no handle is open
pub invariant_of-result : goal.invariant_of-result
invariant_of-result g c =
    let running = c.new-2.ensures in
    let tid : c.new-2.result.transaction.tid ≡ c.args.first = ap (λ (t : OpenTransaction). t.transaction.tid) running in
    let first : c.first.inside.0 ≡ c.args.first = c.first.view_is in
    let some : 0 < c.args.first = c.requires.some in
    let none_open : left_in c.new-3.result.entries ≡ 0 = ap (λ (hs : List (ℕ × ℕ)). left_in hs) c.new-3.ensures.empty in
    let touched : length (entries c.new-2.result.transaction.steps) ≡ 0 = ap (λ (t : OpenTransaction). length (entries t.transaction.steps)) running in
    record {
      front = record {
        layout = c.requires.layout;
        credits = omega arith;
        numbers = subst (AllByRecursion (λ h. h.0 ≤ 0)) (sym c.new-3.ensures.empty) tt;
        given = omega arith;
        joined = λ is. absurd (true≢false (sym is ∙ ap (λ (t : OpenTransaction). t.locked) running));
        number = let most : c.args.first ≤ greatest_number = c.requires.number in omega arith;
      };
      held_are = omega arith;
      committing_are = committing-none _ _ _ _ (ap (λ (t : OpenTransaction). t.committing) running) (omega arith);
      room = λ joined. absurd (let none : length c.new-2.result.transaction.handles ≡ 0 = ap (λ (t : OpenTransaction). length t.transaction.handles) running in omega arith);
    }
