use Rattle.std.proofs.Common.{◌≡◌, ◌+◌, ◌≤◌, arith, sym, ap, ◌∙◌, length}
use Rattle.std.proofs.lemmas.Bool.{true≢false}
use Rattle.log_model.specs.Opening.{greatest_number}
use Rattle.journal_model.specs.Transaction.{entries}
use Rattle.journal_front.specs.Transaction.{OpenTransaction}
use Rattle.journal_front.proofs.Unfinished.{all-told, committing-sealed}
use Rattle.journal_front.proofs.front.Front.seal.Goals as goal

-- no transaction is being committed
pub seal-requires-clause-finished : goal.seal-requires-clause-finished
seal-requires-clause-finished g c =
    let f = c.self.inside in
    all-told (g.R.Record.transactions f.sealed) f.finished f.running.transaction.tid f.running.committing c.self.invariant.committing_are
    (rw (← c.self.view_is) at c.requires.finished)

-- the running transaction's entries become those of the one being committed
pub invariant_of-self : goal.invariant_of-self
invariant_of-self g c =
    let f = c.self.inside in
    let front = c.self.invariant.front in
    let next = c.seal.ensures.next in
    let tid : c.seal.new.self.transaction.tid ≡ f.running.transaction.tid + 1 = ap (λ (t : OpenTransaction). t.transaction.tid) next in
    let held_are = c.self.invariant.held_are in
    let count = c.len-entries.ensures in
    let none : length (entries c.seal.new.self.transaction.steps) ≡ 0 = ap (λ (t : OpenTransaction). length (entries t.transaction.steps)) next in
    let told : f.finished + 1 ≡ f.running.transaction.tid = rw (← c.self.view_is) at c.requires.finished in
    record {
      front = record {
        layout = front.layout;
        credits = let within = front.credits in omega arith;
        numbers = front.numbers;
        given = front.given;
        joined = λ is. absurd (true≢false (sym is ∙ ap (λ (t : OpenTransaction). t.locked) next));
        number = let most : f.running.transaction.tid ≤ greatest_number = rw (← c.self.view_is) at c.requires.number in omega arith;
      };
      held_are = omega arith;
      committing_are =
          committing-sealed (g.R.Record.transactions f.sealed) _ f.running.transaction f.finished _ _
          c.seal.ensures.sealed
          (ap (λ (t : OpenTransaction). t.committing) next) (omega arith);
      room = λ joined. absurd (let none : length c.seal.new.self.transaction.handles ≡ 0 = ap (λ (t : OpenTransaction). length t.transaction.handles) next in omega arith);
    }
