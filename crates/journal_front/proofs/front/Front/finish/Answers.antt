use Rattle.std.proofs.Common.{arith, sym, subst, ◌<◌, ◌+◌}
use Rattle.journal_front.specs.FrontView.{KeepsFront}
use Rattle.journal_front.specs.FrontView.AreCommitting.{AllFinished}
use Rattle.journal_front.specs.Transaction.{OpenTransaction}
use Rattle.journal_front.proofs.Unfinished.{one-untold}
use Rattle.journal_front.proofs.front.Front.finish.Goals as goal

-- no entries of sealed transactions are left
pub invariant_of-self : goal.invariant_of-self
invariant_of-self g c =
    let f = c.self.inside in
    let front = c.self.invariant.front in
    let less : f.finished + 1 < f.running.transaction.tid = rw (← c.self.view_is) at c.requires in
    let told =
    one-untold (g.R.Record.transactions f.sealed) f.finished f.running.transaction.tid f.running.committing c.self.invariant.committing_are less in
    subst (λ (t : OpenTransaction). KeepsFront g.R.Record.transactions g.R.Record.has_room (record f { finished = f.finished + 1; running = t })) (sym c.finish.ensures)
    (record {
      front = record {
        layout = front.layout;
        credits = front.credits;
        numbers = front.numbers;
        given = front.given;
        joined = front.joined;
        number = front.number;
      };
      held_are = c.self.invariant.held_are;
      committing_are = AllFinished (omega arith);
      room = c.self.invariant.room;
    })
