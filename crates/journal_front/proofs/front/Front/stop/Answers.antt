use Rattle.std.proofs.Common.{arith}
use Rattle.journal_world.specs.Front.FrontEvent.{StopHandle}
use Rattle.journal_front.specs.FrontView.{front_of}
use Rattle.journal_front.proofs.Holding.{is-front, left-held, stops, stops-held}
use Rattle.journal_front.proofs.front.Front.stop.Goals as goal

pub returns : goal.returns
returns g c =
    rw (← c.self.view_is)
    (stops (front_of g.R.Record.transactions c.self.inside) c.args.handle c.args.left _ (rw (← c.self.view_is) at c.requires) c.shift_remove.ensures.entries)

-- its unused credits are held
pub overflow_sub-self : goal.overflow_sub-self
overflow_sub-self g c =
    let found = rw (← c.self.view_is) at c.requires in
    let some = left-held (front_of g.R.Record.transactions c.self.inside) c.args.handle c.args.left found in
    let held_are = c.self.invariant.held_are in
    omega arith

-- after the stop they are not
pub invariant_of-self : goal.invariant_of-self
invariant_of-self g c =
    let f = front_of g.R.Record.transactions c.self.inside in
    let found = rw (← c.self.view_is) at c.requires in
    let taken = c.shift_remove.ensures.entries in
    let held_are = c.self.invariant.held_are in
    let fewer = stops-held f c.args.handle c.args.left c.shift_remove.new.self.entries found taken in
    record {
      front = is-front f _ (StopHandle c.args.handle) (stops f c.args.handle c.args.left c.shift_remove.new.self.entries found taken) c.self.invariant.front;
      held_are = omega arith;
      committing_are = c.self.invariant.committing_are;
      room = c.self.invariant.room;
    }
