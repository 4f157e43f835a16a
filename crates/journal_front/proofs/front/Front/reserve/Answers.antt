use Rattle.std.proofs.Common.{refl, arith}
use Rattle.journal_world.specs.Front.{Reserves, reserving}
use Rattle.journal_world.specs.Front.FrontEvent.{Reserve}
use Rattle.journal_front.specs.Front.ReserveRefused.{BeyondCapacity, BeyondFree}
use Rattle.journal_front.specs.FrontView.{front_of}
use Rattle.journal_front.proofs.Holding.{is-front}
use Rattle.journal_front.proofs.front.Front.reserve.Goals as goal

pub returns-then-n-self-clause-err : goal.returns-then-n-self-clause-err
returns-then-n-self-clause-err g c = rw (← c.self.view_is) (BeyondCapacity c.if-n-self.true, refl)

pub returns-then-n-saturating_sub-clause-err : goal.returns-then-n-saturating_sub-clause-err
returns-then-n-saturating_sub-clause-err g c =
    let held_are = c.self.invariant.held_are in rw (← c.self.view_is) (BeyondFree c.if-n-self.false (omega arith), refl)

pub returns-clause-ok : goal.returns-clause-ok
returns-clause-ok g c =
    let held_are = c.self.invariant.held_are in
    let within = c.self.invariant.front.credits in
    let free = c.saturating_sub.ensures in
    let few = c.if-n-saturating_sub.false in
    rw (← c.self.view_is) (c.new.ensures, record { free = omega arith; after = refl })

pub invariant_of-self : goal.invariant_of-self
invariant_of-self g c =
    let f = c.self.inside in
    let held_are = c.self.invariant.held_are in
    let within = c.self.invariant.front.credits in
    let free = c.saturating_sub.ensures in
    let few = c.if-n-saturating_sub.false in
    let step : Reserves (front_of g.R.Record.transactions f) c.args.n (reserving (front_of g.R.Record.transactions f) c.args.n) = record { free = omega arith; after = refl } in
    record {
      front = is-front (front_of g.R.Record.transactions f) (reserving (front_of g.R.Record.transactions f) c.args.n) (Reserve c.args.n) step c.self.invariant.front;
      held_are = omega arith;
      committing_are = c.self.invariant.committing_are;
      room = c.self.invariant.room;
    }
