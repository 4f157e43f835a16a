use Rattle.std.proofs.Common.{◌<◌, ℕ, List, length, refl, sym, ◌∙◌, ap₂, subst, nat_eq}
use Rattle.indexmap.specs.IndexMap.{insert_entry}
use Rattle.journal_model.specs.declared.transaction.Op.TheVariants.{Write}
use Rattle.journal_world.specs.Front.FrontEvent.{WriteBlock}
use Rattle.journal_world.proofs.Credits.{event-held}
use Rattle.journal_front.specs.Front.{MayStep}
use Rattle.journal_front.specs.FrontView.{AreCommitting, front_of}
use Rattle.journal_front.specs.Transaction.{OpenTransaction}
use Rattle.journal_front.proofs.Holding.{is-front}
use Rattle.journal_front.proofs.Touching.{open-still, same-handles, spends, wrote}
use Rattle.journal_front.proofs.front.Front.write.Goals as goal

pub returns-clause-ok : goal.returns-clause-ok
returns-clause-ok g c =
    let f = front_of g.R.Record.transactions c.self.inside in
    let may : MayStep f c.args.handle.now c.args.block = rw c.self.view_is c.in_ok-admit.ensures.ok in
    let told = c.in-Ok.ensures.entries ∙ ap₂ (insert_entry nat_eq f.open_handles) c.number-2.ensures c.left-2.ensures in
    rw (← c.self.view_is)
    (wrote f c.self.inside.running c.touch_write.new.self c.args.handle.now c.pay.new.self c.number.result c.left.result c.args.block (Write c.args.bytes.now) c.in_ok-touch.touch
    c.insert.new.self.entries refl refl may c.number.ensures c.left.ensures c.in_ok-touch.ensures.ok c.pay.ensures told _ refl (rw (← c.self.view_is) at c.requires))

pub returns-clause-open : goal.returns-clause-open
returns-clause-open g c =
    let f = front_of g.R.Record.transactions c.self.inside in
    let may : MayStep f c.args.handle.now c.args.block = rw c.self.view_is c.in_ok-admit.ensures.ok in
    let told = c.in-Ok.ensures.entries ∙ ap₂ (insert_entry nat_eq f.open_handles) c.number-2.ensures c.left-2.ensures in
    rw (← c.self.view_is)
    (open-still f c.self.inside.running c.touch_write.new.self c.args.handle.now c.pay.new.self c.number.result c.left.result c.args.block (Write c.args.bytes.now) c.in_ok-touch.touch
    c.insert.new.self.entries refl refl may c.number.ensures c.left.ensures c.in_ok-touch.ensures.ok c.pay.ensures told)

pub returns-clause-spends : goal.returns-clause-spends
returns-clause-spends g c =
    let f = front_of g.R.Record.transactions c.self.inside in
    let may : MayStep f c.args.handle.now c.args.block = rw c.self.view_is c.in_ok-admit.ensures.ok in
    let told = c.in-Ok.ensures.entries ∙ ap₂ (insert_entry nat_eq f.open_handles) c.number-2.ensures c.left-2.ensures in
    rw (← c.self.view_is)
    (spends f c.self.inside.running c.touch_write.new.self c.args.handle.now c.pay.new.self c.number.result c.left.result c.args.block (Write c.args.bytes.now) c.in_ok-touch.touch
    c.insert.new.self.entries refl refl may c.number.ensures c.left.ensures c.in_ok-touch.ensures.ok c.pay.ensures told)

-- the credits held stay the same
pub invariant_of-self-2 : goal.invariant_of-self-2
invariant_of-self-2 g c =
    let f = front_of g.R.Record.transactions c.self.inside in
    let may : MayStep f c.args.handle.now c.args.block = rw c.self.view_is c.in_ok-admit.ensures.ok in
    let told = c.in-Ok.ensures.entries ∙ ap₂ (insert_entry nat_eq f.open_handles) c.number-2.ensures c.left-2.ensures in
    let step =
    wrote f c.self.inside.running c.touch_write.new.self c.args.handle.now c.pay.new.self c.number.result c.left.result c.args.block (Write c.args.bytes.now) c.in_ok-touch.touch
    c.insert.new.self.entries refl refl may c.number.ensures c.left.ensures c.in_ok-touch.ensures.ok c.pay.ensures told _ refl (rw (← c.self.view_is) at c.requires) in
    let event = WriteBlock c.args.handle.now.number c.args.block c.args.bytes.now in
    record {
      front = is-front f _ event step c.self.invariant.front;
      held_are = c.self.invariant.held_are ∙ sym (event-held f _ event step);
      committing_are =
          subst (λ (t : OpenTransaction). AreCommitting (g.R.Record.transactions c.self.inside.sealed) c.self.inside.finished t.transaction.tid t.committing)
          (sym c.in_ok-touch.ensures.ok.noted) c.self.invariant.committing_are;
      room = λ joined.
          c.self.invariant.room
          (subst (λ (js : List ℕ). 0 < length js)
          (same-handles f c.self.inside.running c.touch_write.new.self c.args.handle.now c.pay.new.self c.number.result c.left.result c.args.block (Write c.args.bytes.now)
          c.in_ok-touch.touch c.insert.new.self.entries refl refl may c.number.ensures c.left.ensures c.in_ok-touch.ensures.ok c.pay.ensures told)
          joined);
    }
