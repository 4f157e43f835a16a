use Rattle.std.proofs.Common.{◌≡◌, ◌+◌, ◌-◌, ℕ, List, Some, sym, ap, ap₂, subst, ◌∙◌, arith, nat_eq}
use Rattle.std.specs.Map.{lookup}
use Rattle.indexmap.specs.IndexMap.{insert_entry}
use Rattle.journal_world.specs.Front.{Front}
use Rattle.journal_world.specs.Front.FrontEvent.{ExtendHandle}
use Rattle.journal_world.proofs.Credits.{event-held}
use Rattle.journal_front.specs.Front.{IsOpenHandle, MayExtend}
use Rattle.journal_front.specs.FrontView.{front_of}
use Rattle.journal_front.specs.Values.{HandleValue}
use Rattle.journal_front.proofs.Holding.{extends, found-inserted, is-front, left-reserved}
use Rattle.journal_front.proofs.front.Front.extend.Goals as goal

-- its credits are held, so they are few enough
pub extend-requires : goal.extend-requires
extend-requires g c =
    let may : MayExtend (front_of g.R.Record.transactions c.self.inside) c.args.handle.now c.args.n = rw c.self.view_is c.in_ok-admit_more.ensures.ok in
    let is = may.open_handle in
    let small = left-reserved (front_of g.R.Record.transactions c.self.inside) c.args.handle.now.number c.args.handle.now.left is.left in
    let held_are = c.self.invariant.held_are in
    let granted = may.granted in
    omega arith

pub returns-clause-ok : goal.returns-clause-ok
returns-clause-ok g c =
    let f = front_of g.R.Record.transactions c.self.inside in
    let may : MayExtend (front_of g.R.Record.transactions c.self.inside) c.args.handle.now c.args.n = rw c.self.view_is c.in_ok-admit_more.ensures.ok in
    let is = may.open_handle in
    let number = c.number.ensures ∙ ap (λ (h : HandleValue). h.number) c.extend.ensures in
    let left = c.left.ensures ∙ ap (λ (h : HandleValue). h.left) c.extend.ensures in
    let told = c.in-Ok.ensures.entries ∙ ap₂ (insert_entry nat_eq f.open_handles) number left in
    rw (← c.self.view_is)
    (extends f c.args.handle.now.number c.args.handle.now.left c.args.n c.insert.new.self.entries may.running
    may.unlocked is.left may.granted told)

pub returns-clause-open : goal.returns-clause-open
returns-clause-open g c =
    let f = front_of g.R.Record.transactions c.self.inside in
    let may : MayExtend (front_of g.R.Record.transactions c.self.inside) c.args.handle.now c.args.n = rw c.self.view_is c.in_ok-admit_more.ensures.ok in
    let is = may.open_handle in
    let number = c.number.ensures ∙ ap (λ (h : HandleValue). h.number) c.extend.ensures in
    let left = c.left.ensures ∙ ap (λ (h : HandleValue). h.left) c.extend.ensures in
    let told = c.in-Ok.ensures.entries ∙ ap₂ (insert_entry nat_eq f.open_handles) number left in
    let n = c.args.handle.now.left + c.args.n in
    let new : Front = record f { reserved = f.reserved - c.args.n; open_handles = c.insert.new.self.entries } in
    let found : lookup (nat_eq c.args.handle.now.number) c.insert.new.self.entries ≡ Some n =
    ap (λ (es : List (ℕ × ℕ)). lookup (nat_eq c.args.handle.now.number) es) told ∙ found-inserted f.open_handles c.args.handle.now.number n in
    subst (IsOpenHandle new) (sym c.extend.ensures) (record { left = found; transaction = is.transaction })

-- the credits held stay the same
pub invariant_of-self : goal.invariant_of-self
invariant_of-self g c =
    let f = front_of g.R.Record.transactions c.self.inside in
    let may : MayExtend (front_of g.R.Record.transactions c.self.inside) c.args.handle.now c.args.n = rw c.self.view_is c.in_ok-admit_more.ensures.ok in
    let is = may.open_handle in
    let number = c.number.ensures ∙ ap (λ (h : HandleValue). h.number) c.extend.ensures in
    let left = c.left.ensures ∙ ap (λ (h : HandleValue). h.left) c.extend.ensures in
    let told = c.in-Ok.ensures.entries ∙ ap₂ (insert_entry nat_eq f.open_handles) number left in
    let step =
    extends f c.args.handle.now.number c.args.handle.now.left c.args.n c.insert.new.self.entries may.running
    may.unlocked is.left may.granted told in
    let event = ExtendHandle c.args.handle.now.number c.args.n in
    record {
      front = is-front f _ event step c.self.invariant.front;
      held_are = c.self.invariant.held_are ∙ sym (event-held f _ event step);
      committing_are = c.self.invariant.committing_are;
      room = c.self.invariant.room;
    }
