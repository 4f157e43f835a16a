use Rattle.std.proofs.Common.{sym, ◌∙◌}
use Rattle.std.proofs.lemmas.Bool.{true≢false}
use Rattle.journal_front.specs.Front.{IsOpenHandle, MayTouch}
use Rattle.journal_front.specs.Front.IsKeptOut.{NotOpen, OutOfHome, WhileAborted}
use Rattle.journal_front.proofs.front.Front.admit.Goals as goal

pub returns-then-self-clause-err : goal.returns-then-self-clause-err
returns-then-self-clause-err g c = rw (← c.self.view_is) (WhileAborted c.if-self.true)

pub returns-then-not-may_touch-clause-err : goal.returns-then-not-may_touch-clause-err
returns-then-not-may_touch-clause-err g c =
    OutOfHome (rw (← c.self.view_is) c.if-self.false)
    (λ (may : MayTouch c.args.self.now c.args.block). true≢false (sym (c.may_touch.ensures.1 may) ∙ c.if-not-may_touch.true))

pub returns-then-not-is_open-clause-err : goal.returns-then-not-is_open-clause-err
returns-then-not-is_open-clause-err g c =
    NotOpen (rw (← c.self.view_is) c.if-self.false) (c.may_touch.ensures.0 c.if-not-may_touch.false)
    (λ (is : IsOpenHandle c.args.self.now c.args.handle.now). true≢false (sym (c.is_open.ensures.1 is) ∙ c.if-not-is_open.true))

pub returns-clause-ok : goal.returns-clause-ok
returns-clause-ok g c = record {
  running = rw (← c.self.view_is) c.if-self.false;
  allowed = c.may_touch.ensures.0 c.if-not-may_touch.false;
  open_handle = c.is_open.ensures.0 c.if-not-is_open.false;
}
