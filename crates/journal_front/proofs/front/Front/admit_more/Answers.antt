use Rattle.std.proofs.Common.{sym, ◌∙◌}
use Rattle.std.proofs.lemmas.Bool.{true≢false}
use Rattle.journal_front.specs.Front.ExtendRefused.{ExtendAborted, ExtendLocked, ExtendUngranted, ExtendUnopened}
use Rattle.journal_front.proofs.front.Front.admit_more.Goals as goal

pub returns-then-self-clause-err : goal.returns-then-self-clause-err
returns-then-self-clause-err g c = rw (← c.self.view_is) (ExtendAborted c.if-self.true)

pub returns-then-is_locked-clause-err : goal.returns-then-is_locked-clause-err
returns-then-is_locked-clause-err g c =
    let locked = rw (← c.self.view_is) at c.is_locked.ensures in
    rw (← c.self.view_is) (ExtendLocked c.if-self.false (sym locked ∙ c.if-is_locked.true))

pub returns-then-self-n-clause-err : goal.returns-then-self-n-clause-err
returns-then-self-n-clause-err g c =
    let locked = rw (← c.self.view_is) at c.is_locked.ensures in
    rw (← c.self.view_is) (ExtendUngranted c.if-self.false (sym locked ∙ c.if-is_locked.false) c.if-self-n.true)

pub returns-else-is_open-clause-err : goal.returns-else-is_open-clause-err
returns-else-is_open-clause-err g c =
    let locked = rw (← c.self.view_is) at c.is_locked.ensures in
    let known = rw (← c.self.view_is) at c.is_open.ensures in
    rw (← c.self.view_is)
    (ExtendUnopened c.if-self.false (sym locked ∙ c.if-is_locked.false) (λ is. true≢false (sym (known.1 is) ∙ c.if-is_open.false)))
