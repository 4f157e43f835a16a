use Rattle.std.proofs.Common.{◌≤◌, ℕ, subst}
use Rattle.journal_world.specs.Front.{Front}
use Rattle.locked_journal.specs.Own.{IsOwn}
use Rattle.locked_journal.proofs.Confirming.{confirms}
use Rattle.locked_journal.specs.Known.{own_of_ticket, ticket_known}
use Rattle.locked_journal.proofs.exclusive.Exclusive.audit.Goals as goal

-- The record confirms the receipt.
pub returns-clause-stands : goal.returns-clause-stands
returns-clause-stands g c =
    let own = own_of_ticket (ticket_known c.receipt.inside.inner c.receipt.inside.part) in
    rw (← c.self.view_is, ← c.receipt.view_is) (confirms c.self.inside.journal.journal own c.recall_invariant.ensures.agrees
    (subst (λ (f : Front). IsOwn f own) c.front-front.ensures (c.look.ensures.agrees own c.receipt.invariant))
    (subst (λ (n : ℕ). own.tid ≤ n) c.self.invariant.0.mark c.confirm.ensures.reached))

-- The record is legal if device reads were correct.
pub returns-clause-legal : goal.returns-clause-legal
returns-clause-legal g c = rw (← c.self.view_is) c.recall_invariant.ensures.legal
