use Rattle.std.proofs.Common.{refl, sym, ap₂, ℕ, ◌∙◌, ◌≡◌}
use Rattle.group_commit.specs.Values.{TicketValue}
use Rattle.group_commit.proofs.journal.Journal+D+R.wait.Goals as goal

pub returns-then-is_aborted-clause-err : goal.returns-then-is_aborted-clause-err
returns-then-is_aborted-clause-err g c = rw (← c.self.view_is) (refl, refl, sym c.is_aborted.ensures ∙ c.if-is_aborted.true)

-- the receipt has the ticket's handle and transaction
pub returns-clause-ok : goal.returns-clause-ok
returns-clause-ok g c =
    let made = λ (h t : ℕ). let receipt : TicketValue = record { handle = h; tid = t } in receipt in
    let new = c.new.ensures in
    let handle : c.new.result.handle ≡ c.args.ticket.handle = cc in
    let tid : c.new.result.tid ≡ c.args.ticket.tid = cc in
    rw (← c.self.view_is) (ap₂ made handle tid, sym c.is_aborted.ensures ∙ c.if-is_aborted.false)
