-- Tickets and receipts as contracts see them.
use Rattle.std.specs.Prelude.{ℕ, ◌<◌, ◌≤◌}
use Rattle.journal_world.specs.Front.{Front}
use Rattle.journal_model.specs.declared.status.Status.{Status}
use Rattle.journal_model.specs.declared.status.Status.TheVariants.{Committed as IsCommitted, Open}

-- a ticket or a receipt
pub record TicketValue : Type 0 where
  pub handle : ℕ
  pub tid : ℕ

-- the status of a ticket of this transaction
abbrev pub StatusIs : Status → ℕ → Front → Type 0
StatusIs IsCommitted tid f = tid ≤ f.mark
StatusIs Open tid f = f.mark < tid
