-- What a client's calls change in it, and what it notes of an answer.
use Rattle.std.specs.Prelude.{◌≡◌, ◌<◌, ◌≤◌, ℕ, true, false, List, Option, None}
use Rattle.journal_model.specs.declared.refusal.JournalError.{JournalError}
use Rattle.journal_model.specs.declared.refusal.JournalError.TheVariants.{Aborted}
use Rattle.journal_model.specs.Transaction.{History}
use Rattle.block_device.specs.State.{DeviceState}
use Rattle.journal_world.specs.Front.{Front, next_handle}
use Rattle.journal_world.specs.Journal.{IsFresh}
use Rattle.journal_front.specs.Values.{HandleValue}
use Rattle.recovery.specs.Values.{OpenedValue}
use Rattle.journal_model.specs.declared.status.Status.{Status}
use Rattle.journal_model.specs.declared.status.Status.TheVariants.{Committed as IsCommitted, Open as IsOpen}
use Rattle.group_commit.specs.Values.{TicketValue}
use Rattle.journal_script.specs.declared.script.Operation.{Operation}
use Rattle.script_client.specs.declared.client.Waited.{Waited}
use Rattle.script_client.specs.declared.client.Waited.TheVariants.{Committed, Open, Refused}
use Rattle.script_client.specs.Told.{ClientValue, with_told}

-- a client of a new journal on an opened log: it is to perform these operations, and nothing was acknowledged
pub record IsNewClient {D : Type 0} (state : D → DeviceState) (opened : OpenedValue D) (operations : List Operation) (client : ClientValue D) : Type 0 where
  pub fresh : IsFresh (state opened.device).shape opened.superblock opened.next client.journal.journal
  pub device : client.journal.device ≡ opened.device
  pub operations_are : client.operations ≡ operations
  pub shown : client.shown ≡ None

-- only the journal may have changed
abbrev pub IsSameButJournal : {D : Type 0} → ClientValue D → ClientValue D → Type 0
IsSameButJournal old new = new ≡ record old { journal = new.journal }

-- what is left of a client: its journal's device, the sealed transactions, and the greatest acknowledged one
pub record IsLeftOf {D : Type 0} (client : ClientValue D) (device : D) (sealed : History) (shown : Option ℕ) : Type 0 where
  pub device_is : device ≡ client.journal.device
  pub sealed_is : sealed ≡ client.journal.journal.front.sealed
  pub shown_is : shown ≡ client.shown

-- the next handle to join, with these credits
abbrev pub IsNextHandle : Front → ℕ → HandleValue → Type 0
IsNextHandle f credits handle = handle ≡ record { number = next_handle f; tid = f.running.tid; left = credits }

-- the ticket of a stopped handle
abbrev pub ticket_of : HandleValue → TicketValue
ticket_of handle = record { handle = handle.number; tid = handle.tid }

-- the device has failed
abbrev pub IsRefusedAborted : {D : Type 0} → ClientValue D → JournalError → Type 0
IsRefusedAborted client e = (e ≡ Aborted) × (client.journal.journal.front.aborted ≡ true)

-- a transaction that a status shows committed is noted
abbrev pub IsShown : {D : Type 0} → Status → (tid : ℕ) → ClientValue D → ClientValue D → Type 0
IsShown IsCommitted tid old new = new ≡ record old { shown = with_told tid old.shown }
IsShown IsOpen tid old new = new ≡ old

-- a receipt is taken: the transaction is committed and noted, and the front knows of no device failure
abbrev pub IsReceiptTaken : {D : Type 0} → TicketValue → ClientValue D → ClientValue D → Type 0
IsReceiptTaken ticket old new =
    (ticket.tid ≤ old.journal.journal.front.mark) × (old.journal.journal.front.aborted ≡ false) × (new ≡ record old { shown = with_told ticket.tid old.shown })

-- the outcome of a wait; the ticket comes back if the transaction is open or the device has failed
abbrev pub IsWaited : {D : Type 0} → Waited → TicketValue → ClientValue D → ClientValue D → Type 0
IsWaited (Committed receipt) ticket old new = (receipt ≡ ticket) × IsReceiptTaken ticket old new
IsWaited (Open same) ticket old new = (same ≡ ticket) × (old.journal.journal.front.mark < ticket.tid) × (new ≡ old)
IsWaited (Refused same e) ticket old new =
    (same ≡ ticket) × (ticket.tid ≤ old.journal.journal.front.mark) × IsRefusedAborted old e × (new ≡ old)
