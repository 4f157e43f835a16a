-- What the proofs say of the order of steps and of tickets.
use Rattle.std.specs.Prelude.{◌≡◌, ◌≤◌, ◌<◌, ◌+◌, ⊤, ℕ, cond, nat_eq, List, [], ◌∷◌, ◌++◌, filter, map, take, Contains}
use Rattle.std.specs.List.{AllByRecursion}
use Rattle.journal_model.specs.declared.transaction.Step.{Step}
use Rattle.journal_model.specs.Record.{steps_of}
use Rattle.journal_model.specs.Transaction.{AreNumbered, History, Transaction}
use Rattle.journal_world.specs.Front.{Front, transactions}
use Rattle.locked_journal.specs.Known.{TicketKnown}
use Rattle.locked_journal.specs.Own.{steps_by}
use Rattle.volume_prefix.specs.Changes.{steps_in}

-- the numbers of these tickets' handles
abbrev pub numbers : List TicketKnown → List ℕ
numbers ks = map (λ k. k.ticket.handle) ks

-- from this handle on, the handles of the steps never fall
abbrev pub AreInOrder : ℕ → List Step → Type 0
AreInOrder least [] = ⊤
AreInOrder least (s ∷ ss) = (least ≤ s.handle) × AreInOrder s.handle ss

-- the numbers of these tickets' handles rise
abbrev pub AreRising : ℕ → List TicketKnown → Type 0
AreRising least [] = ⊤
AreRising least (k ∷ ks) = (least < k.ticket.handle) × AreRising k.ticket.handle ks

-- from this number on, the numbers of the tickets' transactions never fall
abbrev pub NeverFall : ℕ → List TicketKnown → Type 0
NeverFall least [] = ⊤
NeverFall least (k ∷ ks) = (least ≤ k.ticket.tid) × NeverFall k.ticket.tid ks

-- The record goes from handle to handle: no step of an earlier one stands after a step of a later one. Only the last one may be open.
pub record KeepsOrder (f : Front) : Type 0 where
  pub order : AreInOrder 0 (steps_of (transactions f))
  pub most : AllByRecursion (λ s. s.handle ≤ f.given) (steps_of (transactions f))
  pub last : AllByRecursion (λ h. h.0 ≡ f.given) f.open_handles

-- the tickets of one transaction
abbrev pub of_transaction : ℕ → List TicketKnown → List TicketKnown
of_transaction tid tickets = filter (λ k. nat_eq k.ticket.tid tid) tickets

-- the transaction has the steps of the tickets of its number and no others, one handle after another
abbrev pub IsOfTheirs : List TicketKnown → Transaction → Type 0
IsOfTheirs tickets t = t.steps ≡ steps_in (of_transaction t.tid tickets)

-- a history is the work of these tickets' handles alone, one after another
pub record AreOf (first : ℕ) (ts : History) (tickets : List TicketKnown) : Type 0 where
  pub numbered : AreNumbered first ts
  pub ordered : NeverFall first tickets
  pub made : AllByRecursion (IsOfTheirs tickets) ts

-- the first n transactions have the steps of the first tickets, in order; the others' transactions are later ones
pub record IsCut (first n : ℕ) (ts : History) (tickets : List TicketKnown) : Type 0 where
  pub done : List TicketKnown
  pub rest : List TicketKnown
  pub whole : tickets ≡ done ++ rest
  pub steps : steps_of (take n ts) ≡ steps_in done
  pub before : AllByRecursion (λ k. k.ticket.tid < first + n) done
  pub lost : NeverFall (first + n) rest

-- the handle's steps in this transaction: its own, if it is of this one, and else none
abbrev pub StandsIn : Transaction → TicketKnown → Type 0
StandsIn t k = steps_by k.ticket.handle t.steps ≡ cond (nat_eq k.ticket.tid t.tid) k.steps []

-- these tickets' handles, and no others, made the transaction's steps
pub record IsOfAll (tickets : List TicketKnown) (t : Transaction) : Type 0 where
  pub own : AllByRecursion (λ s. Contains (numbers tickets) s.handle) t.steps
  pub each : AllByRecursion (StandsIn t) tickets
