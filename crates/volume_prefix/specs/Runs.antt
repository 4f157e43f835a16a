-- Runs whose handles come one at a time, and whose work their record is.
use Rattle.std.specs.Prelude.{◌≡◌, ⊤, ℕ, List, [], ◌∷◌, ◌++◌, map, All}
use Rattle.journal_model.specs.declared.transaction.Step.{Step}
use Rattle.journal_world.specs.Front.{Front, handles_of, transactions}
use Rattle.journal_world.specs.Front.FrontEvent.{Join}
use Rattle.journal_world.specs.Journal.Event.{FrontStep}
use Rattle.log_epochs.specs.EngineWorld.Move.{AnswerOk}
use Rattle.log_epochs.specs.JournalWorld.{Begins, JournalWorld, Leads, Move}
use Rattle.log_epochs.specs.JournalWorld.Move.{Step as StepOf, Answer, Below}
use Rattle.locked_journal.specs.Known.{TicketKnown, own_of_ticket}
use Rattle.locked_journal.specs.Own.{IsOwn}
use Rattle.locked_journal.specs.Run.{block_steps}

-- no handle joins by this move while another one is open
abbrev pub JoinsAlone : Move → Front → Type 0
JoinsAlone move f = (n : ℕ) → move ≡ StepOf (FrontStep (Join n)) → f.open_handles ≡ []

-- nor by any of these
abbrev pub OneAtATime : (old : JournalWorld) (moves : List Move) (new : JournalWorld) → Leads old moves new → Type 0
OneAtATime old [] new same = ⊤
OneAtATime old (move ∷ moves) new (mid, first, rest) = JoinsAlone move old.told.front × OneAtATime mid moves new rest

-- A run from the beginning of a life, in which handles join one at a time.
pub record RunsOneAtATime (start : JournalWorld) (moves : List Move) (end : JournalWorld) : Type 0 where
  pub begins : Begins start
  pub leads : Leads start moves end
  pub single : OneAtATime start moves end leads

-- The record is the work of these tickets' handles, in the order in which they joined, and of the handles that are open. Each ticket knows
-- the transaction and the steps of its handle.
pub record IsWorkOf (f : Front) (tickets : List TicketKnown) : Type 0 where
  pub joined : handles_of (transactions f) ≡ map (λ k. k.ticket.handle) tickets ++ map (λ h. h.0) f.open_handles
  pub known : All (λ k. IsOwn f (own_of_ticket k)) tickets

-- the number, the transaction and the steps of each ticket's handle
abbrev pub works : List TicketKnown → List (ℕ × ℕ × List Step)
works tickets = map (λ k. (k.ticket.handle, k.ticket.tid, k.steps)) tickets

-- the steps of a record after this move: an opening that answers Ok begins a new record
abbrev pub after_move : List Step → Move → List Step
after_move steps (StepOf event) = steps ++ block_steps event
after_move steps (Answer tid) = steps
after_move steps (Below AnswerOk) = []
after_move steps (Below move) = steps

-- and after these
abbrev pub recorded : List Step → List Move → List Step
recorded steps [] = steps
recorded steps (move ∷ moves) = recorded (after_move steps move) moves
