-- What the holder of a handle, ticket or receipt knows of a front's record.
use Rattle.std.specs.Prelude.{◌≡◌, ◌≢◌, ⊤, ℕ, ◌+◌, ◌<◌, nat_eq, true, List, ◌∷◌, ◌++◌, length, filter, count_by, Option, Some, None, Contains}
use Rattle.std.specs.Map.{lookup}
use Rattle.journal_model.specs.declared.transaction.Step.{Step}
use Rattle.journal_model.specs.Record.{steps_of}
use Rattle.journal_model.specs.Transaction.{History, Transaction}
use Rattle.journal_world.specs.Front.{Front, handles_of, transactions}
use Rattle.journal_front.specs.Values.{HandleValue}
use Rattle.locked_journal.specs.declared.own.HandleStage.{HandleStage}
use Rattle.locked_journal.specs.declared.own.HandleStage.TheVariants.{Open, Stopped, Asked}
use Rattle.locked_journal.specs.declared.own.OwnSteps.{OwnSteps}

-- The steps of handle n among these, in order.
abbrev pub steps_by : ℕ → List Step → List Step
steps_by n ss = filter (λ s. nat_eq n s.handle) ss

-- The handle joined this transaction of the record, with exactly these steps in it. Numbers go up by one, so the transactions after it are
-- as many as its number is below the running one's.
pub record Stands (f : Front) (own : OwnSteps) : Type 0 where
  pub before : History
  pub transaction : Transaction
  pub behind : History
  pub among : transactions f ≡ before ++ transaction ∷ behind
  pub number : transaction.tid ≡ own.tid
  pub place : own.tid + length behind ≡ f.running.tid
  pub joined : Contains transaction.handles own.number
  pub steps : steps_by own.number transaction.steps ≡ own.steps

-- The credits that an open handle has left.
abbrev pub credits_of : HandleStage → Option ℕ
credits_of (Open left) = Some left
credits_of Stopped = None
credits_of Asked = None

-- An open handle's transaction is the running one; one whose commit was requested takes no further handles.
abbrev pub StageHolds : Front → ℕ → HandleStage → Type 0
StageHolds f tid (Open left) = tid ≡ f.running.tid
StageHolds f tid Stopped = ⊤
StageHolds f tid Asked = tid ≡ f.running.tid → f.locked ≡ true

-- The record has the handle with these steps; it is open with exactly these credits left, or no handle of its number is open.
pub record IsOwn (f : Front) (own : OwnSteps) : Type 0 where
  pub stands : Stands f own
  pub credits : lookup (nat_eq own.number) f.open_handles ≡ credits_of own.stage
  pub stage : StageHolds f own.tid own.stage

-- No two holders have one handle.
abbrev pub AreApart : OwnSteps → OwnSteps → Type 0
AreApart one other = one.number ≢ other.number

-- What an open handle's holder knows.
abbrev pub open_own : HandleValue → List Step → OwnSteps
open_own handle steps = record { number = handle.number; tid = handle.tid; steps = steps; stage = Open handle.left }

-- What its ticket or receipt knows once it has stopped.
abbrev pub stopped_own : (handle tid : ℕ) → List Step → OwnSteps
stopped_own handle tid steps = record { number = handle; tid = tid; steps = steps; stage = Stopped }

-- What its ticket knows once it has requested a commit.
abbrev pub asked_own : (handle tid : ℕ) → List Step → OwnSteps
asked_own handle tid steps = record { number = handle; tid = tid; steps = steps; stage = Asked }

-- A record with this many committed transactions confirms a receipt: the handle is recorded once, in the committed transaction of that
-- number. Its steps are exactly these, in order, in that transaction and in the whole record.
pub record Confirms (committed : ℕ) (ts : History) (own : OwnSteps) : Type 0 where
  pub before : History
  pub transaction : Transaction
  pub behind : History
  pub among : ts ≡ before ++ transaction ∷ behind
  pub number : transaction.tid ≡ own.tid
  pub committed_is : length before < committed
  pub joined : Contains transaction.handles own.number
  pub once : count_by (nat_eq own.number) (handles_of ts) ≡ 1
  pub steps : steps_by own.number transaction.steps ≡ own.steps
  pub all : steps_by own.number (steps_of ts) ≡ own.steps
