-- A transaction until its seal, as contracts see it, and what each step makes of it.
-- Source: journalling.rst (handles and their credits), fs/jbd2/transaction.c by behaviour.
use Rattle.std.specs.Prelude.{◌≡◌, ℕ, ◌≤◌, Bool, true, false, List, [], ◌∷◌, ◌++◌, Option, Some, None}
use Rattle.journal_model.specs.declared.entry.Batch.{Batch}
use Rattle.journal_model.specs.declared.entry.Entry.{Entry}
use Rattle.journal_model.specs.declared.refusal.JournalError.{JournalError}
use Rattle.journal_model.specs.declared.refusal.JournalError.TheVariants.{Memory, NoCredit}
use Rattle.journal_model.specs.declared.transaction.Op.TheVariants.{Write, Revoke}
use Rattle.journal_model.specs.declared.transaction.Step.{Step}
use Rattle.journal_model.specs.Transaction.{Transaction, effect, entries}
use Rattle.journal_front.specs.declared.transaction.Touch.{Touch}
use Rattle.journal_front.specs.declared.transaction.Touch.TheVariants.{First, Later}

pub record OpenTransaction : Type 0 where
  pub transaction : Transaction  -- its number, the handles that joined it, and their steps so far
  pub locked : Bool  -- it takes no further handles
  pub reserved : Bool  -- there is room for one more step
  pub committing : List (ℕ × Entry)  -- the entries of the transaction before it, while that is being committed

-- a running transaction without handles, and the entries of its predecessor while that is being committed
abbrev pub begun : ℕ → List (ℕ × Entry) → OpenTransaction
begun tid before =
    record { transaction = record { tid = tid; handles = []; steps = [] }; locked = false; reserved = false; committing = before }

-- one more handle joins
abbrev pub joined_by : OpenTransaction → ℕ → OpenTransaction
joined_by t h = record t { transaction = record t.transaction { handles = t.transaction.handles ++ h ∷ [] } }

abbrev pub locking : OpenTransaction → OpenTransaction
locking t = record t { locked = true }

abbrev pub reserving : OpenTransaction → OpenTransaction
reserving t = record t { reserved = true }

-- its predecessor is finished
abbrev pub finishing : OpenTransaction → OpenTransaction
finishing t = record t { committing = [] }

-- one more step is made, which takes the room reserved for it
abbrev pub noting : OpenTransaction → Step → OpenTransaction
noting t s = record t { transaction = record t.transaction { steps = t.transaction.steps ++ s ∷ [] }; reserved = false }

-- handle h writes these bytes to block b
abbrev pub write_step : ℕ → ℕ → List ℕ → Step
write_step h b v = record { handle = h; block = b; op = Write v }

-- handle h revokes block b
abbrev pub revoke_step : ℕ → ℕ → Step
revoke_step h b = record { handle = h; block = b; op = Revoke }

-- which touch of a block this is, if the steps so far have this effect on it
abbrev pub touch_of : Option Entry → Touch
touch_of None = First
touch_of (Some e) = Later

-- the credits that a touch costs its handle
abbrev pub cost : Touch → ℕ
cost First = 1
cost Later = 0

-- a handle with this many credits left may touch block b, and this is the touch
pub record MayTouch (t : OpenTransaction) (left b : ℕ) (touch : Touch) : Type 0 where
  pub touch_is : touch ≡ touch_of (effect b t.transaction.steps)
  pub paid : cost touch ≤ left

-- it may not: the touch would be the block's first, and no credit is left
pub record LacksCredit (t : OpenTransaction) (left b : ℕ) (e : JournalError) : Type 0 where
  pub first : effect b t.transaction.steps ≡ None
  pub none_left : left ≡ 0
  pub refusal : e ≡ NoCredit

-- a handle with this many credits left makes a step that touches its block
pub record Touches (old : OpenTransaction) (left : ℕ) (s : Step) (touch : Touch) (new : OpenTransaction) : Type 0 where
  pub may : MayTouch old left s.block touch
  pub noted : new ≡ noting old s

-- why such a touch of block b is refused
pub data TouchRefused (old : OpenTransaction) (left b : ℕ) (e : JournalError) : Type 0 where
  WithoutCredit : LacksCredit old left b e → TouchRefused old left b e
  WithoutMemory : cost (touch_of (effect b old.transaction.steps)) ≤ left → e ≡ Memory → TouchRefused old left b e

-- the batch that is written to the log
abbrev pub batch_of : Transaction → Batch
batch_of t = record { tid = t.tid; entries = entries t.steps }
