-- The front as contracts see it, and why its calls are refused.
use Rattle.std.specs.Prelude.{◌≡◌, ◌≢◌, ℕ, ◌+◌, ◌-◌, ◌^◌, ◌<◌, ◌≤◌, nat_eq, true, false, length, Some}
use Rattle.std.specs.List.{AllByRecursion}
use Rattle.std.specs.Map.{lookup}
use Rattle.journal_model.specs.declared.refusal.JournalError.{JournalError}
use Rattle.journal_model.specs.declared.refusal.JournalError.TheVariants.{Aborted, BadBlock, Full, Memory, NoCredit, NotRunning, SequenceEnd, TooMany}
use Rattle.journal_model.specs.Block.{IsAllowedBlock}
use Rattle.journal_model.specs.Layout.{IsLayout}
use Rattle.log_model.specs.Opening.{greatest_number}
use Rattle.journal_world.specs.Front.{Front, FrontHappens, IsFirstTouch, MayJoin, held, next_handle}
use Rattle.journal_world.specs.Front.FrontEvent.{Lock, StopHandle}
use Rattle.journal_front.specs.Values.{HandleValue}

-- a front's invariant: at most `capacity` credits are held, each open handle's number was given out, handle and transaction numbers are
-- within their limits, and a locked transaction has a handle
pub record IsFront (f : Front) : Type 0 where
  pub layout : IsLayout f.layout
  pub credits : held f ≤ f.capacity
  pub numbers : AllByRecursion (λ h. h.0 ≤ f.given) f.open_handles
  pub given : f.given < 2 ^ 64
  pub joined : f.locked ≡ true → 0 < length f.running.handles
  pub number : f.running.tid ≤ greatest_number + 1

-- the handle is open, in the running transaction, with the credits that it states
pub record IsOpenHandle (f : Front) (h : HandleValue) : Type 0 where
  pub left : lookup (nat_eq h.number) f.open_handles ≡ Some h.left
  pub transaction : h.tid ≡ f.running.tid

-- one open handle, whoever holds it, has stopped
pub record StopsOne (old new : Front) : Type 0 where
  pub handle : ℕ
  pub stops : FrontHappens old (StopHandle handle) new
  pub fewer : length new.open_handles < length old.open_handles

-- home has the block, and the log can hold its number
abbrev pub MayTouch : Front → ℕ → Type 0
MayTouch f b = IsAllowedBlock f.layout f.home_blocks b

-- why credits are not granted
pub data ReserveRefused (f : Front) (n : ℕ) : JournalError → Type 0 where
  BeyondCapacity : f.capacity < n → ReserveRefused f n TooMany
  BeyondFree : n ≤ f.capacity → f.capacity < held f + n → ReserveRefused f n Full

-- why a handle may not join with n credits; memory runs out only if it may
pub data JoinRefused (f : Front) (n : ℕ) : JournalError → Type 0 where
  IsAborted : f.aborted ≡ true → JoinRefused f n Aborted
  IsLocked : f.aborted ≡ false → f.locked ≡ true → JoinRefused f n NotRunning
  NoNumber : f.aborted ≡ false → f.locked ≡ false → greatest_number < f.running.tid → JoinRefused f n SequenceEnd
  NoHandle : f.aborted ≡ false → f.locked ≡ false → 2 ^ 64 ≤ next_handle f → JoinRefused f n SequenceEnd
  NotGranted : f.aborted ≡ false → MayJoin f → f.reserved < n → JoinRefused f n NoCredit
  NoMemory : f.aborted ≡ false → MayJoin f → n ≤ f.reserved → JoinRefused f n Memory

-- an open handle may get n further credits
pub record MayExtend (f : Front) (h : HandleValue) (n : ℕ) : Type 0 where
  pub running : f.aborted ≡ false
  pub unlocked : f.locked ≡ false
  pub granted : n ≤ f.reserved
  pub open_handle : IsOpenHandle f h

-- why an open handle may not get n further credits
pub data ExtendRefused (f : Front) (h : HandleValue) (n : ℕ) : JournalError → Type 0 where
  ExtendAborted : f.aborted ≡ true → ExtendRefused f h n Aborted
  ExtendLocked : f.aborted ≡ false → f.locked ≡ true → ExtendRefused f h n NotRunning
  ExtendUngranted : f.aborted ≡ false → f.locked ≡ false → f.reserved < n → ExtendRefused f h n NoCredit
  ExtendUnopened : f.aborted ≡ false → f.locked ≡ false → (IsOpenHandle f h → ⊥) → ExtendRefused f h n NoCredit

-- a handle may make a step on the block, apart from the credit for a first touch
pub record MayStep (f : Front) (h : HandleValue) (b : ℕ) : Type 0 where
  pub running : f.aborted ≡ false
  pub allowed : MayTouch f b
  pub open_handle : IsOpenHandle f h

-- why a handle may make no step on the block
pub data IsKeptOut (f : Front) (h : HandleValue) (b : ℕ) : JournalError → Type 0 where
  WhileAborted : f.aborted ≡ true → IsKeptOut f h b Aborted
  OutOfHome : f.aborted ≡ false → (MayTouch f b → ⊥) → IsKeptOut f h b BadBlock
  NotOpen : f.aborted ≡ false → MayTouch f b → (IsOpenHandle f h → ⊥) → IsKeptOut f h b NoCredit

-- why a handle may not write or revoke the block
pub data TouchRefused (f : Front) (h : HandleValue) (b : ℕ) (e : JournalError) : Type 0 where
  KeptOut : IsKeptOut f h b e → TouchRefused f h b e
  WithoutCredit : MayStep f h b → IsFirstTouch f b → h.left ≡ 0 → e ≡ NoCredit → TouchRefused f h b e
  WithoutMemory : MayStep f h b → (IsFirstTouch f b → 0 < h.left) → e ≡ Memory → TouchRefused f h b e

-- a request locks the transaction with this number, if it is running and a handle has joined it; else nothing changes
pub record RequestsCommit (tid : ℕ) (old new : Front) : Type 0 where
  pub running : old.aborted ≡ false
  pub same : tid ≡ old.running.tid → 0 < length old.running.handles → FrontHappens old Lock new
  pub other : tid ≢ old.running.tid → new ≡ old
  pub empty : length old.running.handles ≡ 0 → new ≡ old

-- a first touch takes one of the handle's credits, a later one none
pub record Spends (f : Front) (b : ℕ) (old new : HandleValue) : Type 0 where
  pub first : IsFirstTouch f b → (0 < old.left) × (new ≡ record old { left = old.left - 1 })
  pub later : (IsFirstTouch f b → ⊥) → new ≡ old
