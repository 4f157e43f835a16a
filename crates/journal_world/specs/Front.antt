-- The front's state and its steps. No step reads the engine. Callers step on the credit word and the mark without a lock, so such a step
-- may come between any two others.
-- Source: journalling.rst (handles, transactions, credits), fs/jbd2/transaction.c by behaviour.
use Rattle.std.specs.Prelude.{◌≡◌, ℕ, zero, suc, ◌+◌, ◌-◌, ◌^◌, ◌<◌, ◌≤◌, Bool, true, false, if◌then◌else◌, max, List, [], ◌∷◌, ◌++◌, length, drop, is_some, None}
use Rattle.std.specs.List.{flat_map, sum_by}
use Rattle.journal_model.specs.declared.transaction.Op.{Op}
use Rattle.journal_model.specs.declared.transaction.Op.TheVariants.{Write, Revoke, Read}
use Rattle.journal_model.specs.declared.transaction.Step.{Step}
use Rattle.journal_model.specs.Block.{IsAllowedBlock}
use Rattle.journal_model.specs.Layout.{Layout}
use Rattle.log_model.specs.Opening.{greatest_number}
use Rattle.journal_model.specs.Transaction.{History, Transaction, effect, entries, last_effect}

pub record Front : Type 0 where
  pub layout : Layout  -- of the log
  pub home_blocks : ℕ  -- of the device
  pub capacity : ℕ  -- the most credits that may be held
  pub reserved : ℕ  -- credits granted, with no handle yet and not given back
  pub refused : ℕ  -- added to the credit word by refused reserves, not taken back yet
  pub finished : ℕ  -- transactions up to this number are known to be committed
  pub mark : ℕ  -- transactions up to this number are acknowledged
  pub sealed : History  -- since the opening
  pub running : Transaction  -- handles join and write to it until it is sealed
  pub open_handles : List (ℕ × ℕ)  -- its handles that have not stopped, each with its credits left
  pub locked : Bool  -- the running transaction takes no further handles
  pub given : ℕ  -- handle numbers given out
  pub aborted : Bool  -- the front knows that the device has failed

abbrev pub empty_transaction : ℕ → Transaction
empty_transaction tid = record { tid = tid; handles = []; steps = [] }

abbrev pub fresh_front : Layout → ℕ → ℕ → ℕ → Front
fresh_front layout home_blocks capacity first = record {
  layout = layout;
  home_blocks = home_blocks;
  capacity = capacity;
  reserved = 0;
  refused = 0;
  finished = first - 1;
  mark = first - 1;
  sealed = [];
  running = empty_transaction first;
  open_handles = [];
  locked = false;
  given = 0;
  aborted = false;
}

abbrev pub left_in : List (ℕ × ℕ) → ℕ
left_in handles = sum_by (λ h. h.1) handles

-- reserved, left to open handles, and one for each entry of the running transaction
abbrev pub held : Front → ℕ
held f = f.reserved + left_in f.open_handles + length (entries f.running.steps)

-- the credits held, and what refused reserves have not taken back
abbrev pub credit_word : Front → ℕ
credit_word f = held f + f.refused

abbrev pub credits_left : Front → ℕ
credits_left f = f.capacity - credit_word f

abbrev pub next_handle : Front → ℕ
next_handle f = f.given + 1

abbrev pub handles_of : History → List ℕ
handles_of ts = flat_map (λ t. t.handles) ts

-- the numbers 1 to n, in order
abbrev pub handle_numbers : ℕ → List ℕ
handle_numbers zero = []
handle_numbers (suc n) = handle_numbers n ++ suc n ∷ []

-- the transaction is unlocked, and neither its number nor the handle's is too great
pub record MayJoin (f : Front) : Type 0 where
  pub unlocked : f.locked ≡ false
  pub number : f.running.tid ≤ greatest_number
  pub handle : next_handle f < 2 ^ 64

-- the handle is open, with so many credits left, between these others
pub record IsOpen (f : Front) (h : ℕ) : Type 0 where
  pub left : ℕ
  pub before : List (ℕ × ℕ)
  pub behind : List (ℕ × ℕ)
  pub stands : f.open_handles ≡ before ++ (h, left) ∷ behind

abbrev pub write_step : ℕ → ℕ → List ℕ → Step
write_step h b v = record { handle = h; block = b; op = Write v }

abbrev pub revoke_step : ℕ → ℕ → Step
revoke_step h b = record { handle = h; block = b; op = Revoke }

abbrev pub read_step : ℕ → ℕ → List ℕ → Step
read_step h b v = record { handle = h; block = b; op = Read v }

-- the running transaction has no entry of the block, so a touch takes a credit
abbrev pub IsFirstTouch : Front → ℕ → Type 0
IsFirstTouch f b = effect b f.running.steps ≡ None

-- a handle's credits after it touches the block
abbrev pub left_after : Front → ℕ → ℕ → ℕ
left_after f b left = if is_some (effect b f.running.steps) then left else left - 1

-- A step of the front alone. The first six are callers' steps on the credit word and the mark, which need nothing else of the
-- front.
pub data FrontEvent : Type 0 where
  Reserve : (credits : ℕ) → FrontEvent
  RefuseReserve : (credits : ℕ) → FrontEvent
  TakeBack : (credits : ℕ) → FrontEvent
  GiveBack : (credits : ℕ) → FrontEvent
  LoadCredits : (found : ℕ) → FrontEvent
  LoadMark : (found : ℕ) → FrontEvent
  Join : (credits : ℕ) → FrontEvent
  ExtendHandle : (handle credits : ℕ) → FrontEvent
  WriteBlock : (handle block : ℕ) → (bytes : List ℕ) → FrontEvent
  RevokeBlock : (handle block : ℕ) → FrontEvent
  StopHandle : (handle : ℕ) → FrontEvent
  Lock : FrontEvent
  Raise : (tid : ℕ) → FrontEvent

abbrev pub reserving : Front → ℕ → Front
reserving f n = record f { reserved = f.reserved + n }

-- A reserve is granted if the word leaves as many credits.
pub record Reserves (old : Front) (n : ℕ) (new : Front) : Type 0 where
  pub free : n ≤ credits_left old
  pub after : new ≡ reserving old n

abbrev pub refusing : Front → ℕ → Front
refusing f n = record f { refused = f.refused + n }

-- A reserve is refused if the word leaves fewer; its credits stay there until taken back. (A reserve of more than `capacity`
-- touches no word.)
pub record RefusesReserve (old : Front) (n : ℕ) (new : Front) : Type 0 where
  pub possible : n ≤ old.capacity
  pub few : credits_left old < n
  pub after : new ≡ refusing old n

abbrev pub taking_back : Front → ℕ → Front
taking_back f n = record f { refused = f.refused - n }

-- A refused reserve takes back what it added.
pub record TakesBack (old : Front) (n : ℕ) (new : Front) : Type 0 where
  pub refused : n ≤ old.refused
  pub after : new ≡ taking_back old n

abbrev pub giving_back : Front → ℕ → Front
giving_back f n = record f { reserved = f.reserved - n }

-- Reserved credits come back.
pub record GivesBack (old : Front) (n : ℕ) (new : Front) : Type 0 where
  pub granted : n ≤ old.reserved
  pub after : new ≡ giving_back old n

-- A load of the credit word changes nothing.
pub record LoadsCredits (old : Front) (found : ℕ) (new : Front) : Type 0 where
  pub word : found ≡ credit_word old
  pub after : new ≡ old

-- A load of the mark changes nothing.
pub record LoadsMark (old : Front) (found : ℕ) (new : Front) : Type 0 where
  pub mark : found ≡ old.mark
  pub after : new ≡ old

abbrev pub joining : Front → ℕ → Front
joining f n = record f {
  reserved = f.reserved - n;
  running = record f.running { handles = f.running.handles ++ next_handle f ∷ [] };
  open_handles = f.open_handles ++ (next_handle f, n) ∷ [];
  given = next_handle f;
}

-- A handle joins the transaction with reserved credits.
pub record Joins (old : Front) (n : ℕ) (new : Front) : Type 0 where
  pub running : old.aborted ≡ false
  pub may : MayJoin old
  pub credits : n ≤ old.reserved
  pub after : new ≡ joining old n

abbrev pub extending : (f : Front) (h n : ℕ) → IsOpen f h → Front
extending f h n handle = record f {
  reserved = f.reserved - n;
  open_handles = handle.before ++ (h, handle.left + n) ∷ handle.behind;
}

-- An open handle gets more reserved credits while its transaction is unlocked.
pub record ExtendsHandle (old : Front) (h n : ℕ) (new : Front) : Type 0 where
  pub running : old.aborted ≡ false
  pub unlocked : old.locked ≡ false
  pub handle : IsOpen old h
  pub credits : n ≤ old.reserved
  pub after : new ≡ extending old h n handle

-- the front after a touch
abbrev pub touching : (f : Front) (h b : ℕ) (op : Op) → IsOpen f h → Front
touching f h b op handle = record f {
  running = record f.running { steps = f.running.steps ++ record { handle = h; block = b; op = op } ∷ [] };
  open_handles = handle.before ++ (h, left_after f b handle.left) ∷ handle.behind;
}

abbrev pub writing : (f : Front) (h b : ℕ) (v : List ℕ) → IsOpen f h → Front
writing f h b v handle = touching f h b (Write v) handle

abbrev pub revoking : (f : Front) (h b : ℕ) → IsOpen f h → Front
revoking f h b handle = touching f h b Revoke handle

-- An open handle writes an allowed block; the block's first touch takes a credit.
pub record WritesBlock (old : Front) (h b : ℕ) (v : List ℕ) (new : Front) : Type 0 where
  pub running : old.aborted ≡ false
  pub handle : IsOpen old h
  pub credit : IsFirstTouch old b → 0 < handle.left
  pub allowed : IsAllowedBlock old.layout old.home_blocks b
  pub whole : length v ≡ old.layout.block_size
  pub after : new ≡ writing old h b v handle

-- An open handle revokes an allowed block; the block's first touch takes a credit. (A second revoke adds a step and no entry.)
pub record RevokesBlock (old : Front) (h b : ℕ) (new : Front) : Type 0 where
  pub running : old.aborted ≡ false
  pub handle : IsOpen old h
  pub credit : IsFirstTouch old b → 0 < handle.left
  pub allowed : IsAllowedBlock old.layout old.home_blocks b
  pub after : new ≡ revoking old h b handle

abbrev pub stopping : (f : Front) (h : ℕ) → IsOpen f h → Front
stopping f h handle = record f { open_handles = handle.before ++ handle.behind }

-- Nobody holds the credits that the stopped handle had left.
pub record StopsHandle (old : Front) (h : ℕ) (new : Front) : Type 0 where
  pub handle : IsOpen old h
  pub after : new ≡ stopping old h handle

abbrev pub locking : Front → Front
locking f = record f { locked = true }

-- A transaction that some handle has joined takes no more.
pub record Locks (old new : Front) : Type 0 where
  pub running : old.aborted ≡ false
  pub joined : 0 < length old.running.handles
  pub after : new ≡ locking old

abbrev pub raising : Front → ℕ → Front
raising f t = record f { mark = max f.mark t }

-- The mark rises to a finished number.
pub record Raises (old : Front) (t : ℕ) (new : Front) : Type 0 where
  pub finished : t ≤ old.finished
  pub after : new ≡ raising old t

-- the step of each event
abbrev pub FrontHappens : Front → FrontEvent → Front → Type 0
FrontHappens old (Reserve n) new = Reserves old n new
FrontHappens old (RefuseReserve n) new = RefusesReserve old n new
FrontHappens old (TakeBack n) new = TakesBack old n new
FrontHappens old (GiveBack n) new = GivesBack old n new
FrontHappens old (LoadCredits found) new = LoadsCredits old found new
FrontHappens old (LoadMark found) new = LoadsMark old found new
FrontHappens old (Join n) new = Joins old n new
FrontHappens old (ExtendHandle h n) new = ExtendsHandle old h n new
FrontHappens old (WriteBlock h b v) new = WritesBlock old h b v new
FrontHappens old (RevokeBlock h b) new = RevokesBlock old h b new
FrontHappens old (StopHandle h) new = StopsHandle old h new
FrontHappens old Lock new = Locks old new
FrontHappens old (Raise t) new = Raises old t new

-- all transactions since the opening, the running one last
abbrev pub transactions : Front → History
transactions f = f.sealed ++ f.running ∷ []

-- how many transactions the front knows to be committed
abbrev pub finished_count : Front → ℕ
finished_count f = f.finished + 1 + length f.sealed - f.running.tid

-- the others, the running one last
abbrev pub unfinished : Front → History
unfinished f = drop (finished_count f) (transactions f)

-- none of these has an entry of the block
abbrev pub IsUntouched : Front → ℕ → Type 0
IsUntouched f b = last_effect b (unfinished f) ≡ None

-- locked, without open handles, and the one before is finished
pub record MaySeal (f : Front) : Type 0 where
  pub locked : f.locked ≡ true
  pub stopped : f.open_handles ≡ []
  pub finished : f.finished + 1 ≡ f.running.tid

-- the entries of the sealed transaction hold no credits any more
abbrev pub sealing : Front → Front
sealing f = record f {
  sealed = f.sealed ++ f.running ∷ [];
  running = empty_transaction (suc f.running.tid);
  locked = false;
}

-- one more transaction is known to be committed; it is not acknowledged yet
abbrev pub finishing : Front → Front
finishing f = record f { finished = f.finished + 1 }

-- a read takes no credit
abbrev pub reading_block : Front → ℕ → ℕ → List ℕ → Front
reading_block f h b v = record f { running = record f.running { steps = f.running.steps ++ read_step h b v ∷ [] } }

abbrev pub aborting : Front → Front
aborting f = record f { aborted = true }
