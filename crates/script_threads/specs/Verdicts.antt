-- The journal's answers to clients, its parts, and when each verdict is right.
use Rattle.std.specs.Prelude.{◌≡◌, ◌↔◌, ◌+◌, ◌<◌, ◌≤◌, ⊤, ℕ, Bool, true, false, IsTrue, List, [], Option, Some, None, All, Contains, IfSome, length, slice_index_or, take, Vec}
use Rattle.std.specs.Global.{Global}
use Rattle.journal_model.specs.declared.number.Area.TheVariants.{Home}
use Rattle.journal_model.specs.declared.refusal.JournalError.{JournalError}
use Rattle.journal_model.specs.Disk.{reading}
use Rattle.journal_model.specs.Transaction.{History}
use Rattle.log_model.specs.Opening.{numbered_below, IsRefused as IsRefusedImage}
use Rattle.block_device.specs.Memory.{MemState, state_of}
use Rattle.journal_script.specs.declared.script.NamedBlocks.{NamedBlocks}
use Rattle.script_run.specs.declared.opening.OpenedImage.{OpenedImage}
use Rattle.script_run.specs.Left.{IsCrashOf}
use Rattle.script_run.specs.OpenedImages.{IsOpenedImage}
use Rattle.script_run.specs.Verdict.{IsRight}
use Rattle.journal_model.specs.declared.transaction.Sealed.{Sealed}
use Rattle.script_threads.specs.declared.told.ToldHandle.{ToldHandle}
use Rattle.script_threads.specs.declared.told.ToldReceipt.{ToldReceipt}
use Rattle.script_threads.specs.declared.verdicts.Verdicts.{Verdicts}

-- The credit word is the number of entries, and within the capacity.
pub record AreCreditsRight (word entries capacity : ℕ) : Type 0 where
  pub counted : word ≡ entries
  pub within : word ≤ capacity

-- The transaction is the receipt's, and has its handle.
pub record IsReceiptOf (transaction : Sealed) (receipt : ToldReceipt) : Type 0 where
  pub tid : transaction.tid ≡ receipt.tid
  pub handle : Contains transaction.handles receipt.handle

-- One of these transactions is the receipt's, and has its handle.
pub record StandsIn (transactions : List Sealed) (receipt : ToldReceipt) : Type 0 where
  pub transaction : Sealed
  pub one : Contains transactions transaction
  pub of_it : IsReceiptOf transaction receipt

-- The same of a handle's receipt, if it has one.
abbrev pub HasReceiptIn : List Sealed → Option ToldReceipt → Type 0
HasReceiptIn transactions None = ⊤
HasReceiptIn transactions (Some receipt) = StandsIn transactions receipt

-- The handles' transactions never fall.
abbrev pub NeverFall : List ToldHandle → Type 0
NeverFall handles = (k : ℕ) (d e : ToldHandle) → k + 1 < length handles → (slice_index_or handles k d).tid ≤ (slice_index_or handles (k + 1) e).tid

-- The receipt's transaction, if there is a receipt, is at most `greatest`.
abbrev pub IsUpTo : Option ℕ → ℕ → Type 0
IsUpTo None tid = ⊥
IsUpTo (Some greatest) tid = tid ≤ greatest

abbrev pub HasReceiptUpTo : Option ℕ → Option ToldReceipt → Type 0
HasReceiptUpTo greatest None = ⊤
HasReceiptUpTo greatest (Some receipt) = IsUpTo greatest receipt.tid

-- For each client, the answers for its handles, in order.
abbrev pub Told : Type 0
Told = List (Vec ToldHandle Global)

-- One of these handles has a receipt of this transaction.
pub record IsOfHandle (handles : List ToldHandle) (tid : ℕ) : Type 0 where
  pub handle : ToldHandle
  pub one : Contains handles handle
  pub receipt : ToldReceipt
  pub has : handle.receipt ≡ Some receipt
  pub tid_is : receipt.tid ≡ tid

-- One of these clients has such a handle.
pub record IsOfClient (clients : Told) (tid : ℕ) : Type 0 where
  pub client : Vec ToldHandle Global
  pub one : Contains clients client
  pub of_it : IsOfHandle client.items tid

-- The crash image was opened and recovered what it must: all up to the named transaction, if there is one, with the named blocks as that
-- leaves them. Or it did not, or was refused for its contents.
pub data IsRecovered (device : MemState) (sealed : History) (shown : Option ℕ) (named : NamedBlocks) (right : Bool) : Type 0 where
  IsOpened : (image : MemState) (opened : OpenedImage) → IsCrashOf device [] image → IsOpenedImage image.shape (state_of image).disk opened →
      (IsTrue right ↔ IsRight sealed shown named (numbered_below opened.report.ends_at sealed) opened.device.shape.block_size (reading (state_of opened.device).disk Home)) →
      IsRecovered device sealed shown named right
  IsRefused : (image : MemState) (e : JournalError) → IsCrashOf device [] image → IsRefusedImage image.shape (reading (state_of image).disk) e → right ≡ false →
      IsRecovered device sealed shown named right

-- The journal's answers to its clients, its tally after they ended, and its parts.
pub record Served : Type 0 where
  pub clients : Told
  pub word : ℕ  -- the credit word
  pub entries : ℕ  -- entries of the unsealed transaction
  pub capacity : ℕ  -- most credits of a transaction
  pub sealed : History
  pub committed : ℕ
  pub device : MemState

-- Each verdict is true exactly if its fact holds.
pub record AreVerdicts (served : Served) (named : NamedBlocks) (v : Verdicts) : Type 0 where
  pub credits : IsTrue v.credits ↔ AreCreditsRight served.word served.entries served.capacity
  pub receipts : IsTrue v.receipts ↔ All (λ c. All (λ h. HasReceiptIn (take served.committed served.sealed) h.receipt) c.items) served.clients
  pub order : IsTrue v.order ↔ All (λ c. NeverFall c.items) served.clients
  pub shown : Option ℕ
  pub greatest : All (λ c. All (λ h. HasReceiptUpTo shown h.receipt) c.items) served.clients
  pub some : IfSome shown (IsOfClient served.clients)
  pub recovery : IsRecovered served.device served.sealed shown named v.recovery

-- All four are true.
pub record AreAllTrue (v : Verdicts) : Type 0 where
  pub credits : v.credits ≡ true
  pub receipts : v.receipts ≡ true
  pub order : v.order ≡ true
  pub recovery : v.recovery ≡ true
