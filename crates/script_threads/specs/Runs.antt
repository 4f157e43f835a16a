-- The result of running the clients of a script in threads.
use Rattle.std.specs.Prelude.{◌≡◌, ⊤, ℕ, Bool, true, false, List, [], Option, Some, None, All, Vec}
use Rattle.std.specs.BTreeSet.{keys}
use Rattle.std.specs.Global.{Global}
use Rattle.std.specs.List.{AllZip}
use Rattle.journal_model.specs.declared.transaction.Step.{Step}
use Rattle.journal_model.specs.Transaction.{History}
use Rattle.block_device.specs.Memory.{state_of}
use Rattle.handle.specs.Name.{JournalId}
use Rattle.locked_journal.specs.Own.{Confirms, stopped_own}
use Rattle.journal_script.specs.Clients.{HasTouchedAll, IsClientScriptOf, handles_of}
use Rattle.journal_script.specs.declared.clients.ClientHandle.{ClientHandle}
use Rattle.journal_script.specs.declared.clients.ClientScript.{ClientScript}
use Rattle.journal_script.specs.declared.script.NamedBlocks.{NamedBlocks}
use Rattle.locked_journal.specs.Known.{TicketKnown}
use Rattle.volume_service.specs.Ending.{IsLeftWith}
use Rattle.volume_service.specs.Plan.{planned_steps}
use Rattle.volume_service.specs.declared.plan.HandlePlan.{HandlePlan}
use Rattle.script_threads.specs.Plans.{script_steps}
use Rattle.script_threads.specs.Verdicts.{AreAllTrue, AreVerdicts, Served, Told}
use Rattle.script_threads.specs.declared.running.Ended.{Ended}
use Rattle.script_threads.specs.declared.running.Ended.TheVariants.{Judged, Refused}
use Rattle.script_threads.specs.declared.told.ToldHandle.{ToldHandle}
use Rattle.script_threads.specs.declared.told.ToldReceipt.{ToldReceipt}
use Rattle.script_threads.specs.declared.verdicts.Verdicts.{Verdicts}

-- What a receipt names.
abbrev pub named_by : Option TicketKnown → Option ToldReceipt
named_by None = None
named_by (Some r) = Some (record { tid = r.ticket.tid; handle = r.ticket.handle })

-- The answers for a handle of this transaction, with this receipt.
pub record IsTold (tid : ℕ) (receipt : Option TicketKnown) (told : ToldHandle) : Type 0 where
  pub tid_is : told.tid ≡ tid
  pub receipt_is : told.receipt ≡ named_by receipt

-- An awaited handle has a receipt of the transaction that it was told. The record, with this many committed transactions, confirms that the
-- handle made exactly these steps in that transaction. Other handles have no receipt.
pub data WasServed (committed : ℕ) (sealed : History) (waits : Bool) (steps : ℕ → List Step) (told : ToldHandle) : Type 0 where
  Awaited : (r : ToldReceipt) → waits ≡ true → told.receipt ≡ Some r → r.tid ≡ told.tid → Confirms committed sealed (stopped_own r.handle r.tid (steps r.handle)) →
      WasServed committed sealed waits steps told
  Unawaited : waits ≡ false → told.receipt ≡ None → WasServed committed sealed waits steps told

-- Each handle of these plans was served so.
abbrev pub AreServed : ℕ → History → List (Vec HandlePlan Global) → Told → Type 0
AreServed committed sealed plans clients =
    AllZip (λ p ts. AllZip (λ h t. WasServed committed sealed h.waits (λ n. planned_steps n h) t) p.items ts.items) plans clients

-- Each handle of these clients of a script was served so, with this block size.
abbrev pub AreServedOf : ℕ → ℕ → History → List (Vec ClientHandle Global) → Told → Type 0
AreServedOf size committed sealed clients told =
    AllZip (λ c ts. AllZip (λ h t. WasServed committed sealed h.waits (λ n. script_steps size n h) t) c.items ts.items) clients told

-- The clients were served, the journal was left with this credit word and number of entries, and these are the verdicts.
pub record AreJudged (plans : List (Vec HandlePlan Global)) (named : NamedBlocks) (v : Verdicts) : Type 0 where
  pub served : Served
  pub each : AreServed served.committed served.sealed plans served.clients
  pub name : JournalId
  pub left : IsLeftWith state_of (λ d. Unit {0}) name served.device served.sealed served.committed served.word served.entries
  pub verdicts : AreVerdicts served named v

-- Clients were refused something, or these are the verdicts.
abbrev pub IsEndedOn : List (Vec HandlePlan Global) → NamedBlocks → Ended → Type 0
IsEndedOn plans named (Refused clients) = ⊤
IsEndedOn plans named (Judged v) = AreJudged plans named v

-- Each handle was served as the script says. The verdicts are on what the journal told, on what it left, and on each block that the clients
-- touch.
pub record IsRunOf (script : ClientScript) (v : Verdicts) : Type 0 where
  pub served : Served
  pub each : AreServedOf script.measures.block_size served.committed served.sealed script.clients.items served.clients
  pub name : JournalId
  pub left : IsLeftWith state_of (λ d. Unit {0}) name served.device served.sealed served.committed served.word served.entries
  pub named : NamedBlocks
  pub names : All (λ handles. HasTouchedAll handles (keys named.blocks)) (handles_of script)
  pub no_directs : keys named.directs ≡ []
  pub verdicts : AreVerdicts served named v

-- A client was refused something, and nothing is judged; or the script was run.
abbrev pub IsEnded : ClientScript → Ended → Type 0
IsEnded script (Refused clients) = ⊤
IsEnded script (Judged v) = IsRunOf script v

-- The script was run, and all verdicts are true; or one is false.
pub record HasRunRight (script : ClientScript) : Type 0 where
  pub v : Verdicts
  pub run : IsRunOf script v
  pub right : AreAllTrue v

pub record HasRunWrong (script : ClientScript) : Type 0 where
  pub v : Verdicts
  pub run : IsRunOf script v
  pub wrong : ¬ AreAllTrue v

-- The text's script was run, and all verdicts are true; or one is false.
pub record HasServed (text : List ℕ) : Type 0 where
  pub script : ClientScript
  pub of_text : IsClientScriptOf text script
  pub run : HasRunRight script

pub record HasFoundFalse (text : List ℕ) : Type 0 where
  pub script : ClientScript
  pub of_text : IsClientScriptOf text script
  pub run : HasRunWrong script
