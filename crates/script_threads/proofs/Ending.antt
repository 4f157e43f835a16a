-- From the clients' outcomes to how the command ends.
use Rattle.std.proofs.Common.{◌∙◌, sym, ap, subst, arith}
use Rattle.std.proofs.lemmas.Bool.{false≢true}
use Rattle.std.specs.Prelude.{◌≡◌, ℕ, ◌<◌, List, [], Option, Some, None, All, IfNone, IfSome, IsNone, Vec, get_or, length, map}
use Rattle.std.specs.BTreeSet.{keys}
use Rattle.std.specs.Global.{Global}
use Rattle.std.specs.List.{AllZip}
use Rattle.journal_model.specs.declared.transaction.Step.{Step}
use Rattle.journal_model.specs.Transaction.{History}
use Rattle.locked_journal.specs.Own.{Confirms, stopped_own}
use Rattle.journal_script.specs.Clients.{HasTouchedAll, handles_of}
use Rattle.journal_script.specs.declared.clients.ClientHandle.{ClientHandle}
use Rattle.journal_script.specs.declared.clients.ClientScript.{ClientScript}
use Rattle.journal_script.specs.declared.script.NamedBlocks.{NamedBlocks}
use Rattle.locked_journal.specs.Known.{TicketKnown, own_of_ticket}
use Rattle.volume_service.specs.Ending.{Stands}
use Rattle.volume_service.specs.Plan.{Came, planned_steps, touch_step}
use Rattle.volume_service.specs.Plan.Came.{Awaited, Unawaited}
use Rattle.volume_service.specs.declared.outcome.ClientOutcome.{ClientOutcome}
use Rattle.volume_service.specs.declared.plan.HandlePlan.{HandlePlan}
use Rattle.script_threads.specs.Plans.{ArePlansOf, IsPlanOf, planned, script_steps}
use Rattle.script_threads.specs.Runs.{AreServed, AreServedOf, IsEnded, IsEndedOn, IsTold, WasServed, named_by}
use Rattle.script_threads.specs.Runs.WasServed.{Awaited as WasAwaited, Unawaited as WasUnawaited}
use Rattle.script_threads.specs.Verdicts.{Told}
use Rattle.script_threads.specs.declared.running.Ended.{Ended}
use Rattle.script_threads.specs.declared.running.Ended.TheVariants.{Judged, Refused}
use Rattle.script_threads.specs.declared.told.ToldHandle.{ToldHandle}
use Rattle.script_threads.proofs.Lists.{map-map, zip-both, zip-each, zip-through}

-- What the record confirms of a receipt, in terms of the handle and transaction that it names.
borne : (committed : ℕ) (sealed : History) (r : TicketKnown) (steps : List Step) → r.steps ≡ steps → Confirms committed sealed (own_of_ticket r) →
    Confirms committed sealed (stopped_own r.ticket.handle r.ticket.tid steps)
borne committed sealed r steps same bears = record {
  before = bears.before;
  transaction = bears.transaction;
  behind = bears.behind;
  among = bears.among;
  number = bears.number;
  committed_is = bears.committed_is;
  joined = bears.joined;
  once = bears.once;
  steps = bears.steps ∙ same;
  all = bears.all ∙ same;
}

-- A handle that followed its plan, and whose receipt the record confirms, was served.
served-one : (committed : ℕ) (sealed : History) (plan : HandlePlan) (tid : ℕ) (receipt ticket : Option TicketKnown) (told : ToldHandle) →
    Came plan tid receipt ticket → IfSome receipt (Stands committed sealed) → IsTold tid receipt told → WasServed committed sealed plan.waits (λ n. planned_steps n plan) told
served-one committed sealed plan tid receipt ticket told (Awaited r waits is did) stands says =
    let bears : Stands committed sealed r = subst (λ (o : Option TicketKnown). IfSome o (Stands committed sealed)) is stands in
    WasAwaited (record { tid = r.ticket.tid; handle = r.ticket.handle }) waits (says.receipt_is ∙ ap named_by is) (did.tid_is ∙ sym says.tid_is)
    (borne committed sealed r (planned_steps r.ticket.handle plan) did.steps_are bears)
served-one committed sealed plan tid receipt ticket told (Unawaited t waits is keeps did) stands says = WasUnawaited waits (says.receipt_is ∙ ap named_by is)

-- A fact that holds without a refusal holds if there is none.
where-none : {A : Type 0} (P : Type 0) (o : Option A) → IsNone o → IfNone o P → P
where-none P None none holds = holds
where-none P (Some x) none holds = absurd (false≢true (sym none))

-- If no client was refused anything, each handle was served.
pub each-served : {J R : Type 0} (committed : ℕ) (sealed : History) (plans : List (Vec HandlePlan Global)) (clients : List (ClientOutcome J R)) (told : Told) →
    length clients ≡ length plans →
    All (λ c. IsNone c.refusal) clients →
    ((k : ℕ) (c : ClientOutcome J R) (p : Vec HandlePlan Global) → k < length plans → IfNone (get_or clients k c).refusal
    (AllZip (λ h e. Came h e.tid e.receipt e.ticket) (get_or plans k p).items (get_or clients k c).handles.items)) →
    ((k : ℕ) (c : ClientOutcome J R) → k < length clients → All (λ e. IfSome e.receipt (Stands committed sealed)) (get_or clients k c).handles.items) →
    AllZip (λ c ts. AllZip (λ h t. IsTold h.tid h.receipt t) c.handles.items ts.items) clients told →
    AreServed committed sealed plans told
each-served committed sealed plans clients told many none followed stand says =
    zip-through
    (λ p c. AllZip (λ h e. Came h e.tid e.receipt e.ticket × IfSome e.receipt (Stands committed sealed)) p.items c.handles.items)
    (λ c ts. AllZip (λ h t. IsTold h.tid h.receipt t) c.handles.items ts.items)
    (λ p ts. AllZip (λ h t. WasServed committed sealed h.waits (λ n. planned_steps n h) t) p.items ts.items)
    (λ p c ts did was.
    zip-through _ _ _ (λ h e t did_one was_one. served-one committed sealed h e.tid e.receipt e.ticket t did_one.0 did_one.1 was_one) p.items c.handles.items ts.items did was)
    plans clients told
    (zip-each _ plans clients many
    (λ k p c less.
    let there : k < length clients = omega (arith, many, less) in
    zip-both _ _ (get_or plans k p).items (get_or clients k c).handles.items (where-none _ (get_or clients k c).refusal (none k c there) (followed k c p less)) (stand k c there)))
    says

-- A plan's steps are those of the script.
same-steps : (size n : ℕ) (handle : ClientHandle) (plan : HandlePlan) → IsPlanOf size handle plan → planned_steps n plan ≡ script_steps size n handle
same-steps size n handle plan is = ap (map (touch_step n)) is.touches ∙ map-map (planned size) (touch_step n) handle.touches.items

-- A handle of a script was served if its plan was.
served-of : (size committed : ℕ) (sealed : History) (handle : ClientHandle) (plan : HandlePlan) (told : ToldHandle) → IsPlanOf size handle plan →
    WasServed committed sealed plan.waits (λ n. planned_steps n plan) told → WasServed committed sealed handle.waits (λ n. script_steps size n handle) told
served-of size committed sealed handle plan told is (WasAwaited r waits given tid bears) =
    WasAwaited r (sym is.waits ∙ waits) given tid (subst (λ (ss : List Step). Confirms committed sealed (stopped_own r.handle r.tid ss)) (same-steps size r.handle handle plan is) bears)
served-of size committed sealed handle plan told is (WasUnawaited waits none) = WasUnawaited (sym is.waits ∙ waits) none

-- So was each handle of each client.
all-of : (size committed : ℕ) (sealed : History) (clients : List (Vec ClientHandle Global)) (plans : List (Vec HandlePlan Global)) (told : Told) → ArePlansOf size clients plans →
    AreServed committed sealed plans told → AreServedOf size committed sealed clients told
all-of size committed sealed clients plans told are served =
    zip-through (λ c p. AllZip (IsPlanOf size) c.items p.items)
    (λ p ts. AllZip (λ h t. WasServed committed sealed h.waits (λ n. planned_steps n h) t) p.items ts.items)
    (λ c ts. AllZip (λ h t. WasServed committed sealed h.waits (λ n. script_steps size n h) t) c.items ts.items)
    (λ c p ts is was. zip-through _ _ _ (λ h q t is_one was_one. served-of size committed sealed h q t is_one was_one) c.items p.items ts.items is was)
    clients plans told are served

-- A run with a script's plans and blocks is one of the script.
pub ended-of : (script : ClientScript) (plans : List (Vec HandlePlan Global)) (named : NamedBlocks) → ArePlansOf script.measures.block_size script.clients.items plans →
    All (λ handles. HasTouchedAll handles (keys named.blocks)) (handles_of script) → keys named.directs ≡ [] →
    (ended : Ended) → IsEndedOn plans named ended → IsEnded script ended
ended-of script plans named are names none (Refused clients) is = tt
ended-of script plans named are names none (Judged v) is = record {
  served = is.served;
  each = all-of script.measures.block_size is.served.committed is.served.sealed script.clients.items plans is.served.clients are is.each;
  name = is.name;
  left = is.left;
  named = named;
  names = names;
  no_directs = none;
  verdicts = is.verdicts;
}
