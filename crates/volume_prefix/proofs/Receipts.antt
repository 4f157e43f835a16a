-- A receipt that the record confirms knows its handle.
use Rattle.std.proofs.Common.{refl, sym, ◌∙◌, ap, subst, arith, ne_eqb, length-append}
use Rattle.std.specs.Prelude.{◌≡◌, ◌≢◌, ◌≤◌, ◌<◌, ◌+◌, ℕ, nat_eq, cond, Bool, true, false, if◌then◌else◌, List, [], ◌∷◌, ◌++◌, length, Some, None, Contains}
use Rattle.std.specs.List.{AllByRecursion, IsDistinct}
use Rattle.std.specs.Map.{lookup}
use Rattle.std.proofs.lemmas.List.Elements.{Contains-append_left, Contains-append_right}
use Rattle.journal_model.specs.Disk.{reading}
use Rattle.journal_model.specs.Record.{EachHandleOnce}
use Rattle.journal_model.specs.Transaction.{AreNumbered, History, Transaction}
use Rattle.journal_world.specs.Front.{Front, handles_of, transactions}
use Rattle.journal_world.proofs.Handles.{handles-last}
use Rattle.log_epochs.specs.Epoch.{Epoch}
use Rattle.log_epochs.specs.JournalWorld.{Begins, JournalWorld, Leads, Move}
use Rattle.log_epochs.proofs.Keeping.{reads-left}
use Rattle.locked_journal.specs.declared.own.HandleStage.TheVariants.{Stopped, Asked}
use Rattle.locked_journal.specs.Known.{TicketKnown, own_of_ticket}
use Rattle.locked_journal.specs.Own.{Confirms, IsOwn, StageHolds, credits_of}
use Rattle.volume_prefix.proofs.Crashes.{Ends, ends}
use Rattle.volume_prefix.proofs.Owning.{numbered-parts, on-one-side}

-- a handle of a transaction before the last one is of a sealed one
sealed-has : (sealed : History) (running : Transaction) (before : History) (t : Transaction) (behind : History) (n : ℕ) →
    sealed ++ running ∷ [] ≡ before ++ t ∷ behind → 0 < length behind → Contains t.handles n → Contains (handles_of sealed) n
sealed-has [] running before t behind n among more has =
    let size : length (running ∷ []) ≡ length (before ++ t ∷ behind) = ap (λ (ts : History). length ts) among in
    let sum = length-append before (t ∷ behind) in
    absurd (omega arith)
sealed-has (u ∷ us) running [] t behind n among more has =
    let head : u ≡ t = cc in
    Contains-append_left u.handles (handles_of us) n (subst (λ (x : Transaction). Contains x.handles n) (sym head) has)
sealed-has (u ∷ us) running (x ∷ xs) t behind n among more has =
    let tail : us ++ running ∷ [] ≡ xs ++ t ∷ behind = cc in
    Contains-append_right u.handles (handles_of us) n (sealed-has us running xs t behind n tail more has)

-- none of the running transaction's handles has its number, so a look-up among them finds none
none-found : (n : ℕ) (sealed running : List ℕ) (os : List (ℕ × ℕ)) → IsDistinct nat_eq (sealed ++ running) → Contains sealed n →
    AllByRecursion (λ o. Contains running o.0) os → lookup (nat_eq n) os ≡ None
none-found n sealed running [] once has all = refl
none-found n sealed running (o ∷ os) once has all =
    let differs : n ≢ o.0 = λ same. on-one-side n sealed running once has (subst (Contains running) (sym same) all.0) in
    ap (λ (b : Bool). cond b (Some o.1) (lookup (nat_eq n) os)) (ne_eqb n o.0 differs) ∙ none-found n sealed running os once has all.1

no-credits : (asked : Bool) → credits_of (if asked then Asked else Stopped) ≡ None
no-credits true = refl
no-credits false = refl

-- a transaction before the running one may have been asked for
not-running : (f : Front) (tid : ℕ) (asked : Bool) → tid < f.running.tid → StageHolds f tid (if asked then Asked else Stopped)
not-running f tid true low = λ is. absurd (omega arith)
not-running f tid false low = tt

confirmed : (f : Front) (first committed : ℕ) (k : TicketKnown) → AreNumbered first (transactions f) → EachHandleOnce (transactions f) →
    f.running.tid ≡ first + length f.sealed → first + committed ≤ f.running.tid →
    AllByRecursion (λ o. Contains f.running.handles o.0) f.open_handles → Confirms committed (transactions f) (own_of_ticket k) →
    IsOwn f (own_of_ticket k)
confirmed f first committed k in_order each number few opens c =
    let n : ℕ = k.ticket.handle in
    let before : History = c.before in
    let t : Transaction = c.transaction in
    let behind : History = c.behind in
    let places = numbered-parts first before t behind (subst (AreNumbered first) c.among in_order) in
    let at : t.tid ≡ first + length before = places.1 in
    let is : t.tid ≡ k.ticket.tid = c.number in
    let least : length before < committed = c.committed_is in
    let size : length (f.sealed ++ f.running ∷ []) ≡ length (before ++ t ∷ behind) = ap (λ (ts : History). length ts) c.among in
    let one = length-append f.sealed (f.running ∷ []) in
    let other = length-append before (t ∷ behind) in
    let more : 0 < length behind = omega arith in
    let low : k.ticket.tid < f.running.tid = omega arith in
    let once : IsDistinct nat_eq (handles_of f.sealed ++ f.running.handles) =
    subst (IsDistinct nat_eq) (handles-last f.sealed f.running) each.once in
    record {
      stands = record {
        before = before;
        transaction = t;
        behind = behind;
        among = c.among;
        number = is;
        place = omega arith;
        joined = c.joined;
        steps = c.steps;
      };
      credits =
          none-found n (handles_of f.sealed) f.running.handles f.open_handles once
          (sealed-has f.sealed f.running before t behind n c.among more c.joined) opens
          ∙ sym (no-credits k.asked);
      stage = not-running f k.ticket.tid k.asked low;
    }

pub confirmed-known : (start end : JournalWorld) (moves : List Move) (epoch : Epoch) (k : TicketKnown) → Begins start →
    Leads start moves end → end.below.epoch ≡ Some epoch →
    Confirms epoch.engine.committed (transactions end.told.front) (own_of_ticket k) → IsOwn end.told.front (own_of_ticket k)
confirmed-known start end moves epoch k begins leads now confirms =
    let at : Ends end epoch (reading end.below.disk) =
    ends start end moves epoch (reading end.below.disk) begins leads now (reads-left end.below.disk) in
    confirmed end.told.front epoch.engine.first epoch.engine.committed k at.numbered at.kept.handles at.number at.promise.few
    at.promise.front.joined confirms
