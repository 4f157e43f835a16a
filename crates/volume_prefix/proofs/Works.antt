-- A run of handles one at a time has one list of tickets whose work its record is.
use Rattle.std.proofs.Common.{◌⊎◌, inl, inr, refl, sym, ◌∙◌, ap, subst, arith, append-nil, eq-eqb, ne_eqb, length-append}
use Rattle.std.specs.Prelude.{◌≡◌, ◌≢◌, ◌<◌, ◌+◌, ℕ, zero, suc, nat_eq, cond, Bool, true, false, List, [], ◌∷◌, ◌++◌, length, map, Some, None, Contains}
use Rattle.std.specs.List.{AllByRecursion, IsDistinct}
use Rattle.std.specs.Map.{lookup}
use Rattle.std.proofs.lemmas.List.{append_assoc, append_cancel_right, map-append}
use Rattle.std.proofs.lemmas.List.Elements.{All-contains_itself, All-from_recursion, Contains-append_right, recursion_from_All}
use Rattle.std.proofs.lemmas.Map.Keys.{IsDistinct-head}
use Rattle.journal_model.proofs.ListElements.{contains-none, each-append}
use Rattle.journal_model.specs.declared.transaction.Step.{Step}
use Rattle.journal_model.specs.Disk.{reading}
use Rattle.journal_model.specs.Transaction.{AreNumbered, History, Transaction}
use Rattle.journal_world.specs.Front.{Front, handle_numbers, handles_of, transactions}
use Rattle.journal_world.proofs.Handles.{handles-last}
use Rattle.handle.specs.Values.{fresh_ticket}
use Rattle.log_epochs.specs.Epoch.{Epoch}
use Rattle.log_epochs.specs.JournalWorld.{Begins, JournalWorld, Leads, Move}
use Rattle.log_epochs.proofs.Keeping.{reads-left}
use Rattle.locked_journal.specs.Known.{TicketKnown, own_of_ticket}
use Rattle.locked_journal.specs.Own.{IsOwn, steps_by}
use Rattle.volume_prefix.specs.Runs.{IsWorkOf, OneAtATime, works}
use Rattle.volume_prefix.proofs.Crashes.{Ends, ends}
use Rattle.volume_prefix.proofs.InOrder.{run-order}
use Rattle.volume_prefix.proofs.Orders.{KeepsOrder, numbers}
use Rattle.volume_prefix.proofs.Owning.{IsIn, all-known, behind-part, numbered-parts}
use Rattle.volume_prefix.proofs.Tickets.{given-below, some-ks}

-- the ticket of a handle of this transaction
abbrev ticket_in : Transaction → ℕ → TicketKnown
ticket_in t h = record { ticket = fresh_ticket h t.tid; steps = steps_by h t.steps; asked = false }

abbrev tickets_in : Transaction → List ℕ → List TicketKnown
tickets_in t [] = []
tickets_in t (h ∷ hs) = ticket_in t h ∷ tickets_in t hs

-- those of all handles of a history
abbrev all_tickets : History → List TicketKnown
all_tickets [] = []
all_tickets (t ∷ ts) = tickets_in t t.handles ++ all_tickets ts

numbers-in : (t : Transaction) (hs : List ℕ) → numbers (tickets_in t hs) ≡ hs
numbers-in t [] = refl
numbers-in t (h ∷ hs) = ap (λ (l : List ℕ). h ∷ l) (numbers-in t hs)

numbers-all : (ts : History) → numbers (all_tickets ts) ≡ handles_of ts
numbers-all [] = refl
numbers-all (t ∷ ts) =
    map-append (λ k. k.ticket.handle) (tickets_in t t.handles) (all_tickets ts)
    ∙ (ap (λ (l : List ℕ). l ++ numbers (all_tickets ts)) (numbers-in t t.handles) ∙ ap (λ (l : List ℕ). t.handles ++ l) (numbers-all ts))

-- its handle is closed
abbrev IsClosed : Front → TicketKnown → Type 0
IsClosed f k = lookup (nat_eq k.ticket.handle) f.open_handles ≡ None

-- if it is, this is its ticket
abbrev MayOwn : Front → TicketKnown → Type 0
MayOwn f k = IsClosed f k → IsOwn f (own_of_ticket k)

may-own : (f : Front) (first : ℕ) (before : History) (t : Transaction) (behind : History) (h : ℕ) → transactions f ≡ before ++ t ∷ behind →
    AreNumbered first (transactions f) → f.running.tid ≡ first + length f.sealed → Contains t.handles h → MayOwn f (ticket_in t h)
may-own f first before t behind h among in_order number has = λ none.
    let places = numbered-parts first before t behind (subst (AreNumbered first) among in_order) in
    let at : t.tid ≡ first + length before = places.1 in
    let size : length (f.sealed ++ f.running ∷ []) ≡ length (before ++ t ∷ behind) = ap (λ (ts : History). length ts) among in
    let one = length-append f.sealed (f.running ∷ []) in
    let other = length-append before (t ∷ behind) in
    record {
      stands = record {
        before = before;
        transaction = t;
        behind = behind;
        among = among;
        number = refl;
        place = omega arith;
        joined = has;
        steps = refl;
      };
      credits = none;
      stage = tt;
    }

may-own-in : (f : Front) (first : ℕ) (before : History) (t : Transaction) (behind : History) (hs : List ℕ) →
    transactions f ≡ before ++ t ∷ behind → AreNumbered first (transactions f) → f.running.tid ≡ first + length f.sealed →
    AllByRecursion (λ h. Contains t.handles h) hs → AllByRecursion (MayOwn f) (tickets_in t hs)
may-own-in f first before t behind [] among in_order number has = tt
may-own-in f first before t behind (h ∷ hs) among in_order number has =
    (may-own f first before t behind h among in_order number has.0, may-own-in f first before t behind hs among in_order number has.1)

may-own-all : (f : Front) (first : ℕ) (before ts : History) → transactions f ≡ before ++ ts → AreNumbered first (transactions f) →
    f.running.tid ≡ first + length f.sealed → AllByRecursion (MayOwn f) (all_tickets ts)
may-own-all f first before [] among in_order number = tt
may-own-all f first before (t ∷ ts) among in_order number =
    each-append (MayOwn f) (tickets_in t t.handles) (all_tickets ts)
    (may-own-in f first before t ts t.handles among in_order number
    (recursion_from_All (λ h. Contains t.handles h) t.handles (All-contains_itself t.handles)))
    (may-own-all f first (before ++ t ∷ []) ts (among ∙ sym (append_assoc before (t ∷ []) ts)) in_order number)

owned : (f : Front) (ks : List TicketKnown) → AllByRecursion (MayOwn f) ks → AllByRecursion (IsClosed f) ks →
    AllByRecursion (λ k. IsOwn f (own_of_ticket k)) ks
owned f [] may closed = tt
owned f (k ∷ ks) may closed = (may.0 closed.0, owned f ks may.1 closed.1)

-- no handle is open
none-open : (f : Front) (ks : List TicketKnown) → f.open_handles ≡ [] → AllByRecursion (IsClosed f) ks
none-open f [] none = tt
none-open f (k ∷ ks) none = (ap (λ (os : List (ℕ × ℕ)). lookup (nat_eq k.ticket.handle) os) none, none-open f ks none)

-- one above these is
one-open : (f : Front) (ks : List TicketKnown) (h left : ℕ) → f.open_handles ≡ (h, left) ∷ [] → AllByRecursion (λ n. n < h) (numbers ks) →
    AllByRecursion (IsClosed f) ks
one-open f [] h left one low = tt
one-open f (k ∷ ks) h left one low =
    let less : k.ticket.handle < h = low.0 in
    let differs : k.ticket.handle ≢ h = omega arith in (
      ap (λ (os : List (ℕ × ℕ)). lookup (nat_eq k.ticket.handle) os) one
          ∙ ap (λ (b : Bool). cond b (Some left) (lookup (nat_eq k.ticket.handle) [])) (ne_eqb k.ticket.handle h differs),
      one-open f ks h left one low.1,
    )

-- at most one is open, the last one
at-most-one : (given : ℕ) (os : List (ℕ × ℕ)) → AllByRecursion (λ o. o.0 ≡ given) os → IsDistinct nat_eq (map (λ o. o.0) os) →
    (os ≡ []) ⊎ ((left : ℕ) × (os ≡ (given, left) ∷ []))
at-most-one given [] all once = inl refl
at-most-one given (o ∷ []) all once = inr (o.1, ap (λ (n : ℕ). (n, o.1) ∷ []) all.0)
at-most-one given (o ∷ p ∷ os) all once =
    let apart : nat_eq o.0 p.0 ≡ false = (IsDistinct-head nat_eq o.0 (p.0 ∷ map (λ q. q.0) os) once).0 in
    let same : nat_eq o.0 p.0 ≡ true = eq-eqb o.0 p.0 (all.0 ∙ sym all.1.0) in
    absurd (let bad : true ≡ false = sym same ∙ apart in cc)

-- tickets but the last
record ButLast (ks : List TicketKnown) (hs : List ℕ) : Type 0 where
  first_ones : List TicketKnown
  last : TicketKnown
  are : ks ≡ first_ones ++ last ∷ []
  handles : numbers first_ones ≡ hs

but-last : (ks : List TicketKnown) (hs : List ℕ) (h : ℕ) → numbers ks ≡ hs ++ h ∷ [] → ButLast ks hs
but-last [] [] h is = absurd cc
but-last [] (x ∷ xs) h is = absurd cc
but-last (k ∷ ks) [] h is =
    let tail : numbers ks ≡ [] = cc in
    record { first_ones = []; last = k; are = ap (λ (l : List TicketKnown). k ∷ l) (some-ks ks tail); handles = refl }
but-last (k ∷ ks) (x ∷ xs) h is =
    let head : k.ticket.handle ≡ x = cc in
    let tail : numbers ks ≡ xs ++ h ∷ [] = cc in
    let rest : ButLast ks xs = but-last ks xs h tail in
    record {
      first_ones = k ∷ rest.first_ones;
      last = rest.last;
      are = ap (λ (l : List TicketKnown). k ∷ l) rest.are;
      handles = ap (λ (l : List ℕ). k.ticket.handle ∷ l) rest.handles ∙ ap (λ (n : ℕ). n ∷ xs) head;
    }

left-of : (P : TicketKnown → Type 0) (xs ys : List TicketKnown) → AllByRecursion P (xs ++ ys) → AllByRecursion P xs
left-of P [] ys all = tt
left-of P (x ∷ xs) ys all = (all.0, left-of P xs ys all.1)

-- the tickets of a front with no open handle are all
of-none : (f : Front) → f.open_handles ≡ [] → AllByRecursion (MayOwn f) (all_tickets (transactions f)) →
    IsWorkOf f (all_tickets (transactions f))
of-none f none may =
    let ks : List TicketKnown = all_tickets (transactions f) in
    record {
      joined =
          sym (numbers-all (transactions f))
          ∙ (sym (append-nil (numbers ks)) ∙ ap (λ (os : List (ℕ × ℕ)). numbers ks ++ map (λ h. h.0) os) (sym none));
      known = All-from_recursion (λ k. IsOwn f (own_of_ticket k)) ks (owned f ks may (none-open f ks none));
    }

-- with an open one, all but the last
of-one : (f : Front) (given left : ℕ) → f.given ≡ given → f.open_handles ≡ (f.given, left) ∷ [] → Contains f.running.handles f.given →
    handles_of (transactions f) ≡ handle_numbers f.given → AllByRecursion (MayOwn f) (all_tickets (transactions f)) →
    (ks : List TicketKnown) × IsWorkOf f ks
of-one f zero left is one has handles may =
    let none : handles_of f.sealed ++ f.running.handles ≡ [] =
    sym (handles-last f.sealed f.running) ∙ (handles ∙ ap handle_numbers is) in
    absurd (contains-none f.given
    (subst (λ (hs : List ℕ). Contains hs f.given) none (Contains-append_right (handles_of f.sealed) f.running.handles f.given has)))
of-one f (suc m) left is one has handles may =
    let all : numbers (all_tickets (transactions f)) ≡ handle_numbers m ++ suc m ∷ [] =
    numbers-all (transactions f) ∙ (handles ∙ ap handle_numbers is) in
    let parts : ButLast (all_tickets (transactions f)) (handle_numbers m) =
    but-last (all_tickets (transactions f)) (handle_numbers m) (suc m) all in
    let ks : List TicketKnown = parts.first_ones in
    let open_one : f.open_handles ≡ (suc m, left) ∷ [] = one ∙ ap (λ (n : ℕ). (n, left) ∷ []) is in
    let low : AllByRecursion (λ n. n < suc m) (numbers ks) =
    subst (AllByRecursion (λ n. n < suc m)) (sym parts.handles) (given-below m) in (
      ks,
      record {
        joined =
            handles ∙ (ap handle_numbers is
            ∙ (ap (λ (hs : List ℕ). hs ++ suc m ∷ []) (sym parts.handles)
            ∙ ap (λ (os : List (ℕ × ℕ)). numbers ks ++ map (λ h. h.0) os) (sym open_one)));
        known = All-from_recursion (λ k. IsOwn f (own_of_ticket k)) ks
            (owned f ks (left-of (MayOwn f) ks (parts.last ∷ []) (subst (AllByRecursion (MayOwn f)) parts.are may))
            (one-open f ks (suc m) left open_one low));
      },
    )

pub some-work : (start end : JournalWorld) (moves : List Move) (leads : Leads start moves end) (epoch : Epoch) → Begins start →
    OneAtATime start moves end leads → end.below.epoch ≡ Some epoch → (tickets : List TicketKnown) × IsWorkOf end.told.front tickets
some-work start end moves leads epoch begins alone now =
    elim (at-most-one f.given f.open_handles order.last at.promise.front.once) [
      | inl none ↦ (all_tickets (transactions f), of-none f none may)
      | inr (left, one) ↦
          of-one f f.given left refl one
          (subst (λ (os : List (ℕ × ℕ)). AllByRecursion (λ h. Contains f.running.handles h.0) os) one at.promise.front.joined).0
          at.kept.joined may
    ]
  where
    f : Front
    f = end.told.front

    at : Ends end epoch (reading end.below.disk)
    at = ends start end moves epoch (reading end.below.disk) begins leads now (reads-left end.below.disk)

    order : KeepsOrder f
    order = run-order start end moves leads epoch begins alone now

    may : AllByRecursion (MayOwn f) (all_tickets (transactions f))
    may = may-own-all f epoch.engine.first [] (transactions f) refl at.numbered at.number

-- a handle with its transaction and steps
abbrev work : ℕ → ℕ → List Step → ℕ × ℕ × List Step
work h tid ss = (h, tid, ss)

-- two tickets of one handle know the same
same-work : (f : Front) (k j : TicketKnown) → IsOwn f (own_of_ticket k) → AllByRecursion (λ t. IsIn t j) (transactions f) →
    k.ticket.handle ≡ j.ticket.handle → work k.ticket.handle k.ticket.tid k.steps ≡ work j.ticket.handle j.ticket.tid j.steps
same-work f k j own all same =
    let t : Transaction = own.stands.transaction in
    let is : IsIn t j =
    (behind-part (λ u. IsIn u j) own.stands.before (t ∷ own.stands.behind)
    (subst (λ (ts : History). AllByRecursion (λ u. IsIn u j) ts) own.stands.among all)).0 in
    let mine : t.tid ≡ k.ticket.tid = own.stands.number in
    let other : j.ticket.tid ≡ t.tid = is.joins (subst (Contains t.handles) same own.stands.joined) in
    let steps : k.steps ≡ j.steps =
    sym own.stands.steps
    ∙ (ap (λ (n : ℕ). steps_by n t.steps) same
    ∙ (is.stands ∙ ap (λ (b : Bool). cond b j.steps []) (eq-eqb j.ticket.tid t.tid other))) in
    ap (λ (n : ℕ). work n k.ticket.tid k.steps) same
    ∙ (ap (λ (n : ℕ). work j.ticket.handle n k.steps) (sym mine ∙ sym other) ∙ ap
    (λ (ss : List Step). work j.ticket.handle j.ticket.tid ss) steps)

same-works : (f : Front) (ks js : List TicketKnown) → numbers ks ≡ numbers js → AllByRecursion (λ k. IsOwn f (own_of_ticket k)) ks →
    AllByRecursion (λ k. AllByRecursion (λ t. IsIn t k) (transactions f)) js → works ks ≡ works js
same-works f [] [] same own all = refl
same-works f [] (j ∷ js) same own all = absurd cc
same-works f (k ∷ ks) [] same own all = absurd cc
same-works f (k ∷ ks) (j ∷ js) same own all =
    let head : k.ticket.handle ≡ j.ticket.handle = cc in
    let tail : numbers ks ≡ numbers js = cc in
    ap (λ (w : ℕ × ℕ × List Step). w ∷ works ks) (same-work f k j own.0 all.0 head)
    ∙ ap (λ (l : List (ℕ × ℕ × List Step)). work j.ticket.handle j.ticket.tid j.steps ∷ l) (same-works f ks js tail own.1 all.1)

pub only-work : (start end : JournalWorld) (moves : List Move) (epoch : Epoch) (some others : List TicketKnown) → Begins start →
    Leads start moves end → end.below.epoch ≡ Some epoch → IsWorkOf end.told.front some → IsWorkOf end.told.front others →
    works some ≡ works others
only-work start end moves epoch some others begins leads now one two =
    let f : Front = end.told.front in
    let at : Ends end epoch (reading end.below.disk) =
    ends start end moves epoch (reading end.below.disk) begins leads now (reads-left end.below.disk) in
    same-works f some others
    (append_cancel_right (numbers some) (numbers others) (map (λ h. h.0) f.open_handles) (sym one.joined ∙ two.joined))
    (recursion_from_All (λ k. IsOwn f (own_of_ticket k)) some one.known)
    (all-known f epoch.engine.first others at.numbered at.kept.handles
    (recursion_from_All (λ k. IsOwn f (own_of_ticket k)) others two.known))
