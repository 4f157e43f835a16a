-- Tickets in order, cut where a history is cut, and the changes that these are of.
use Rattle.std.proofs.Common.{◌≢◌, inl, inr, refl, sym, ◌∙◌, ap, subst, arith, eq-eqb, append-nil, length-append}
use Rattle.std.specs.Prelude.{◌≡◌, ◌≤◌, ◌<◌, ◌+◌, ℕ, zero, suc, nat_eq, false, List, [], ◌∷◌, ◌++◌, length, take, drop, All}
use Rattle.std.specs.List.{AllByRecursion}
use Rattle.std.proofs.lemmas.Bool.{cases_eq}
use Rattle.std.proofs.lemmas.Bool.Decides.{nat_tests}
use Rattle.std.proofs.lemmas.List.{append_assoc}
use Rattle.std.proofs.lemmas.List.Concat.{flat_map-append}
use Rattle.std.proofs.lemmas.List.Elements.{filter-append, recursion_from_All}
use Rattle.journal_model.specs.declared.transaction.Step.{Step}
use Rattle.journal_model.specs.Record.{steps_of}
use Rattle.journal_model.specs.Transaction.{AreNumbered, History, Transaction}
use Rattle.locked_journal.specs.Known.{TicketKnown}
use Rattle.volume_prefix.specs.Changes.{AreFirst, Change, IsPart, steps_in, tickets_of}
use Rattle.volume_prefix.proofs.Orders.{AreOf, IsCut, IsOfTheirs, NeverFall, of_transaction}

-- tickets from a number on: those of that number, and the later ones
record Parted (first : ℕ) (ks : List TicketKnown) : Type 0 where
  here : List TicketKnown
  behind : List TicketKnown
  whole : ks ≡ here ++ behind
  same : AllByRecursion (λ k. k.ticket.tid ≡ first) here
  later_ones : NeverFall (suc first) behind

parted : (first : ℕ) (ks : List TicketKnown) → NeverFall first ks → Parted first ks
parted first [] up = record { here = []; behind = []; whole = refl; same = tt; later_ones = tt }
parted first (k ∷ ks) up =
    elim (cases_eq k.ticket.tid first) [
      | inl is ↦
          let rest : Parted first ks = parted first ks (subst (λ (n : ℕ). NeverFall n ks) is up.1) in
          record {
            here = k ∷ rest.here;
            behind = rest.behind;
            whole = ap (λ (l : List TicketKnown). k ∷ l) rest.whole;
            same = (is, rest.same);
            later_ones = rest.later_ones;
          }
      | inr other ↦
          let low : first ≤ k.ticket.tid = up.0 in
          let more : suc first ≤ k.ticket.tid = omega arith in
          record { here = []; behind = k ∷ ks; whole = refl; same = tt; later_ones = (more, up.1) }
    ]

-- tickets of one number are those of its transaction
all-here : (tid : ℕ) (ks : List TicketKnown) → AllByRecursion (λ k. k.ticket.tid ≡ tid) ks → of_transaction tid ks ≡ ks
all-here tid [] same = refl
all-here tid (k ∷ ks) same = rw (eq-eqb k.ticket.tid tid same.0) (ap (λ (l : List TicketKnown). k ∷ l) (all-here tid ks same.1))

-- and none is of another one
none-other : (tid other : ℕ) (ks : List TicketKnown) → AllByRecursion (λ k. k.ticket.tid ≡ tid) ks → tid ≢ other →
    of_transaction other ks ≡ []
none-other tid other [] same apart = refl
none-other tid other (k ∷ ks) same apart =
    let is : k.ticket.tid ≡ tid = same.0 in
    let no : nat_eq k.ticket.tid other ≡ false = grind (arith, nat_tests) in
    rw no (none-other tid other ks same.1 apart)

-- later tickets are none of an earlier transaction
none-later : (tid least : ℕ) (ks : List TicketKnown) → tid < least → NeverFall least ks → of_transaction tid ks ≡ []
none-later tid least [] low up = refl
none-later tid least (k ∷ ks) low up =
    let from : least ≤ k.ticket.tid = up.0 in
    let no : nat_eq k.ticket.tid tid ≡ false = grind (arith, nat_tests) in
    let above : tid < k.ticket.tid = omega arith in
    rw no (none-later tid k.ticket.tid ks above up.1)

-- later transactions have nothing of earlier tickets
made-behind : (first least : ℕ) (here behind : List TicketKnown) (ts : History) → AllByRecursion (λ k. k.ticket.tid ≡ first) here →
    first < least → AreNumbered least ts → AllByRecursion (IsOfTheirs (here ++ behind)) ts → AllByRecursion (IsOfTheirs behind) ts
made-behind first least here behind [] same low numbered made = tt
made-behind first least here behind (t ∷ ts) same low numbered made =
    let number : t.tid ≡ least = numbered.0 in
    let apart : first ≢ t.tid = omega arith in
    let joined : of_transaction t.tid (here ++ behind) ≡ of_transaction t.tid behind =
    filter-append (λ k. nat_eq k.ticket.tid t.tid) here behind
    ∙ ap (λ (l : List TicketKnown). l ++ of_transaction t.tid behind) (none-other first t.tid here same apart) in
    let above : first < suc least = omega arith in
    (made.0 ∙ ap steps_in joined, made-behind first (suc least) here behind ts same above numbered.1 made.1)

-- a bound on the first tickets' numbers
all-before : (tid most : ℕ) (ks : List TicketKnown) → AllByRecursion (λ k. k.ticket.tid ≡ tid) ks → tid < most →
    AllByRecursion (λ k. k.ticket.tid < most) ks
all-before tid most [] same low = tt
all-before tid most (k ∷ ks) same low =
    let is : k.ticket.tid ≡ tid = same.0 in
    let here : k.ticket.tid < most = omega arith in
    (here, all-before tid most ks same.1 low)

both-before : (P : TicketKnown → Type 0) (xs ys : List TicketKnown) → AllByRecursion P xs → AllByRecursion P ys →
    AllByRecursion P (xs ++ ys)
both-before P [] ys one other = other
both-before P (x ∷ xs) ys one other = (one.0, both-before P xs ys one.1 other)

-- the transaction of a number has the tickets of that number
made-here : (first : ℕ) (t : Transaction) (here behind : List TicketKnown) → t.tid ≡ first →
    AllByRecursion (λ k. k.ticket.tid ≡ first) here → NeverFall (suc first) behind → IsOfTheirs (here ++ behind) t → t.steps ≡ steps_in here
made-here first t here behind number same up made =
    let low : first < suc first = omega arith in
    let joined : of_transaction first (here ++ behind) ≡ here =
    filter-append (λ k. nat_eq k.ticket.tid first) here behind
    ∙ (ap (λ (l : List TicketKnown). l ++ of_transaction first behind) (all-here first here same)
    ∙ (ap (λ (l : List TicketKnown). here ++ l) (none-later first (suc first) behind low up) ∙ append-nil here)) in
    made ∙ ap steps_in (ap (λ (n : ℕ). of_transaction n (here ++ behind)) number ∙ joined)

pub cut : (first n : ℕ) (ts : History) (ks : List TicketKnown) → AreNumbered first ts → NeverFall first ks →
    AllByRecursion (IsOfTheirs ks) ts → n ≤ length ts → IsCut first n ts ks
cut first zero ts ks numbered up made few =
    let same : first ≡ first + 0 = omega arith in
    record { done = []; rest = ks; whole = refl; steps = refl; before = tt; lost = subst (λ (m : ℕ). NeverFall m ks) same up }
cut first (suc n) [] ks numbered up made few = absurd (omega arith)
cut first (suc n) (t ∷ ts) ks numbered up made few =
    let parts : Parted first ks = parted first ks up in
    let all : AllByRecursion (IsOfTheirs (parts.here ++ parts.behind)) (t ∷ ts) =
    subst (λ (l : List TicketKnown). AllByRecursion (IsOfTheirs l) (t ∷ ts)) parts.whole made in
    let low : first < suc first = omega arith in
    let fewer : n ≤ length ts = omega arith in
    let next : IsCut (suc first) n ts parts.behind =
    cut (suc first) n ts parts.behind numbered.1 parts.later_ones
    (made-behind first (suc first) parts.here parts.behind ts parts.same low numbered.1 all.1) fewer in
    let bound : suc first + n ≡ first + suc n = omega arith in
    let less : first < first + suc n = omega arith in
    record {
      done = parts.here ++ next.done;
      rest = next.rest;
      whole = parts.whole ∙ (ap (λ (l : List TicketKnown). parts.here ++ l) next.whole ∙ sym (append_assoc parts.here next.done next.rest));
      steps = ap (λ (l : List Step). l ++ steps_of (take n ts))
          (made-here first t parts.here parts.behind numbered.0 parts.same parts.later_ones all.0)
          ∙ (ap (λ (l : List Step). steps_in parts.here ++ l) next.steps ∙ sym (flat_map-append (λ k. k.steps) parts.here next.done));
      before = both-before (λ k. k.ticket.tid < first + suc n) parts.here next.done
          (all-before first (first + suc n) parts.here parts.same less)
          (subst (λ (m : ℕ). AllByRecursion (λ k. k.ticket.tid < m) next.done) bound next.before);
      lost = subst (λ (m : ℕ). NeverFall m next.rest) bound next.lost;
    }

pub cut-of : (first n : ℕ) (ts : History) (ks : List TicketKnown) → AreOf first ts ks → n ≤ length ts → IsCut first n ts ks
cut-of first n ts ks work few = cut first n ts ks work.numbered work.ordered work.made few

-- where two lists are one, one of the first parts goes on in the other
data Lines (xs ys us vs : List TicketKnown) : Type 0 where
  Longer : (m : List TicketKnown) → us ≡ xs ++ m → ys ≡ m ++ vs → Lines xs ys us vs
  Shorter : (y : TicketKnown) (m : List TicketKnown) → xs ≡ us ++ y ∷ m → Lines xs ys us vs

line-up : (xs ys us vs : List TicketKnown) → xs ++ ys ≡ us ++ vs → Lines xs ys us vs
line-up [] ys us vs is = Longer us refl is
line-up (x ∷ xs) ys [] vs is = Shorter x xs refl
line-up (x ∷ xs) ys (u ∷ us) vs is =
    let head : x ≡ u = cc in
    let tail : xs ++ ys ≡ us ++ vs = cc in
    elim (line-up xs ys us vs tail) [
      | Longer m one other ↦ Longer m (ap (λ (l : List TicketKnown). u ∷ l) one ∙ ap (λ (k : TicketKnown). k ∷ (xs ++ m)) (sym head)) other
      | Shorter y m one ↦ Shorter y m (ap (λ (l : List TicketKnown). x ∷ l) one ∙ ap (λ (k : TicketKnown). k ∷ (us ++ y ∷ m)) head)
    ]

empty-front : (xs ys : List TicketKnown) → [] ≡ xs ++ ys → xs ≡ []
empty-front [] ys is = refl
empty-front (x ∷ xs) ys is = absurd cc

-- the first tickets of changes are those of whole changes, and a part of the next
pub first-changes : (changes : List Change) (kept missing : List TicketKnown) → tickets_of changes ≡ kept ++ missing → AreFirst changes kept
first-changes [] kept missing is =
    record { k = 0; few = omega arith; part = []; are = empty-front kept missing is; next = refl }
first-changes (c ∷ cs) kept missing is =
    elim (line-up c (tickets_of cs) kept missing is) [
      | Longer m one other ↦
          let rest : AreFirst cs m = first-changes cs m missing other in
          let low : rest.k ≤ length cs = rest.few in
          record {
            k = suc rest.k;
            few = omega arith;
            part = rest.part;
            are = one ∙ (ap (λ (l : List TicketKnown). c ++ l) rest.are ∙ sym (append_assoc c (tickets_of (take rest.k cs)) rest.part));
            next = rest.next;
          }
      | Shorter y m one ↦ record { k = 0; few = omega arith; part = kept; are = refl; next = (y ∷ m, one, omega arith) }
    ]

-- each change is one handle at most
abbrev AreSingle : List Change → Type 0
AreSingle changes = AllByRecursion (λ c. length c ≤ 1) changes

single-behind : (k : ℕ) (changes : List Change) → AreSingle changes → AreSingle (drop k changes)
single-behind zero changes single = single
single-behind (suc k) [] single = tt
single-behind (suc k) (c ∷ cs) single = single-behind k cs single.1

empty-part : (part : List TicketKnown) → length part ≡ 0 → part ≡ []
empty-part [] none = refl
empty-part (k ∷ ks) none = absurd (omega arith)

-- a change of one handle has no part that is neither empty nor whole
no-part : (part : List TicketKnown) (further : List Change) → AreSingle further → IsPart part further → part ≡ []
no-part part [] single none = none
no-part part (c ∷ cs) single next =
    let short : length c ≤ 1 = single.0 in
    let more : 0 < length next.0 = next.2 in
    let both : length c ≡ length part + length next.0 = ap (λ (l : List TicketKnown). length l) next.1 ∙ length-append part next.0 in
    empty-part part (omega arith)

pub kept-whole : (changes : List Change) (kept : List TicketKnown) (first : AreFirst changes kept) → All (λ c. length c ≤ 1) changes →
    kept ≡ tickets_of (take first.k changes)
kept-whole changes kept first single =
    let none : first.part ≡ [] =
    no-part first.part (drop first.k changes)
    (single-behind first.k changes (recursion_from_All (λ c. length c ≤ 1) changes single)) first.next in
    first.are
    ∙ (ap (λ (p : List TicketKnown). tickets_of (take first.k changes) ++ p) none ∙ append-nil (tickets_of (take first.k changes)))
