-- Steps in the order of handles are those of each handle, one handle after another.
use Rattle.std.proofs.Common.{inl, inr, refl, sym, ◌∙◌, ap, subst, arith, eq-eqb, append-nil, ⊎_elim}
use Rattle.std.specs.Prelude.{◌≡◌, ◌≤◌, ◌<◌, ℕ, suc, nat_eq, cond, Bool, true, false, List, [], ◌∷◌, ◌++◌, Contains}
use Rattle.std.specs.List.{AllByRecursion, flat_map}
use Rattle.std.proofs.lemmas.Bool.{cases_eq}
use Rattle.std.proofs.lemmas.Bool.Decides.{nat_tests}
use Rattle.std.proofs.lemmas.List.Concat.{flat_map-append}
use Rattle.std.proofs.lemmas.List.Elements.{filter-append}
use Rattle.journal_model.proofs.ListElements.{contains-cases, contains-none}
use Rattle.journal_model.specs.declared.transaction.Step.{Step}
use Rattle.journal_model.specs.Record.{steps_of}
use Rattle.journal_model.specs.Transaction.{History, Transaction}
use Rattle.locked_journal.specs.Known.{TicketKnown}
use Rattle.locked_journal.specs.Own.{steps_by}
use Rattle.volume_prefix.specs.Changes.{steps_in}
use Rattle.volume_prefix.proofs.Orders.{AreInOrder, AreRising, IsOfAll, IsOfTheirs, StandsIn, numbers, of_transaction}

-- steps from a handle on: its own, and those of later ones
record Divided (h : ℕ) (ss : List Step) : Type 0 where
  here : List Step
  behind : List Step
  whole : ss ≡ here ++ behind
  same : AllByRecursion (λ s. s.handle ≡ h) here
  later_ones : AreInOrder (suc h) behind

divided : (h : ℕ) (ss : List Step) → AreInOrder h ss → Divided h ss
divided h [] order = record { here = []; behind = []; whole = refl; same = tt; later_ones = tt }
divided h (s ∷ ss) order =
    elim (cases_eq s.handle h) [
      | inl is ↦
          let rest : Divided h ss = divided h ss (subst (λ (n : ℕ). AreInOrder n ss) is order.1) in
          record {
            here = s ∷ rest.here;
            behind = rest.behind;
            whole = ap (λ (l : List Step). s ∷ l) rest.whole;
            same = (is, rest.same);
            later_ones = rest.later_ones;
          }
      | inr other ↦
          let low : h ≤ s.handle = order.0 in
          let more : suc h ≤ s.handle = omega arith in
          record { here = []; behind = s ∷ ss; whole = refl; same = tt; later_ones = (more, order.1) }
    ]

all-by : (h : ℕ) (ss : List Step) → AllByRecursion (λ s. s.handle ≡ h) ss → steps_by h ss ≡ ss
all-by h [] same = refl
all-by h (s ∷ ss) same = rw (eq-eqb h s.handle (sym same.0)) (ap (λ (l : List Step). s ∷ l) (all-by h ss same.1))

none-by : (h n : ℕ) (ss : List Step) → AllByRecursion (λ s. s.handle ≡ h) ss → h < n → steps_by n ss ≡ []
none-by h n [] same low = refl
none-by h n (s ∷ ss) same low =
    let is : s.handle ≡ h = same.0 in
    let no : nat_eq n s.handle ≡ false = grind (arith, nat_tests) in
    rw no (none-by h n ss same.1 low)

none-above : (h least : ℕ) (ss : List Step) → h < least → AreInOrder least ss → steps_by h ss ≡ []
none-above h least [] low order = refl
none-above h least (s ∷ ss) low order =
    let from : least ≤ s.handle = order.0 in
    let no : nat_eq h s.handle ≡ false = grind (arith, nat_tests) in
    let above : h < s.handle = omega arith in
    rw no (none-above h s.handle ss above order.1)

-- the numbers rise above the least
rising-above : (least : ℕ) (ks : List TicketKnown) (h : ℕ) → AreRising least ks → Contains (numbers ks) h → least < h
rising-above least [] h up m = absurd (contains-none h m)
rising-above least (k ∷ ks) h up m =
    let low : least < k.ticket.handle = up.0 in
    ⊎_elim
    (λ (same : k.ticket.handle ≡ h). omega arith)
    (λ (rest : Contains (numbers ks) h). let above : k.ticket.handle < h = rising-above k.ticket.handle ks h up.1 rest in omega arith)
    (contains-cases k.ticket.handle (numbers ks) h m)

-- only the first step bounds an order from below
from-low : (low least : ℕ) (ss : List Step) → AreInOrder low ss → AllByRecursion (λ s. least ≤ s.handle) ss → AreInOrder least ss
from-low low least [] order all = tt
from-low low least (s ∷ ss) order all = (all.0, order.1)

-- all steps are of tickets from the first on
all-from : (k : TicketKnown) (ks : List TicketKnown) (ss : List Step) → AreRising k.ticket.handle ks →
    AllByRecursion (λ s. Contains (numbers (k ∷ ks)) s.handle) ss → AllByRecursion (λ s. k.ticket.handle ≤ s.handle) ss
all-from k ks [] up own = tt
all-from k ks (s ∷ ss) up own =
    let here : k.ticket.handle ≤ s.handle =
    ⊎_elim
    (λ (same : k.ticket.handle ≡ s.handle). omega arith)
    (λ (rest : Contains (numbers ks) s.handle).
    let above : k.ticket.handle < s.handle = rising-above k.ticket.handle ks s.handle up rest in omega arith)
    (contains-cases k.ticket.handle (numbers ks) s.handle own.0) in
    (here, all-from k ks ss up own.1)

-- later steps are of later tickets
own-behind : (k : TicketKnown) (ks : List TicketKnown) (least : ℕ) (ss : List Step) → k.ticket.handle < least → AreInOrder least ss →
    AllByRecursion (λ s. Contains (numbers (k ∷ ks)) s.handle) ss → AllByRecursion (λ s. Contains (numbers ks) s.handle) ss
own-behind k ks least [] low order own = tt
own-behind k ks least (s ∷ ss) low order own =
    let from : least ≤ s.handle = order.0 in
    let above : k.ticket.handle < s.handle = omega arith in
    let here : Contains (numbers ks) s.handle =
    ⊎_elim
    (λ (same : k.ticket.handle ≡ s.handle). absurd (omega arith))
    (λ (rest : Contains (numbers ks) s.handle). rest)
    (contains-cases k.ticket.handle (numbers ks) s.handle own.0) in
    (here, own-behind k ks s.handle ss above order.1 own.1)

right-part : (P : Step → Type 0) (xs ys : List Step) → AllByRecursion P (xs ++ ys) → AllByRecursion P ys
right-part P [] ys all = all
right-part P (x ∷ xs) ys all = right-part P xs ys all.1

-- tickets above a handle have none of its steps
agree : (h least : ℕ) (here behind : List Step) (ks : List TicketKnown) → AllByRecursion (λ s. s.handle ≡ h) here → h ≤ least →
    AreRising least ks → flat_map (λ k. steps_by k.ticket.handle (here ++ behind)) ks ≡ flat_map (λ k. steps_by k.ticket.handle behind) ks
agree h least here behind [] same low up = refl
agree h least here behind (k ∷ ks) same low up =
    let more : least < k.ticket.handle = up.0 in
    let above : h < k.ticket.handle = omega arith in
    let next : h ≤ k.ticket.handle = omega arith in
    let one : steps_by k.ticket.handle (here ++ behind) ≡ steps_by k.ticket.handle behind =
    filter-append (λ s. nat_eq k.ticket.handle s.handle) here behind
    ∙ ap (λ (l : List Step). l ++ steps_by k.ticket.handle behind) (none-by h k.ticket.handle here same above) in
    ap (λ (l : List Step). l ++ flat_map (λ j. steps_by j.ticket.handle (here ++ behind)) ks) one
    ∙ ap (λ (l : List Step). steps_by k.ticket.handle behind ++ l) (agree h k.ticket.handle here behind ks same next up.1)

-- steps in the order of handles are those of each handle, one after another
pub classes : (least low : ℕ) (ks : List TicketKnown) (ss : List Step) → AreRising least ks → AreInOrder low ss →
    AllByRecursion (λ s. Contains (numbers ks) s.handle) ss → ss ≡ flat_map (λ k. steps_by k.ticket.handle ss) ks
classes least low [] [] up order own = refl
classes least low [] (s ∷ ss) up order own = absurd (contains-none s.handle own.0)
classes least low (k ∷ ks) ss up order own =
    let h : ℕ = k.ticket.handle in
    let parts : Divided h ss = divided h ss (from-low low h ss order (all-from k ks ss up.1 own)) in
    let both : AllByRecursion (λ s. Contains (numbers (k ∷ ks)) s.handle) (parts.here ++ parts.behind) =
    subst (AllByRecursion (λ s. Contains (numbers (k ∷ ks)) s.handle)) parts.whole own in
    let next : h < suc h = omega arith in
    let even : h ≤ h = omega arith in
    let later : AllByRecursion (λ s. Contains (numbers ks) s.handle) parts.behind =
    own-behind k ks (suc h) parts.behind next parts.later_ones
    (right-part (λ s. Contains (numbers (k ∷ ks)) s.handle) parts.here parts.behind both) in
    let rest : parts.behind ≡ flat_map (λ j. steps_by j.ticket.handle parts.behind) ks =
    classes h (suc h) ks parts.behind up.1 parts.later_ones later in
    let mine : steps_by h (parts.here ++ parts.behind) ≡ parts.here =
    filter-append (λ s. nat_eq h s.handle) parts.here parts.behind
    ∙ (ap (λ (l : List Step). l ++ steps_by h parts.behind) (all-by h parts.here parts.same)
    ∙ (ap (λ (l : List Step). parts.here ++ l) (none-above h (suc h) parts.behind next parts.later_ones) ∙ append-nil parts.here)) in
    let all : parts.here ++ parts.behind ≡ flat_map (λ j. steps_by j.ticket.handle (parts.here ++ parts.behind)) (k ∷ ks) =
    ap (λ (l : List Step). parts.here ++ l) (rest ∙ sym (agree h h parts.here parts.behind ks parts.same even up.1))
    ∙ ap (λ (l : List Step). l ++ flat_map (λ j. steps_by j.ticket.handle (parts.here ++ parts.behind)) ks) (sym mine) in
    subst (λ (l : List Step). l ≡ flat_map (λ j. steps_by j.ticket.handle l) (k ∷ ks)) (sym parts.whole) all

-- a ticket's steps, or none, before those of further tickets
one-more : (b : Bool) (k : TicketKnown) (ks : List TicketKnown) → cond b k.steps [] ++ steps_in ks ≡ steps_in (cond b (k ∷ ks) ks)
one-more true k ks = refl
one-more false k ks = refl

gathered : (t : Transaction) (ks : List TicketKnown) → AllByRecursion (StandsIn t) ks →
    flat_map (λ k. steps_by k.ticket.handle t.steps) ks ≡ steps_in (of_transaction t.tid ks)
gathered t [] each = refl
gathered t (k ∷ ks) each =
    ap (λ (l : List Step). l ++ flat_map (λ j. steps_by j.ticket.handle t.steps) ks) each.0
    ∙ (ap (λ (l : List Step). cond (nat_eq k.ticket.tid t.tid) k.steps [] ++ l) (gathered t ks each.1)
    ∙ one-more (nat_eq k.ticket.tid t.tid) k (of_transaction t.tid ks))

made-by : (least low : ℕ) (ks : List TicketKnown) (t : Transaction) → AreRising least ks → AreInOrder low t.steps → IsOfAll ks t →
    IsOfTheirs ks t
made-by least low ks t up order all = classes least low ks t.steps up order all.own ∙ gathered t ks all.each

-- the parts of an order
record Ordered (low : ℕ) (xs ys : List Step) : Type 0 where
  front : AreInOrder low xs
  most : ℕ
  behind : AreInOrder most ys

ordered : (low : ℕ) (xs ys : List Step) → AreInOrder low (xs ++ ys) → Ordered low xs ys
ordered low [] ys order = record { front = tt; most = low; behind = order }
ordered low (x ∷ xs) ys order =
    let rest : Ordered x.handle xs ys = ordered x.handle xs ys order.1 in
    record { front = (order.0, rest.front); most = rest.most; behind = rest.behind }

pub all-made : (least low : ℕ) (ks : List TicketKnown) (ts : History) → AreRising least ks → AreInOrder low (steps_of ts) →
    AllByRecursion (IsOfAll ks) ts → AllByRecursion (IsOfTheirs ks) ts
all-made least low ks [] up order all = tt
all-made least low ks (t ∷ ts) up order all =
    let parts : Ordered low t.steps (steps_of ts) = ordered low t.steps (steps_of ts) order in
    (made-by least low ks t up parts.front all.0, all-made least parts.most ks ts up parts.behind all.1)

-- the order of a history without its last transaction
pub order-before : (low : ℕ) (ts : History) (t : Transaction) → AreInOrder low (steps_of (ts ++ t ∷ [])) → AreInOrder low (steps_of ts)
order-before low ts t order =
    let split : steps_of (ts ++ t ∷ []) ≡ steps_of ts ++ t.steps =
    flat_map-append (λ x. x.steps) ts (t ∷ []) ∙ ap (λ ss. steps_of ts ++ ss) (append-nil t.steps) in
    (ordered low (steps_of ts) t.steps (subst (AreInOrder low) split order)).front
