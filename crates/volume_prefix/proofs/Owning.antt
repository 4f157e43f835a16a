-- What a ticket's handle has in each transaction of a record.
use Rattle.std.proofs.Common.{◌≢◌, ◌⊎◌, inl, inr, refl, sym, ◌∙◌, ap, subst, arith, eq-eqb, ne_eqb, append-nil, ⊎_elim}
use Rattle.std.specs.Prelude.{◌≡◌, ◌≤◌, ◌<◌, ◌+◌, ℕ, suc, nat_eq, cond, Bool, true, false, List, [], ◌∷◌, ◌++◌, length, All, Contains}
use Rattle.std.specs.List.{AllByRecursion, IsDistinct}
use Rattle.std.proofs.lemmas.Bool.Decides.{nat_tests}
use Rattle.std.proofs.lemmas.List.Concat.{flat_map-append}
use Rattle.std.proofs.lemmas.List.Elements.{All-contains, All-from_recursion, Contains-append_left, Contains-append_right, filter-append, recursion_from_All}
use Rattle.std.proofs.lemmas.Map.Keys.{IsDistinct-head, IsDistinct-tail}
use Rattle.journal_model.proofs.ListElements.{contains-cases, contains-none}
use Rattle.journal_model.specs.declared.transaction.Step.{Step}
use Rattle.journal_model.specs.Record.{EachHandleOnce, steps_of}
use Rattle.journal_model.specs.Transaction.{AreNumbered, History, Transaction}
use Rattle.journal_world.specs.Front.{Front, handles_of, transactions}
use Rattle.locked_journal.specs.Known.{TicketKnown, own_of_ticket}
use Rattle.locked_journal.specs.Own.{IsOwn, steps_by}
use Rattle.volume_prefix.proofs.Orders.{StandsIn}

-- each step of the transaction is by one of its handles
abbrev pub Owns : Transaction → Type 0
Owns t = All (λ s. Contains t.handles s.handle) t.steps

-- a handle in two parts of a history of distinct ones
pub on-one-side : (n : ℕ) (xs ys : List ℕ) → IsDistinct nat_eq (xs ++ ys) → Contains xs n → Contains ys n → ⊥
on-one-side n [] ys once left right = contains-none n left
on-one-side n (x ∷ xs) ys once left right =
    ⊎_elim
    (λ (same : x ≡ n).
    let other : nat_eq x n ≡ false =
    All-contains (λ y. nat_eq x y ≡ false) (xs ++ ys) n
    (All-from_recursion (λ y. nat_eq x y ≡ false) (xs ++ ys) (IsDistinct-head nat_eq x (xs ++ ys) once))
    (Contains-append_right xs ys n right) in
    clash (sym (eq-eqb x n same) ∙ other))
    (λ (rest : Contains xs n). on-one-side n xs ys (IsDistinct-tail nat_eq x (xs ++ ys) once) rest right)
    (contains-cases x xs n left)
  where
    clash : true ≡ false → ⊥
    clash e = absurd cc

distinct-behind : (xs ys : List ℕ) → IsDistinct nat_eq (xs ++ ys) → IsDistinct nat_eq ys
distinct-behind [] ys once = once
distinct-behind (x ∷ xs) ys once = distinct-behind xs ys (IsDistinct-tail nat_eq x (xs ++ ys) once)

-- no transaction of a history without the handle has it
apart-in : (n : ℕ) (ts : History) → (Contains (handles_of ts) n → ⊥) → AllByRecursion (λ t. Contains t.handles n → ⊥) ts
apart-in n [] outside = tt
apart-in n (t ∷ ts) outside = (
  (λ m. outside (Contains-append_left t.handles (handles_of ts) n m)),
  apart-in n ts (λ m. outside (Contains-append_right t.handles (handles_of ts) n m)),
)

-- other handles made no step of it
none-by : (n : ℕ) (hs : List ℕ) (ss : List Step) → AllByRecursion (λ s. Contains hs s.handle) ss → (Contains hs n → ⊥) → steps_by n ss ≡ []
none-by n hs [] all outside = refl
none-by n hs (s ∷ ss) all outside =
    let differs : n ≢ s.handle = λ e. outside (subst (Contains hs) (sym e) all.0) in
    let no : nat_eq n s.handle ≡ false = ne_eqb n s.handle differs in
    rw no (none-by n hs ss all.1 outside)

no-steps : (n : ℕ) (ts : History) → AllByRecursion Owns ts → AllByRecursion (λ t. Contains t.handles n → ⊥) ts →
    AllByRecursion (λ t. steps_by n t.steps ≡ []) ts
no-steps n [] own outside = tt
no-steps n (t ∷ ts) own outside = (
  none-by n t.handles t.steps
      (recursion_from_All (λ s. Contains t.handles s.handle) t.steps own.0) outside.0,
  no-steps n ts own.1 outside.1,
)

-- a fact of all transactions is one of the first and one of the last
pub front-part : (P : Transaction → Type 0) (xs ys : History) → AllByRecursion P (xs ++ ys) → AllByRecursion P xs
front-part P [] ys all = tt
front-part P (x ∷ xs) ys all = (all.0, front-part P xs ys all.1)

pub behind-part : (P : Transaction → Type 0) (xs ys : History) → AllByRecursion P (xs ++ ys) → AllByRecursion P ys
behind-part P [] ys all = all
behind-part P (x ∷ xs) ys all = behind-part P xs ys all.1

-- transactions of other numbers, without a step of it
stand-apart : (k : TicketKnown) (first : ℕ) (ts : History) → AreNumbered first ts →
    (k.ticket.tid < first) ⊎ (first + length ts ≤ k.ticket.tid) → AllByRecursion (λ t. steps_by k.ticket.handle t.steps ≡ []) ts →
    AllByRecursion (λ t. StandsIn t k) ts
stand-apart k first [] numbered away none = tt
stand-apart k first (t ∷ ts) numbered away none =
    let is : t.tid ≡ first = numbered.0 in
    let differs : k.ticket.tid ≢ t.tid = elim away [ inl low ↦ omega arith | inr high ↦ omega arith ] in
    let no : nat_eq k.ticket.tid t.tid ≡ false = grind (arith, nat_tests) in
    let further : (k.ticket.tid < suc first) ⊎ (suc first + length ts ≤ k.ticket.tid) =
    elim away [ inl low ↦ inl (omega arith) | inr high ↦ inr (omega arith) ] in
    (none.0 ∙ ap (λ (b : Bool). cond b k.steps []) (sym no), stand-apart k (suc first) ts numbered.1 further none.1)

pub numbered-parts : (first : ℕ) (before : History) (t : Transaction) (behind : History) → AreNumbered first (before ++ t ∷ behind) →
    AreNumbered first before × (t.tid ≡ first + length before) × AreNumbered (first + length before + 1) behind
numbered-parts first [] t behind numbered =
    let zero_more : first ≡ first + 0 = omega arith in
    let one_more : suc first ≡ first + 0 + 1 = omega arith in
    (tt, numbered.0 ∙ zero_more, subst (λ (n : ℕ). AreNumbered n behind) one_more numbered.1)
numbered-parts first (u ∷ before) t behind numbered =
    let rest = numbered-parts (suc first) before t behind numbered.1 in
    let next : suc first + length before ≡ first + suc (length before) = omega arith in
    ((numbered.0, rest.0), rest.1 ∙ next, subst (λ (n : ℕ). AreNumbered (n + 1) behind) next rest.2)

join-all : (P : Transaction → Type 0) (xs : History) (t : Transaction) (ys : History) → AllByRecursion P xs → P t → AllByRecursion P ys →
    AllByRecursion P (xs ++ t ∷ ys)
join-all P [] t ys one it other = (it, other)
join-all P (x ∷ xs) t ys one it other = (one.0, join-all P xs t ys one.1 it other)

-- no transaction before or behind its own has the handle
record Alone (k : TicketKnown) (before behind : History) : Type 0 where
  joined_before : AllByRecursion (λ t. Contains t.handles k.ticket.handle → ⊥) before
  joined_behind : AllByRecursion (λ t. Contains t.handles k.ticket.handle → ⊥) behind
  none_before : AllByRecursion (λ t. steps_by k.ticket.handle t.steps ≡ []) before
  none_behind : AllByRecursion (λ t. steps_by k.ticket.handle t.steps ≡ []) behind

alone : (f : Front) (k : TicketKnown) → EachHandleOnce (transactions f) → (own : IsOwn f (own_of_ticket k)) →
    Alone k own.stands.before own.stands.behind
alone f k each own =
    let n : ℕ = k.ticket.handle in
    let before : History = own.stands.before in
    let t : Transaction = own.stands.transaction in
    let behind : History = own.stands.behind in
    let all : AllByRecursion Owns (before ++ t ∷ behind) =
    subst (AllByRecursion Owns) own.stands.among (recursion_from_All Owns (transactions f) each.own) in
    let handles : handles_of (transactions f) ≡ handles_of before ++ (t.handles ++ handles_of behind) =
    ap (λ (l : History). handles_of l) own.stands.among ∙ flat_map-append (λ x. x.handles) before (t ∷ behind) in
    let once : IsDistinct nat_eq (handles_of before ++ (t.handles ++ handles_of behind)) = subst (IsDistinct nat_eq) handles each.once in
    let left : AllByRecursion (λ u. Contains u.handles n → ⊥) before =
    apart-in n before
    (λ m. on-one-side n (handles_of before) (t.handles ++ handles_of behind) once m
    (Contains-append_left t.handles (handles_of behind) n own.stands.joined)) in
    let right : AllByRecursion (λ u. Contains u.handles n → ⊥) behind =
    apart-in n behind
    (λ m. on-one-side n t.handles (handles_of behind)
    (distinct-behind (handles_of before) (t.handles ++ handles_of behind) once) own.stands.joined m) in
    record {
      joined_before = left;
      joined_behind = right;
      none_before = no-steps n before (front-part Owns before (t ∷ behind) all) left;
      none_behind = no-steps n behind (behind-part Owns before (t ∷ behind) all).1 right;
    }

no-steps-of : (n : ℕ) (ts : History) → AllByRecursion (λ t. steps_by n t.steps ≡ []) ts → steps_by n (steps_of ts) ≡ []
no-steps-of n [] none = refl
no-steps-of n (t ∷ ts) none =
    filter-append (λ s. nat_eq n s.handle) t.steps (steps_of ts)
    ∙ (ap (λ (l : List Step). l ++ steps_by n (steps_of ts)) none.0 ∙ no-steps-of n ts none.1)

-- the record has the handle's steps alone
pub own-steps : (f : Front) (k : TicketKnown) → EachHandleOnce (transactions f) → IsOwn f (own_of_ticket k) →
    steps_by k.ticket.handle (steps_of (transactions f)) ≡ k.steps
own-steps f k each own =
    let n : ℕ = k.ticket.handle in
    let before : History = own.stands.before in
    let t : Transaction = own.stands.transaction in
    let behind : History = own.stands.behind in
    let apart : Alone k before behind = alone f k each own in
    let split : steps_of (transactions f) ≡ steps_of before ++ (t.steps ++ steps_of behind) =
    ap (λ (l : History). steps_of l) own.stands.among ∙ flat_map-append (λ x. x.steps) before (t ∷ behind) in
    ap (λ (l : List Step). steps_by n l) split
    ∙ (filter-append (λ s. nat_eq n s.handle) (steps_of before) (t.steps ++ steps_of behind)
    ∙ (ap (λ (l : List Step). l ++ steps_by n (t.steps ++ steps_of behind)) (no-steps-of n before apart.none_before)
    ∙ (filter-append (λ s. nat_eq n s.handle) t.steps (steps_of behind)
    ∙ (ap (λ (l : List Step). l ++ steps_by n (steps_of behind)) own.stands.steps
    ∙ (ap (λ (l : List Step). k.steps ++ l) (no-steps-of n behind apart.none_behind) ∙ append-nil k.steps)))))

-- what a ticket is in each transaction: its handle joined this one only if it is of its number, and its steps stand there alone
pub record IsIn (t : Transaction) (k : TicketKnown) : Type 0 where
  pub joins : Contains t.handles k.ticket.handle → k.ticket.tid ≡ t.tid
  pub stands : StandsIn t k

both-in : (k : TicketKnown) (ts : History) → AllByRecursion (λ t. Contains t.handles k.ticket.handle → ⊥) ts →
    AllByRecursion (λ t. StandsIn t k) ts → AllByRecursion (λ t. IsIn t k) ts
both-in k [] outside stands = tt
both-in k (t ∷ ts) outside stands = (record { joins = λ m. absurd (outside.0 m); stands = stands.0 }, both-in k ts outside.1 stands.1)

pub known-in : (f : Front) (first : ℕ) (k : TicketKnown) → AreNumbered first (transactions f) → EachHandleOnce (transactions f) →
    IsOwn f (own_of_ticket k) → AllByRecursion (λ t. IsIn t k) (transactions f)
known-in f first k in_order each own =
    let before : History = own.stands.before in
    let t : Transaction = own.stands.transaction in
    let behind : History = own.stands.behind in
    let apart : Alone k before behind = alone f k each own in
    let places = numbered-parts first before t behind (subst (AreNumbered first) own.stands.among in_order) in
    let number : t.tid ≡ k.ticket.tid = own.stands.number in
    let at : t.tid ≡ first + length before = places.1 in
    let here : StandsIn t k = own.stands.steps ∙ ap (λ (b : Bool). cond b k.steps []) (sym (eq-eqb k.ticket.tid t.tid (sym number))) in
    subst (λ (l : History). AllByRecursion (λ u. IsIn u k) l) (sym own.stands.among)
    (join-all (λ u. IsIn u k) before t behind
    (both-in k before apart.joined_before (stand-apart k first before places.0 (inr (omega arith)) apart.none_before))
    (record { joins = λ m. sym number; stands = here })
    (both-in k behind apart.joined_behind
    (stand-apart k (first + length before + 1) behind places.2 (inl (omega arith)) apart.none_behind)))

-- the same facts by transaction
pub by-transaction : (ts : History) (ks : List TicketKnown) → AllByRecursion (λ k. AllByRecursion (λ t. IsIn t k) ts) ks →
    AllByRecursion (λ t. AllByRecursion (IsIn t) ks) ts
by-transaction [] ks all = tt
by-transaction (t ∷ ts) ks all = (firsts ks all, by-transaction ts ks (others ks all))
  where
    firsts : (js : List TicketKnown) → AllByRecursion (λ k. AllByRecursion (λ u. IsIn u k) (t ∷ ts)) js → AllByRecursion (IsIn t) js
    firsts [] some = tt
    firsts (j ∷ js) some = (some.0.0, firsts js some.1)

    others : (js : List TicketKnown) → AllByRecursion (λ k. AllByRecursion (λ u. IsIn u k) (t ∷ ts)) js →
        AllByRecursion (λ k. AllByRecursion (λ u. IsIn u k) ts) js
    others [] some = tt
    others (j ∷ js) some = (some.0.1, others js some.1)

pub all-known : (f : Front) (first : ℕ) (ks : List TicketKnown) → AreNumbered first (transactions f) → EachHandleOnce (transactions f) →
    AllByRecursion (λ k. IsOwn f (own_of_ticket k)) ks → AllByRecursion (λ k. AllByRecursion (λ t. IsIn t k) (transactions f)) ks
all-known f first [] in_order each own = tt
all-known f first (k ∷ ks) in_order each own = (known-in f first k in_order each own.0, all-known f first ks in_order each own.1)
