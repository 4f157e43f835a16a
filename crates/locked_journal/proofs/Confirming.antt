-- A record confirms a receipt: the handle is recorded once, in a committed transaction, and no other has a step of it.
use Rattle.std.proofs.Common.{refl, sym, ◌∙◌, ap, subst, arith, cond, eq-eqb, append-nil, length-append, ⊎_elim}
use Rattle.std.specs.Prelude.{◌≡◌, ℕ, ◌+◌, ◌≤◌, nat_eq, Bool, true, false, List, [], ◌∷◌, ◌++◌, length, count_by, All, Contains}
use Rattle.std.specs.List.{AllByRecursion, IsDistinct}
use Rattle.std.proofs.lemmas.Bool.Decides.{nat_tests}
use Rattle.std.proofs.lemmas.List.Concat.{flat_map-append, flat_map-cons}
use Rattle.std.proofs.lemmas.List.Elements.{All-contains, All-from_recursion, Contains-append_left, Contains-append_right, filter-append, recursion_from_All}
use Rattle.std.proofs.lemmas.List.Sums.{sum_by-cons}
use Rattle.std.proofs.lemmas.Map.Keys.{IsDistinct-head, IsDistinct-tail}
use Rattle.journal_model.proofs.ListElements.{contains-cases, contains-none}
use Rattle.journal_model.specs.declared.transaction.Step.{Step}
use Rattle.journal_model.specs.Record.{EachHandleOnce, steps_of}
use Rattle.journal_model.specs.Transaction.{History, Transaction}
use Rattle.journal_world.specs.Front.{handles_of, transactions}
use Rattle.journal_world.specs.Journal.{Journal}
use Rattle.journal_world.proofs.Batches.{same-length}
use Rattle.journal_steps.specs.Journal.{Agrees}
use Rattle.locked_journal.specs.declared.own.OwnSteps.{OwnSteps}
use Rattle.locked_journal.specs.Own.{Confirms, IsOwn, steps_by}
use Rattle.locked_journal.proofs.Lists.{steps-none}
use Rattle.locked_journal.proofs.Keeping.{in-record}

abbrev Owns : Transaction → Type 0
Owns t = All (λ s. Contains t.handles s.handle) t.steps

abbrev counted : Bool → ℕ
counted b = cond b 1 0

-- A number that differs from all does not occur.
counts-none : (n : ℕ) (hs : List ℕ) → AllByRecursion (λ h. nat_eq n h ≡ false) hs → count_by (nat_eq n) hs ≡ 0
counts-none n [] all = refl
counts-none n (h ∷ hs) all =
    let sum : count_by (nat_eq n) (h ∷ hs) ≡ counted (nat_eq n h) + count_by (nat_eq n) hs = sum_by-cons (λ x. counted (nat_eq n x)) h hs in
    let here : counted (nat_eq n h) ≡ 0 = ap counted all.0 in
    let rest : count_by (nat_eq n) hs ≡ 0 = counts-none n hs all.1 in
    omega (arith, sum, here, rest)

-- A number among distinct ones occurs once.
counts-one : (n : ℕ) (hs : List ℕ) → IsDistinct nat_eq hs → Contains hs n → count_by (nat_eq n) hs ≡ 1
counts-one n [] once has = absurd (contains-none n has)
counts-one n (h ∷ hs) once has =
    let sum : count_by (nat_eq n) (h ∷ hs) ≡ counted (nat_eq n h) + count_by (nat_eq n) hs = sum_by-cons (λ x. counted (nat_eq n x)) h hs in
    ⊎_elim
    (λ (same : h ≡ n).
    let none : count_by (nat_eq n) hs ≡ 0 = counts-none n hs (subst (λ (k : ℕ). AllByRecursion (λ y. nat_eq k y ≡ false) hs) same (IsDistinct-head nat_eq h hs once)) in
    let here : counted (nat_eq n h) ≡ 1 = ap counted (eq-eqb n h (sym same)) in
    omega (arith, sum, here, none))
    (λ (rest : Contains hs n).
    let other : nat_eq h n ≡ false =
    All-contains (λ y. nat_eq h y ≡ false) hs n (All-from_recursion (λ y. nat_eq h y ≡ false) hs (IsDistinct-head nat_eq h hs once)) rest in
    let flipped : nat_eq n h ≡ false = grind (arith, nat_tests, other) in
    let here : counted (nat_eq n h) ≡ 0 = ap counted flipped in
    let one : count_by (nat_eq n) hs ≡ 1 = counts-one n hs (IsDistinct-tail nat_eq h hs once) rest in
    omega (arith, sum, here, one))
    (contains-cases h hs n has)

-- It is not on both sides.
on-one-side : (n : ℕ) (xs ys : List ℕ) → IsDistinct nat_eq (xs ++ ys) → Contains xs n → Contains ys n → ⊥
on-one-side n [] ys once left right = contains-none n left
on-one-side n (x ∷ xs) ys once left right =
    ⊎_elim
    (λ (same : x ≡ n).
    let other : nat_eq x n ≡ false =
    All-contains (λ y. nat_eq x y ≡ false) (xs ++ ys) n (All-from_recursion (λ y. nat_eq x y ≡ false) (xs ++ ys) (IsDistinct-head nat_eq x (xs ++ ys) once))
    (Contains-append_right xs ys n right) in
    true-not-false (sym (eq-eqb x n same) ∙ other))
    (λ (rest : Contains xs n). on-one-side n xs ys (IsDistinct-tail nat_eq x (xs ++ ys) once) rest right)
    (contains-cases x xs n left)
  where
    true-not-false : true ≡ false → ⊥
    true-not-false e = absurd cc

-- A history without the handle has no step of it.
steps-nowhere : (n : ℕ) (ts : History) → AllByRecursion Owns ts → (Contains (handles_of ts) n → ⊥) → steps_by n (steps_of ts) ≡ []
steps-nowhere n [] own outside = refl
steps-nowhere n (t ∷ ts) own outside =
    let handles : handles_of (t ∷ ts) ≡ t.handles ++ handles_of ts = flat_map-cons (λ x. x.handles) t ts in
    let here : steps_by n t.steps ≡ [] =
    steps-none n t.handles t.steps own.0 (λ has. outside (subst (λ (hs : List ℕ). Contains hs n) (sym handles) (Contains-append_left t.handles (handles_of ts) n has))) in
    let rest : steps_by n (steps_of ts) ≡ [] =
    steps-nowhere n ts own.1 (λ has. outside (subst (λ (hs : List ℕ). Contains hs n) (sym handles) (Contains-append_right t.handles (handles_of ts) n has))) in
    ap (λ (l : List Step). steps_by n l) (flat_map-cons (λ x. x.steps) t ts)
    ∙ (filter-append (λ s. nat_eq n s.handle) t.steps (steps_of ts)
    ∙ (ap (λ (l : List Step). l ++ steps_by n (steps_of ts)) here ∙ rest))

all-left : {X : Type 0} (P : X → Type 0) (xs ys : List X) → AllByRecursion P (xs ++ ys) → AllByRecursion P xs
all-left P [] ys all = tt
all-left P (x ∷ xs) ys all = (all.0, all-left P xs ys all.1)

all-right : {X : Type 0} (P : X → Type 0) (xs ys : List X) → AllByRecursion P (xs ++ ys) → AllByRecursion P ys
all-right P [] ys all = all
all-right P (x ∷ xs) ys all = all-right P xs ys all.1

distinct-right : (xs ys : List ℕ) → IsDistinct nat_eq (xs ++ ys) → IsDistinct nat_eq ys
distinct-right [] ys once = once
distinct-right (x ∷ xs) ys once = distinct-right xs ys (IsDistinct-tail nat_eq x (xs ++ ys) once)

-- All steps of a handle in the record are in its transaction.
all-here : (ts before : History) (t : Transaction) (behind : History) (n : ℕ) → EachHandleOnce ts → ts ≡ before ++ t ∷ behind →
    Contains t.handles n →
    steps_by n (steps_of ts) ≡ steps_by n t.steps
all-here ts before t behind n each is joined =
    let own : AllByRecursion Owns (before ++ t ∷ behind) = subst (AllByRecursion Owns) is (recursion_from_All Owns ts each.own) in
    let handles : handles_of ts ≡ handles_of before ++ (t.handles ++ handles_of behind) =
    ap (λ (l : History). handles_of l) is
    ∙ (flat_map-append (λ x. x.handles) before (t ∷ behind) ∙ ap (λ (l : List ℕ). handles_of before ++ l) (flat_map-cons (λ x. x.handles) t behind)) in
    let once : IsDistinct nat_eq (handles_of before ++ (t.handles ++ handles_of behind)) = subst (IsDistinct nat_eq) handles each.once in
    let left : steps_by n (steps_of before) ≡ [] =
    steps-nowhere n before (all-left Owns before (t ∷ behind) own)
    (λ has. on-one-side n (handles_of before) (t.handles ++ handles_of behind) once has (Contains-append_left t.handles (handles_of behind) n joined)) in
    let right : steps_by n (steps_of behind) ≡ [] =
    steps-nowhere n behind (all-right Owns before (t ∷ behind) own).1
    (λ has. on-one-side n t.handles (handles_of behind) (distinct-right (handles_of before) (t.handles ++ handles_of behind) once) joined has) in
    let steps : steps_of ts ≡ steps_of before ++ (t.steps ++ steps_of behind) =
    ap (λ (l : History). steps_of l) is
    ∙ (flat_map-append (λ x. x.steps) before (t ∷ behind) ∙ ap (λ (l : List Step). steps_of before ++ l) (flat_map-cons (λ x. x.steps) t behind)) in
    ap (λ (l : List Step). steps_by n l) steps
    ∙ (filter-append (λ s. nat_eq n s.handle) (steps_of before) (t.steps ++ steps_of behind)
    ∙ (ap (λ (l : List Step). l ++ steps_by n (t.steps ++ steps_of behind)) left
    ∙ (filter-append (λ s. nat_eq n s.handle) t.steps (steps_of behind)
    ∙ (ap (λ (l : List Step). steps_by n t.steps ++ l) right ∙ append-nil (steps_by n t.steps)))))

pub confirms : (j : Journal) (own : OwnSteps) → Agrees j → IsOwn j.front own → own.tid ≤ j.front.mark →
    Confirms j.engine.committed (transactions j.front) own
confirms j own agrees is told =
    let ts : History = transactions j.front in
    let stands = is.stands in
    let whole = length-append j.front.sealed (j.front.running ∷ []) in
    let size : length ts ≡ length (stands.before ++ stands.transaction ∷ stands.behind) = ap (λ (l : History). length l) stands.among in
    let parts = length-append stands.before (stands.transaction ∷ stands.behind) in
    let accepted = same-length j.front.sealed j.engine.accepted agrees.batches in
    let place = stands.place in
    let number = agrees.number in
    let finished = agrees.finished in
    let mark = agrees.mark in
    record {
      before = stands.before;
      transaction = stands.transaction;
      behind = stands.behind;
      among = stands.among;
      number = stands.number;
      committed_is = omega arith;
      joined = stands.joined;
      once = counts-one own.number (handles_of ts) agrees.handles.each.once
          (in-record ts stands.before stands.transaction stands.behind own.number stands.among stands.joined);
      steps = stands.steps;
      all = all-here ts stands.before stands.transaction stands.behind own.number agrees.handles.each stands.among stands.joined ∙ stands.steps;
    }
