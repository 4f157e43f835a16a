-- Each handle belongs to one transaction, and none has a number still to be given.
use Rattle.std.proofs.Common.{◌≡◌, ℕ, suc, ◌+◌, ◌<◌, ◌≤◌, false, List, [], ◌∷◌, ◌++◌, Some, arith, refl, sym, ◌∙◌, ap, subst, append-nil}
use Rattle.std.specs.Prelude.{nat_eq, All}
use Rattle.std.specs.List.{AllByRecursion, Contains, IsDistinct, list_any}
use Rattle.std.proofs.lemmas.Bool.Decides.{nat_tests}
use Rattle.std.proofs.lemmas.Cmp.{nat_eq_equiv}
use Rattle.std.proofs.lemmas.List.{append_assoc}
use Rattle.std.proofs.lemmas.List.Concat.{flat_map-append}
use Rattle.std.proofs.lemmas.List.Elements.{All-nil, All-pop, All-push, All-weaker, Contains-append_left}
use Rattle.std.proofs.lemmas.Map.Keys.{IsDistinct-push}
use Rattle.journal_model.proofs.ListElements.{each-append}
use Rattle.journal_model.specs.declared.transaction.Step.{Step}
use Rattle.journal_model.specs.Record.{EachHandleOnce}
use Rattle.journal_model.specs.Transaction.{History, Transaction}
use Rattle.journal_world.specs.Front.{empty_transaction, handle_numbers, handles_of}
use Rattle.journal_world.proofs.Elements.{all-weaker, none-passes}

-- each step of the transaction is by one of its handles
abbrev pub OwnsSteps : Transaction → Type 0
OwnsSteps t = All (λ s. Contains t.handles s.handle) t.steps

-- each handle is of one transaction, and handles are the numbers given out
pub record HasHandles (given : ℕ) (ts : History) : Type 0 where
  pub each : EachHandleOnce ts
  pub all : handles_of ts ≡ handle_numbers given
  pub least : AllByRecursion (λ h. h ≤ given) (handles_of ts)

-- the handles of a history with one more transaction
pub handles-last : (ts : History) (t : Transaction) → handles_of (ts ++ t ∷ []) ≡ handles_of ts ++ t.handles
handles-last ts t = flat_map-append (λ x. x.handles) ts (t ∷ []) ∙ ap (λ hs. handles_of ts ++ hs) (append-nil t.handles)

-- the handles with one more in the last transaction
handles-more : (ts : History) (t : Transaction) (h : ℕ) →
    handles_of (ts ++ record t { handles = t.handles ++ h ∷ [] } ∷ []) ≡ handles_of (ts ++ t ∷ []) ++ h ∷ []
handles-more ts t h =
    handles-last ts (record t { handles = t.handles ++ h ∷ [] })
    ∙ sym (append_assoc (handles_of ts) t.handles (h ∷ []))
    ∙ ap (λ hs. hs ++ h ∷ []) (sym (handles-last ts t))

-- a fact of all transactions, split at the last one
own-parts : (ts : History) (t : Transaction) → All OwnsSteps (ts ++ t ∷ []) → All OwnsSteps ts × OwnsSteps t
own-parts ts t own = All-pop OwnsSteps (ts ++ t ∷ []) ts (Some t) refl own

-- a number above all others is none of them
above-none : (most n : ℕ) (hs : List ℕ) → AllByRecursion (λ h. h ≤ most) hs → most < n → list_any (nat_eq n) hs ≡ false
above-none most n hs least above =
    none-passes (nat_eq n) hs (all-weaker (λ h. h ≤ most) (λ h. nat_eq n h ≡ false) (λ h low. grind (arith, nat_tests)) hs least)

-- the handle numbers with one more
numbers-more : (given : ℕ) → handle_numbers given ++ (given + 1) ∷ [] ≡ handle_numbers (given + 1)
numbers-more given =
    let next : suc given ≡ given + 1 = omega arith in
    subst (λ n. handle_numbers given ++ n ∷ [] ≡ handle_numbers n) next refl

-- an empty transaction has no handles
pub handles-empty : (n : ℕ) → HasHandles 0 (empty_transaction n ∷ [])
handles-empty n = record {
  each = record {
    once = unfold IsDistinct in tt;
    own = All-push OwnsSteps [] (empty_transaction n) (All-nil OwnsSteps) (All-nil (λ s. Contains [] s.handle));
  };
  all = refl;
  least = tt;
}

-- the next number may join the last transaction
pub handles-join : (given : ℕ) (ts : History) (t : Transaction) → HasHandles given (ts ++ t ∷ []) →
    HasHandles (given + 1) (ts ++ record t { handles = t.handles ++ (given + 1) ∷ [] } ∷ [])
handles-join given ts t has =
    let same = handles-more ts t (given + 1) in
    let own = own-parts ts t has.each.own in
    let fresh = above-none given (given + 1) (handles_of (ts ++ t ∷ [])) has.least (omega arith) in
    let once = IsDistinct-push nat_eq_equiv (handles_of (ts ++ t ∷ [])) (given + 1) has.each.once fresh in
    let least = all-weaker (λ h. h ≤ given) (λ h. h ≤ given + 1) (λ h low. omega arith) (handles_of (ts ++ t ∷ [])) has.least in
    record {
      each = record {
        once = subst (IsDistinct nat_eq) (sym same) once;
        own = All-push OwnsSteps ts (record t { handles = t.handles ++ (given + 1) ∷ [] }) own.0
            (All-weaker (λ s. Contains t.handles s.handle) (λ s. Contains (t.handles ++ (given + 1) ∷ []) s.handle)
            (λ s m. Contains-append_left t.handles ((given + 1) ∷ []) s.handle m) t.steps own.1);
      };
      all = same ∙ ap (λ hs. hs ++ (given + 1) ∷ []) has.all ∙ numbers-more given;
      least = subst (AllByRecursion (λ h. h ≤ given + 1)) (sym same)
          (each-append (λ h. h ≤ given + 1) (handles_of (ts ++ t ∷ [])) ((given + 1) ∷ []) least (omega arith, tt));
    }

-- a handle of the last transaction may make one more step
pub handles-step : (given : ℕ) (ts : History) (t : Transaction) (s : Step) → Contains t.handles s.handle → HasHandles given (ts ++ t ∷ []) →
    HasHandles given (ts ++ record t { steps = t.steps ++ s ∷ [] } ∷ [])
handles-step given ts t s joined has =
    let own = own-parts ts t has.each.own in
    let u : Transaction = record t { steps = t.steps ++ s ∷ [] } in
    let same : handles_of (ts ++ t ∷ []) ≡ handles_of (ts ++ u ∷ []) = handles-last ts t ∙ sym (handles-last ts u) in
    record {
      each = record {
        once = subst (IsDistinct nat_eq) same has.each.once;
        own = All-push OwnsSteps ts u own.0 (All-push (λ x. Contains t.handles x.handle) t.steps s own.1 joined);
      };
      all = sym same ∙ has.all;
      least = subst (AllByRecursion (λ h. h ≤ given)) same has.least;
    }

-- an empty transaction may follow the others
pub handles-begin : (given : ℕ) (ts : History) (n : ℕ) → HasHandles given ts → HasHandles given (ts ++ empty_transaction n ∷ [])
handles-begin given ts n has =
    let same : handles_of ts ≡ handles_of (ts ++ empty_transaction n ∷ []) =
    sym (handles-last ts (empty_transaction n) ∙ append-nil (handles_of ts)) in
    record {
      each = record {
        once = subst (IsDistinct nat_eq) same has.each.once;
        own = All-push OwnsSteps ts (empty_transaction n) has.each.own (All-nil (λ s. Contains [] s.handle));
      };
      all = sym same ∙ has.all;
      least = subst (AllByRecursion (λ h. h ≤ given)) same has.least;
    }
