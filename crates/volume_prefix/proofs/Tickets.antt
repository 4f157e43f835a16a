-- What follows of tickets whose work a record is.
use Rattle.std.proofs.Common.{refl, sym, ◌∙◌, ap, subst, arith, append-nil, ⊎_elim}
use Rattle.std.specs.Prelude.{◌≡◌, ◌≤◌, ◌<◌, ⊤, ℕ, zero, suc, nat_eq, List, [], ◌∷◌, ◌++◌, map, Contains}
use Rattle.std.specs.List.{AllByRecursion, IsDistinct}
use Rattle.std.proofs.lemmas.List.{append_assoc}
use Rattle.std.proofs.lemmas.List.Concat.{flat_map-append}
use Rattle.std.proofs.lemmas.List.Elements.{Contains-append_cases, Contains-append_left, Contains-append_right, recursion_from_All}
use Rattle.journal_model.proofs.ListElements.{contains-cases, contains-first, contains-none}
use Rattle.journal_model.specs.declared.transaction.Step.{Step}
use Rattle.journal_model.specs.Record.{EachHandleOnce}
use Rattle.journal_model.specs.Transaction.{AreNumbered, History, Transaction}
use Rattle.journal_world.specs.Front.{Front, handle_numbers, handles_of, transactions}
use Rattle.locked_journal.specs.Known.{TicketKnown, own_of_ticket}
use Rattle.locked_journal.specs.Own.{IsOwn}
use Rattle.volume_prefix.specs.Runs.{IsWorkOf}
use Rattle.volume_prefix.proofs.Orders.{AreRising, IsOfAll, NeverFall, StandsIn, numbers}
use Rattle.volume_prefix.proofs.Owning.{IsIn, Owns, all-known, by-transaction, front-part, on-one-side}

-- numbers that rise
abbrev Rise : ℕ → List ℕ → Type 0
Rise least [] = ⊤
Rise least (h ∷ hs) = (least < h) × Rise h hs

-- with a greater one at the end
rise-push : (least m : ℕ) (hs : List ℕ) → Rise least hs → AllByRecursion (λ h. h < m) hs → least < m → Rise least (hs ++ m ∷ [])
rise-push least m [] up all low = (low, tt)
rise-push least m (h ∷ hs) up all low = (up.0, rise-push h m hs up.1 all.1 all.0)

below-push : (m n : ℕ) (hs : List ℕ) → AllByRecursion (λ h. h < m) hs → m ≤ n → n < suc n → AllByRecursion (λ h. h < suc n) (hs ++ n ∷ [])
below-push m n [] all low next = (next, tt)
below-push m n (h ∷ hs) all low next = let less : h < m = all.0 in (omega arith, below-push m n hs all.1 low next)

-- the numbers given rise
record Numbered (m : ℕ) : Type 0 where
  rise : Rise 0 (handle_numbers m)
  below : AllByRecursion (λ h. h < suc m) (handle_numbers m)

numbered : (m : ℕ) → Numbered m
numbered zero = record { rise = tt; below = tt }
numbered (suc m) =
    let rest : Numbered m = numbered m in
    let low : 0 < suc m = omega arith in
    let same : suc m ≤ suc m = omega arith in
    let next : suc m < suc (suc m) = omega arith in
    record {
      rise = rise-push 0 (suc m) (handle_numbers m) rest.rise rest.below low;
      below = below-push (suc m) (suc m)
          (handle_numbers m) rest.below same next;
    }

-- and those of a first part
rise-front : (least : ℕ) (xs ys : List ℕ) → Rise least (xs ++ ys) → Rise least xs
rise-front least [] ys up = tt
rise-front least (x ∷ xs) ys up = (up.0, rise-front x xs ys up.1)

rising : (least : ℕ) (ks : List TicketKnown) → Rise least (numbers ks) → AreRising least ks
rising least [] up = tt
rising least (k ∷ ks) up = (up.0, rising k.ticket.handle ks up.1)

-- the numbers given out, and the tickets that have them
pub given-below : (given : ℕ) → AllByRecursion (λ h. h < suc given) (handle_numbers given)
given-below given = (numbered given).below

pub given-rise : (given : ℕ) (ks : List TicketKnown) → numbers ks ≡ handle_numbers given → AreRising 0 ks
given-rise given ks is = rising 0 ks (subst (Rise 0) (sym is) (numbered given).rise)

-- tickets whose handles are those of a history, in order, are of transactions that never fall
data Shares (hs rest : List ℕ) (ks : List TicketKnown) (more : List ℕ) : Type 0 where
  Within : (left : List ℕ) → hs ≡ numbers ks ++ left → Shares hs rest ks more
  Beyond : (here behind : List TicketKnown) → ks ≡ here ++ behind → hs ≡ numbers here → rest ≡ numbers behind ++ more →
      Shares hs rest ks more

shares : (hs rest : List ℕ) (ks : List TicketKnown) (more : List ℕ) → hs ++ rest ≡ numbers ks ++ more → Shares hs rest ks more
shares [] rest ks more is = Beyond [] ks refl refl is
shares (h ∷ hs) rest [] more is = Within (h ∷ hs) refl
shares (h ∷ hs) rest (k ∷ ks) more is =
    let head : h ≡ k.ticket.handle = cc in
    let tail : hs ++ rest ≡ numbers ks ++ more = cc in
    elim (shares hs rest ks more tail) [
      | Within left one ↦ Within left (ap (λ (l : List ℕ). h ∷ l) one ∙ ap (λ (x : ℕ). x ∷ (numbers ks ++ left)) head)
      | Beyond here behind one two three ↦
          Beyond (k ∷ here) behind (ap (λ (l : List TicketKnown). k ∷ l) one)
          (ap (λ (l : List ℕ). h ∷ l) two ∙ ap (λ (x : ℕ). x ∷ numbers here) head) three
    ]

-- tickets of handles of a transaction have its number
of-number : (t : Transaction) (ks : List TicketKnown) (left : List ℕ) (seen : List ℕ) → t.handles ≡ seen ++ (numbers ks ++ left) →
    AllByRecursion (IsIn t) ks → AllByRecursion (λ k. k.ticket.tid ≡ t.tid) ks
of-number t [] left seen is all = tt
of-number t (k ∷ ks) left seen is all =
    let has : Contains t.handles k.ticket.handle =
    subst (λ (hs : List ℕ). Contains hs k.ticket.handle) (sym is)
    (Contains-append_right seen (k.ticket.handle ∷ (numbers ks ++ left)) k.ticket.handle
    (contains-first k.ticket.handle (numbers ks ++ left) k.ticket.handle refl)) in
    let next : t.handles ≡ (seen ++ k.ticket.handle ∷ []) ++ (numbers ks ++ left) =
    is ∙ sym (append_assoc seen (k.ticket.handle ∷ []) (numbers ks ++ left)) in
    (all.0.joins has, of-number t ks left (seen ++ k.ticket.handle ∷ []) next all.1)

-- tickets of one transaction, and then of later ones
never-first : (n : ℕ) (ks : List TicketKnown) → AllByRecursion (λ k. k.ticket.tid ≡ n) ks → NeverFall n ks
never-first n [] all = tt
never-first n (k ∷ ks) all =
    let is : k.ticket.tid ≡ n = all.0 in
    let low : n ≤ k.ticket.tid = omega arith in
    (low, subst (λ (m : ℕ). NeverFall m ks) (sym is) (never-first n ks all.1))

never-lower : (m n : ℕ) (ks : List TicketKnown) → m ≤ n → NeverFall n ks → NeverFall m ks
never-lower m n [] low up = tt
never-lower m n (k ∷ ks) low up = let from : n ≤ k.ticket.tid = up.0 in (omega arith, up.1)

never-both : (n : ℕ) (here behind : List TicketKnown) → AllByRecursion (λ k. k.ticket.tid ≡ n) here → NeverFall n behind →
    NeverFall n (here ++ behind)
never-both n [] behind same up = up
never-both n (k ∷ ks) behind same up =
    let is : k.ticket.tid ≡ n = same.0 in
    let low : n ≤ k.ticket.tid = omega arith in
    (low, subst (λ (m : ℕ). NeverFall m (ks ++ behind)) (sym is) (never-both n ks behind same.1 up))

-- a fact of all is one of the first and one of the last
left-of : (P : TicketKnown → Type 0) (xs ys : List TicketKnown) → AllByRecursion P (xs ++ ys) → AllByRecursion P xs
left-of P [] ys all = tt
left-of P (x ∷ xs) ys all = (all.0, left-of P xs ys all.1)

right-of : (P : TicketKnown → Type 0) (xs ys : List TicketKnown) → AllByRecursion P (xs ++ ys) → AllByRecursion P ys
right-of P [] ys all = all
right-of P (x ∷ xs) ys all = right-of P xs ys all.1

behind-in : (here behind : List TicketKnown) (ts : History) → AllByRecursion (λ t. AllByRecursion (IsIn t) (here ++ behind)) ts →
    AllByRecursion (λ t. AllByRecursion (IsIn t) behind) ts
behind-in here behind [] all = tt
behind-in here behind (t ∷ ts) all = (right-of (IsIn t) here behind all.0, behind-in here behind ts all.1)

pub some-ks : (ks : List TicketKnown) → numbers ks ≡ [] → ks ≡ []
some-ks [] is = refl
some-ks (k ∷ ks) is = absurd cc

no-front : (xs ys : List ℕ) → [] ≡ xs ++ ys → xs ≡ []
no-front [] ys is = refl
no-front (x ∷ xs) ys is = absurd cc

-- all of them, by transactions
never : (first : ℕ) (ts : History) (ks : List TicketKnown) (more : List ℕ) → AreNumbered first ts → handles_of ts ≡ numbers ks ++ more →
    AllByRecursion (λ t. AllByRecursion (IsIn t) ks) ts → NeverFall first ks
never first [] ks more in_order is all =
    subst (NeverFall first) (sym (some-ks ks (no-front (numbers ks) more is))) tt
never first (t ∷ ts) ks more in_order is all =
    elim (shares t.handles (handles_of ts) ks more is) [
      | Within left one ↦
          never-first first ks
          (subst (λ (n : ℕ). AllByRecursion (λ k. k.ticket.tid ≡ n) ks) in_order.0 (of-number t ks left [] one all.0))
      | Beyond here behind one two three ↦
          let both : AllByRecursion (λ u. AllByRecursion (IsIn u) (here ++ behind)) (t ∷ ts) =
          subst (λ (l : List TicketKnown). AllByRecursion (λ u. AllByRecursion (IsIn u) l) (t ∷ ts)) one all in
          let mine : AllByRecursion (λ k. k.ticket.tid ≡ t.tid) here =
          of-number t here [] [] (two ∙ sym (append-nil (numbers here))) (left-of (IsIn t) here behind both.0) in
          let rest : NeverFall (suc first) behind = never (suc first) ts behind more in_order.1 three (behind-in here behind ts both.1) in
          let next : first ≤ suc first = omega arith in
          subst (NeverFall first) (sym one)
          (never-both first here behind (subst (λ (n : ℕ). AllByRecursion (λ k. k.ticket.tid ≡ n) here) in_order.0 mine)
          (never-lower first (suc first) behind next rest))
    ]

-- the handles of sealed transactions are of tickets
sealed-own : (ks : List TicketKnown) (ts : History) → AllByRecursion Owns ts →
    ((h : ℕ) → Contains (handles_of ts) h → Contains (numbers ks) h) → AllByRecursion (λ t. AllByRecursion (IsIn t) ks) ts →
    AllByRecursion (IsOfAll ks) ts
sealed-own ks [] own has all = tt
sealed-own ks (t ∷ ts) own has all = (
  record {
    own = each t.steps (recursion_from_All (λ s. Contains t.handles s.handle) t.steps own.0);
    each = stood ks all.0;
  },
  sealed-own ks ts own.1 (λ h m. has h (Contains-append_right t.handles (handles_of ts) h m)) all.1,
)
  where
    each : (ss : List Step) → AllByRecursion (λ s. Contains t.handles s.handle) ss → AllByRecursion (λ s. Contains (numbers ks) s.handle) ss
    each [] some = tt
    each (s ∷ ss) some = (has s.handle (Contains-append_left t.handles (handles_of ts) s.handle some.0), each ss some.1)

    stood : (js : List TicketKnown) → AllByRecursion (IsIn t) js → AllByRecursion (StandsIn t) js
    stood [] some = tt
    stood (j ∷ js) some = (some.0.stands, stood js some.1)

open-in : (f : Front) (os : List (ℕ × ℕ)) (h : ℕ) → AllByRecursion (λ o. Contains f.running.handles o.0) os →
    Contains (map (λ o. o.0) os) h → Contains f.running.handles h
open-in f [] h all m = absurd (contains-none h m)
open-in f (o ∷ os) h all m =
    ⊎_elim
    (λ (same : o.0 ≡ h). subst (Contains f.running.handles) same all.0)
    (λ (rest : Contains (map (λ x. x.0) os) h). open-in f os h all.1 rest)
    (contains-cases o.0 (map (λ x. x.0) os) h m)

-- the tickets are in order, and their handles made the sealed transactions
pub record Follows (f : Front) (first : ℕ) (ks : List TicketKnown) : Type 0 where
  pub ordered : NeverFall first ks
  pub rises : AreRising 0 ks
  pub sealed : AllByRecursion (IsOfAll ks) f.sealed

pub follows : (f : Front) (first : ℕ) (ks : List TicketKnown) → AreNumbered first (transactions f) → EachHandleOnce (transactions f) →
    handles_of (transactions f) ≡ handle_numbers f.given → AllByRecursion (λ o. Contains f.running.handles o.0) f.open_handles →
    IsWorkOf f ks → Follows f first ks
follows f first ks in_order each given opens work =
    let facts : AllByRecursion (λ t. AllByRecursion (IsIn t) ks) (transactions f) =
    by-transaction (transactions f) ks
    (all-known f first ks in_order each (recursion_from_All (λ k. IsOwn f (own_of_ticket k)) ks work.known)) in
    let apart : IsDistinct nat_eq (handles_of f.sealed ++ f.running.handles) =
    subst (IsDistinct nat_eq)
    (flat_map-append (λ x. x.handles) f.sealed (f.running ∷ [])
    ∙ ap (λ (hs : List ℕ). handles_of f.sealed ++ hs) (append-nil f.running.handles)) each.once in
    let own : AllByRecursion Owns f.sealed =
    front-part Owns f.sealed (f.running ∷ []) (recursion_from_All Owns (transactions f) each.own) in
    record {
      ordered = never first (transactions f) ks (map (λ o. o.0) f.open_handles) in_order work.joined facts;
      rises = rising 0 ks
          (rise-front 0 (numbers ks) (map (λ o. o.0) f.open_handles) (subst (Rise 0) (sym given ∙ work.joined) (numbered f.given).rise));
      sealed = sealed-own ks f.sealed own
          (λ h m.
          ⊎_elim
          (λ (mine : Contains (numbers ks) h). mine)
          (λ (other : Contains (map (λ o. o.0) f.open_handles) h).
          absurd (on-one-side h (handles_of f.sealed) f.running.handles apart m (open-in f f.open_handles h opens other)))
          (Contains-append_cases (numbers ks) (map (λ o. o.0) f.open_handles) h
          (subst (λ (hs : List ℕ). Contains hs h) work.joined
          (subst (λ (hs : List ℕ). Contains hs h) (sym (flat_map-append (λ x. x.handles) f.sealed (f.running ∷ [])))
          (Contains-append_left (handles_of f.sealed) (handles_of (f.running ∷ [])) h m)))))
          (front-part (λ t. AllByRecursion (IsIn t) ks) f.sealed (f.running ∷ []) facts);
    }
