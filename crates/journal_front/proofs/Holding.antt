-- A front's open handles: what a look-up finds, and what each step keeps.
use Rattle.std.proofs.Common.{Option, is_some, if◌then◌else◌, ◌≡◌, inl, inr, ℕ, ◌+◌, ◌-◌, ◌<◌, ◌≤◌, ◌^◌, false, true, List, [], ◌∷◌, ◌++◌, length, Some, refl, sym, ◌∙◌, ap, ap₂, subst, arith, nat_eq, eq-eqb, length-append}
use Rattle.std.proofs.lemmas.Bool.{cases_eq}
use Rattle.std.proofs.lemmas.Bool.Decides.{nat_tests}
use Rattle.std.proofs.lemmas.Option.{none-some, same_Some}
use Rattle.std.specs.List.{AllByRecursion}
use Rattle.std.specs.Map.{lookup, remove_entry}
use Rattle.indexmap.specs.IndexMap.{insert_entry}
use Rattle.journal_model.specs.Layout.{IsLayout}
use Rattle.log_model.specs.Opening.{greatest_number}
use Rattle.journal_model.specs.declared.transaction.Op.{Op}
use Rattle.journal_model.specs.declared.transaction.Op.TheVariants.{Write, Revoke}
use Rattle.journal_model.specs.declared.transaction.Step.{Step}
use Rattle.journal_model.specs.declared.entry.Entry.{Entry}
use Rattle.journal_model.specs.Transaction.{History, effect}
use Rattle.journal_model.proofs.ListElements.{each-append, option-known}
use Rattle.journal_world.specs.Front.{ExtendsHandle, Front, FrontEvent, FrontHappens, IsFirstTouch, IsOpen, Joins, MayJoin, RevokesBlock, StopsHandle, WritesBlock, held, left_after, left_in, next_handle, revoke_step, touching, write_step}
use Rattle.journal_world.specs.Front.FrontEvent.{Reserve, RefuseReserve, TakeBack, GiveBack, LoadCredits, LoadMark, Join, ExtendHandle, WriteBlock, RevokeBlock, StopHandle, Lock, Raise}
use Rattle.journal_world.proofs.Credits.{held-within, stopped-credits}
use Rattle.journal_world.proofs.Elements.{all-weaker}
use Rattle.journal_world.proofs.OpenHandles.{all-changed, all-without, left-among}
use Rattle.journal_front.specs.Front.{IsFront, MayTouch}

-- the handle's place among the open ones, with these credits
pub record IsAt (hs : List (ℕ × ℕ)) (h left : ℕ) : Type 0 where
  pub before : List (ℕ × ℕ)
  pub behind : List (ℕ × ℕ)
  pub stands : hs ≡ before ++ (h, left) ∷ behind
  pub inserted : (n : ℕ) → insert_entry nat_eq hs h n ≡ before ++ (h, n) ∷ behind
  pub removed : remove_entry (nat_eq h) hs ≡ before ++ behind

-- each handle that a look-up finds has such a place
pub at-handle : (hs : List (ℕ × ℕ)) (h left : ℕ) → lookup (nat_eq h) hs ≡ Some left → IsAt hs h left
at-handle [] h left found = absurd (none-some left found)
at-handle ((k, n) ∷ hs) h left found =
    elim (cases_eq h k) [
      | inl same ↦
          let has : n ≡ left = same_Some n left (rw (eq-eqb h k same) at found) in
          record {
            before = [];
            behind = hs;
            stands = ap₂ (λ (a b : ℕ). (a, b) ∷ hs) (sym same) has;
            inserted = λ m. rw (eq-eqb h k same) (ap (λ (a : ℕ). (a, m) ∷ hs) (sym same));
            removed = rw (eq-eqb h k same) refl;
          }
      | inr other ↦
          let apart : nat_eq h k ≡ false = grind (arith, nat_tests) in
          let rest = at-handle hs h left (rw apart at found) in
          record {
            before = (k, n) ∷ rest.before;
            behind = rest.behind;
            stands = ap (λ (es : List (ℕ × ℕ)). (k, n) ∷ es) rest.stands;
            inserted = λ m. rw apart (ap (λ (es : List (ℕ × ℕ)). (k, n) ∷ es) (rest.inserted m));
            removed = rw apart (ap (λ (es : List (ℕ × ℕ)). (k, n) ∷ es) rest.removed);
          }
    ]

-- a handle that a look-up finds is open
pub open-at : (f : Front) (h left : ℕ) → lookup (nat_eq h) f.open_handles ≡ Some left → IsOpen f h
open-at f h left found =
    let at = at-handle f.open_handles h left found in record { left = left; before = at.before; behind = at.behind; stands = at.stands }

-- it has no more credits than are held
pub left-held : (f : Front) (h left : ℕ) → lookup (nat_eq h) f.open_handles ≡ Some left → left ≤ held f
left-held f h left found =
    let at = at-handle f.open_handles h left found in
    let all : left_in f.open_handles ≡ left_in at.before + left + left_in at.behind =
    ap (λ (hs : List (ℕ × ℕ)). left_in hs) at.stands ∙ left-among at.before h left at.behind in
    omega arith

-- nor do its credits and those in no handle together exceed those held
pub left-reserved : (f : Front) (h left : ℕ) → lookup (nat_eq h) f.open_handles ≡ Some left → left + f.reserved ≤ held f
left-reserved f h left found =
    let at = at-handle f.open_handles h left found in
    let all : left_in f.open_handles ≡ left_in at.before + left + left_in at.behind =
    ap (λ (hs : List (ℕ × ℕ)). left_in hs) at.stands ∙ left-among at.before h left at.behind in
    omega arith

-- a look-up finds what was inserted
pub found-inserted : (hs : List (ℕ × ℕ)) (h n : ℕ) → lookup (nat_eq h) (insert_entry nat_eq hs h n) ≡ Some n
found-inserted [] h n = rw (eq-eqb h h refl) refl
found-inserted ((k, m) ∷ hs) h n =
    elim (cases_eq h k) [
      | inl same ↦ rw (eq-eqb h k same) (rw (eq-eqb h k same) refl)
      | inr other ↦ let apart : nat_eq h k ≡ false = grind (arith, nat_tests) in rw apart (rw apart (found-inserted hs h n))
    ]

-- a handle with a greater number than all others comes last
pub inserted-last : (hs : List (ℕ × ℕ)) (given h n : ℕ) → AllByRecursion (λ o. o.0 ≤ given) hs → given < h → insert_entry nat_eq hs h n ≡ hs ++ (h, n) ∷ []
inserted-last [] given h n least above = refl
inserted-last ((k, m) ∷ hs) given h n least above =
    let low : k ≤ given = least.0 in
    let apart : nat_eq h k ≡ false = grind (arith, nat_tests) in
    rw apart (ap (λ (es : List (ℕ × ℕ)). (k, m) ∷ es) (inserted-last hs given h n least.1 above))

-- a front whose invariant's parts hold is a front
like-front : (old new : Front) → IsFront old → new.layout ≡ old.layout → held new ≤ new.capacity → AllByRecursion (λ h. h.0 ≤ new.given) new.open_handles →
    new.given < 2 ^ 64 → (new.locked ≡ true → 0 < length new.running.handles) → new.running.tid ≡ old.running.tid → IsFront new
like-front old new front layout credits numbers given joined tid = record {
  layout = subst IsLayout (sym layout) front.layout;
  credits = credits;
  numbers = numbers;
  given = given;
  joined = joined;
  number = let low : old.running.tid ≤ greatest_number + 1 = front.number in omega arith;
}

-- each step keeps a front's invariant
pub is-front : (old new : Front) (event : FrontEvent) → FrontHappens old event new → IsFront old → IsFront new
is-front old new event step front = by event step (held-within old new event step front.credits)
  where
    on : (made : Front) → new ≡ made → (held made ≤ made.capacity → IsFront made) → held new ≤ new.capacity → IsFront new
    on made is keeps within = subst IsFront (sym is) (keeps (subst (λ (f : Front). held f ≤ f.capacity) is within))

    by : (event : FrontEvent) → FrontHappens old event new → held new ≤ new.capacity → IsFront new
    by (Reserve n) step within =
        on _ step.after (λ fits. like-front old _ front refl fits front.numbers front.given front.joined refl) within
    by (RefuseReserve n) step within =
        on _ step.after (λ fits. like-front old _ front refl fits front.numbers front.given front.joined refl) within
    by (TakeBack n) step within =
        on _ step.after (λ fits. like-front old _ front refl fits front.numbers front.given front.joined refl) within
    by (GiveBack n) step within =
        on _ step.after (λ fits. like-front old _ front refl fits front.numbers front.given front.joined refl) within
    by (LoadCredits found) step within = on _ step.after (λ fits. front) within
    by (LoadMark found) step within = on _ step.after (λ fits. front) within
    by (ExtendHandle h n) step within =
        on _ step.after
        (λ fits. like-front old _ front refl fits
        (all-changed (λ o. o.0 ≤ old.given) step.handle.before (h, step.handle.left) (h, step.handle.left + n) step.handle.behind (λ low. low)
        (subst (AllByRecursion (λ o. o.0 ≤ old.given)) step.handle.stands front.numbers))
        front.given front.joined refl) within
    by (Join n) step within =
        let one = length-append old.running.handles (next_handle old ∷ []) in
        on _ step.after
        (λ fits. like-front old _ front refl fits
        (each-append (λ h. h.0 ≤ next_handle old) old.open_handles ((next_handle old, n) ∷ [])
        (all-weaker (λ h. h.0 ≤ old.given) (λ h. h.0 ≤ next_handle old) (λ h low. omega arith) old.open_handles front.numbers) (omega arith, tt))
        step.may.handle (λ is. omega arith) refl) within
    by (WriteBlock h b v) step within =
        on _ step.after
        (λ fits. like-front old _ front refl fits
        (all-changed (λ o. o.0 ≤ old.given) step.handle.before (h, step.handle.left) (h, left_after old b step.handle.left) step.handle.behind (λ low. low)
        (subst (AllByRecursion (λ o. o.0 ≤ old.given)) step.handle.stands front.numbers))
        front.given front.joined refl) within
    by (RevokeBlock h b) step within =
        on _ step.after
        (λ fits. like-front old _ front refl fits
        (all-changed (λ o. o.0 ≤ old.given) step.handle.before (h, step.handle.left) (h, left_after old b step.handle.left) step.handle.behind (λ low. low)
        (subst (AllByRecursion (λ o. o.0 ≤ old.given)) step.handle.stands front.numbers))
        front.given front.joined refl) within
    by (StopHandle h) step within =
        on _ step.after
        (λ fits. like-front old _ front refl fits
        (all-without (λ o. o.0 ≤ old.given) step.handle.before (h, step.handle.left) step.handle.behind
        (subst (AllByRecursion (λ o. o.0 ≤ old.given)) step.handle.stands front.numbers))
        front.given front.joined refl) within
    by Lock step within =
        on _ step.after (λ fits. like-front old _ front refl fits front.numbers front.given (λ is. step.joined) refl) within
    by (Raise t) step within =
        on _ step.after (λ fits. like-front old _ front refl fits front.numbers front.given front.joined refl) within

-- taking a found handle out stops it
pub stops : (f : Front) (h left : ℕ) (hs : List (ℕ × ℕ)) → lookup (nat_eq h) f.open_handles ≡ Some left → hs ≡ remove_entry (nat_eq h) f.open_handles →
    StopsHandle f h (record f { open_handles = hs })
stops f h left hs found taken =
    let at = at-handle f.open_handles h left found in
    record {
      handle = record { left = left; before = at.before; behind = at.behind; stands = at.stands };
      after = ap (λ (es : List (ℕ × ℕ)). record f { open_handles = es }) (taken ∙ at.removed);
    }

-- then its unused credits are no longer held
pub stops-held : (f : Front) (h left : ℕ) (hs : List (ℕ × ℕ)) → lookup (nat_eq h) f.open_handles ≡ Some left → hs ≡ remove_entry (nat_eq h) f.open_handles →
    held (record f { open_handles = hs }) + left ≡ held f
unfolding stops
stops-held f h left hs found taken = stopped-credits f (record f { open_handles = hs }) h (stops f h left hs found taken)

-- a front with these sealed transactions, open handles, and handles and steps of the running one
abbrev pub remade : Front → History → List ℕ → List Step → List (ℕ × ℕ) → Front
remade f sealed handles steps hs =
    record f { sealed = sealed; running = record f.running { handles = handles; steps = steps }; open_handles = hs }

-- noting a found handle's step and its credits is a touch of the block
touched : (f : Front) (h b left : ℕ) (op : Op) (hs : List (ℕ × ℕ)) (found : lookup (nat_eq h) f.open_handles ≡ Some left) →
    hs ≡ insert_entry nat_eq f.open_handles h (left_after f b left) →
    remade f f.sealed f.running.handles (f.running.steps ++ record { handle = h; block = b; op = op } ∷ []) hs ≡ touching f h b op (open-at f h left found)
unfolding open-at at-handle
touched f h b left op hs found told =
    let at = at-handle f.open_handles h left found in
    ap (λ (es : List (ℕ × ℕ)). remade f f.sealed f.running.handles (f.running.steps ++ record { handle = h; block = b; op = op } ∷ []) es)
    (told ∙ at.inserted (left_after f b left))

-- that touch can be a write
pub writes : (f : Front) (h b left : ℕ) (v : List ℕ) (hs : List (ℕ × ℕ)) → f.aborted ≡ false → lookup (nat_eq h) f.open_handles ≡ Some left →
    (IsFirstTouch f b → 0 < left) → MayTouch f b → length v ≡ f.layout.block_size → hs ≡ insert_entry nat_eq f.open_handles h (left_after f b left) →
    WritesBlock f h b v (remade f f.sealed f.running.handles (f.running.steps ++ write_step h b v ∷ []) hs)
unfolding open-at
writes f h b left v hs running found credit allowed whole told = record {
  running = running;
  handle = open-at f h left found;
  credit = credit;
  allowed = allowed;
  whole = whole;
  after = touched f h b left (Write v) hs found told;
}

-- or a revoke
pub revokes : (f : Front) (h b left : ℕ) (hs : List (ℕ × ℕ)) → f.aborted ≡ false → lookup (nat_eq h) f.open_handles ≡ Some left →
    (IsFirstTouch f b → 0 < left) → MayTouch f b → hs ≡ insert_entry nat_eq f.open_handles h (left_after f b left) →
    RevokesBlock f h b (remade f f.sealed f.running.handles (f.running.steps ++ revoke_step h b ∷ []) hs)
unfolding open-at
revokes f h b left hs running found credit allowed told = record {
  running = running;
  handle = open-at f h left found;
  credit = credit;
  allowed = allowed;
  after = touched f h b left Revoke hs found told;
}

-- noting further credits extends a found handle
pub extends : (f : Front) (h left n : ℕ) (hs : List (ℕ × ℕ)) → f.aborted ≡ false → f.locked ≡ false → lookup (nat_eq h) f.open_handles ≡ Some left →
    n ≤ f.reserved → hs ≡ insert_entry nat_eq f.open_handles h (left + n) → ExtendsHandle f h n (record f { reserved = f.reserved - n; open_handles = hs })
unfolding open-at at-handle
extends f h left n hs running unlocked found granted told =
    let at = at-handle f.open_handles h left found in
    record {
      running = running;
      unlocked = unlocked;
      handle = open-at f h left found;
      credits = granted;
      after = ap (λ (es : List (ℕ × ℕ)). record f { reserved = f.reserved - n; open_handles = es }) (told ∙ at.inserted (left + n));
    }

-- noting a new number with its credits lets a handle join
pub joins : (f : Front) (n : ℕ) (sealed : History) (handles : List ℕ) (hs : List (ℕ × ℕ)) → f.aborted ≡ false → MayJoin f → n ≤ f.reserved →
    AllByRecursion (λ h. h.0 ≤ f.given) f.open_handles → sealed ≡ f.sealed → handles ≡ f.running.handles ++ next_handle f ∷ [] →
    hs ≡ insert_entry nat_eq f.open_handles (next_handle f) n →
    Joins f n (record (remade f sealed handles f.running.steps hs) { reserved = f.reserved - n; given = next_handle f })
joins f n sealed handles hs running may granted least same noted told =
    let last = inserted-last f.open_handles f.given (next_handle f) n least (omega arith) in
    let made = λ (ts : History) (js : List ℕ) (es : List (ℕ × ℕ)). record (remade f ts js f.running.steps es) { reserved = f.reserved - n; given = next_handle f } in
    record {
      running = running;
      may = may;
      credits = granted;
      after = ap (λ (ts : History). made ts handles hs) same ∙ ap₂ (λ (js : List ℕ) (es : List (ℕ × ℕ)). made f.sealed js es) noted (told ∙ last);
    }

-- a first touch takes one credit
pub left-first : (f : Front) (b left : ℕ) → IsFirstTouch f b → left_after f b left ≡ left - 1
left-first f b left first = ap (λ (o : Option Entry). if is_some o then left else left - 1) first

-- a later touch takes none
pub left-later : (f : Front) (b left : ℕ) → (IsFirstTouch f b → ⊥) → left_after f b left ≡ left
left-later f b left later =
    elim (option-known (effect b f.running.steps)) [
      | inl none ↦ absurd (later none)
      | inr (e, known) ↦ ap (λ (o : Option Entry). if is_some o then left else left - 1) known
    ]
