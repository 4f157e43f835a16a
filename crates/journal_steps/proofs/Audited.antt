-- Each step of a front, a noted read and a seal keep the facts about its handles.
use Rattle.std.proofs.Common.{arith, sym, ap, subst, ◌∙◌}
use Rattle.std.specs.Prelude.{◌≡◌, ℕ, zero, suc, ◌+◌, ◌≤◌, nat_eq, Bool, false, List, [], ◌∷◌, ◌++◌, map, Contains}
use Rattle.std.specs.List.{AllByRecursion, IsDistinct, list_any}
use Rattle.std.proofs.lemmas.Bool.Decides.{nat_tests}
use Rattle.std.proofs.lemmas.Cmp.{nat_eq_equiv}
use Rattle.std.proofs.lemmas.List.{map-append}
use Rattle.std.proofs.lemmas.List.Elements.{All-contains, All-from_recursion, Contains-append_left, Contains-append_right, Contains-push}
use Rattle.std.proofs.lemmas.Map.Keys.{IsDistinct-push}
use Rattle.journal_model.specs.declared.transaction.Op.{Op}
use Rattle.journal_model.specs.declared.transaction.Op.TheVariants.{Write, Revoke}
use Rattle.journal_model.proofs.ListElements.{each-append}
use Rattle.journal_world.specs.Front.{Front, FrontEvent, FrontHappens, IsOpen, extending, fresh_front, handle_numbers, handles_of, joining, left_after, next_handle, read_step, reading_block, sealing, stopping, touching}
use Rattle.journal_world.specs.Front.FrontEvent.{Reserve, RefuseReserve, TakeBack, GiveBack, LoadCredits, LoadMark, Join, ExtendHandle, WriteBlock, RevokeBlock, StopHandle, Lock, Raise}
use Rattle.journal_world.proofs.Elements.{all-weaker, none-passes}
use Rattle.journal_world.proofs.Handles.{HasHandles, handles-begin, handles-empty, handles-join, handles-last, handles-step}
use Rattle.journal_world.proofs.OpenHandles.{all-changed, all-without, distinct-without, same-numbers}
use Rattle.journal_model.specs.Layout.{Layout}
use Rattle.journal_steps.specs.Handles.{KeepsHandles}

-- the first n numbers are at most n
numbers-least : (n : ℕ) → AllByRecursion (λ h. h ≤ n) (handle_numbers n)
numbers-least zero = tt
numbers-least (suc n) =
    each-append (λ h. h ≤ suc n) (handle_numbers n) (suc n ∷ [])
    (all-weaker (λ h. h ≤ n) (λ h. h ≤ suc n) (λ h low. omega arith) (handle_numbers n) (numbers-least n)) (omega arith, tt)

-- so no handle has a number that is still to be given
pub has-handles : (f : Front) → KeepsHandles f → HasHandles f.given (f.sealed ++ f.running ∷ [])
has-handles f kept = record { each = kept.each; all = kept.all; least = subst (AllByRecursion (λ h. h ≤ f.given)) (sym kept.all) (numbers-least f.given) }

-- nor does a handle of the running transaction
running-least : (f : Front) → KeepsHandles f → (h : ℕ) → Contains f.running.handles h → h ≤ f.given
running-least f kept h joined =
    All-contains (λ n. n ≤ f.given) (handles_of (f.sealed ++ f.running ∷ [])) h (All-from_recursion _ (handles_of (f.sealed ++ f.running ∷ [])) (has-handles f kept).least)
    (subst (λ (hs : List ℕ). Contains hs h) (sym (handles-last f.sealed f.running)) (Contains-append_right (handles_of f.sealed) f.running.handles h joined))

-- the next number is no open handle's
next-fresh : (f : Front) → KeepsHandles f → list_any (nat_eq (next_handle f)) (map (λ h. h.0) f.open_handles) ≡ false
next-fresh f kept = none-passes (nat_eq (f.given + 1)) (map (λ h. h.0) f.open_handles) (apart f.open_handles kept.joined)
  where
    apart : (rest : List (ℕ × ℕ)) → AllByRecursion (λ h. Contains f.running.handles h.0) rest →
        AllByRecursion (λ k. nat_eq (f.given + 1) k ≡ false) (map (λ h. h.0) rest)
    apart [] all = tt
    apart (h ∷ rest) all = let low : h.0 ≤ f.given = running-least f kept h.0 all.0 in (grind (arith, nat_tests, low), apart rest all.1)

-- `finished`, `mark` and `aborted` do not matter
pub kept-beside : (f : Front) (finished mark : ℕ) (aborted : Bool) → KeepsHandles f → KeepsHandles (record f { finished = finished; mark = mark; aborted = aborted })
kept-beside f finished mark aborted kept = record { each = kept.each; all = kept.all; joined = kept.joined; once = kept.once }

-- a join keeps them
join-kept : (f : Front) (n : ℕ) → KeepsHandles f → KeepsHandles (joining f n)
join-kept f n kept =
    let number : ℕ × ℕ → ℕ = λ h. h.0 in
    let has = handles-join f.given f.sealed f.running (has-handles f kept) in
    record {
      each = has.each;
      all = has.all;
      joined =
          each-append (λ h. Contains (f.running.handles ++ next_handle f ∷ []) h.0) f.open_handles ((next_handle f, n) ∷ [])
          (all-weaker (λ h. Contains f.running.handles h.0) (λ h. Contains (f.running.handles ++ next_handle f ∷ []) h.0)
          (λ h one. Contains-append_left f.running.handles (next_handle f ∷ []) h.0 one) f.open_handles kept.joined)
          (Contains-push f.running.handles (next_handle f), tt);
      once =
          subst (IsDistinct nat_eq) (sym (map-append number f.open_handles ((next_handle f, n) ∷ [])))
          (IsDistinct-push nat_eq_equiv (map number f.open_handles) (next_handle f) kept.once (next-fresh f kept));
    }

-- an extension keeps them
extend-kept : (f : Front) (h n : ℕ) (handle : IsOpen f h) → KeepsHandles f → KeepsHandles (extending f h n handle)
extend-kept f h n handle kept = record {
  each = kept.each;
  all = kept.all;
  joined =
      all-changed (λ o. Contains f.running.handles o.0) handle.before (h, handle.left) (h, handle.left + n) handle.behind (λ one. one)
      (subst (AllByRecursion (λ o. Contains f.running.handles o.0)) handle.stands kept.joined);
  once =
      subst (IsDistinct nat_eq) (ap (map (λ o. o.0)) handle.stands ∙ same-numbers handle.before h handle.left (handle.left + n) handle.behind)
      kept.once;
}

-- an open handle has joined
own-handle : (handles : List ℕ) (h left : ℕ) (before behind : List (ℕ × ℕ)) →
    AllByRecursion (λ o. Contains handles o.0) (before ++ (h, left) ∷ behind) → Contains handles h
own-handle handles h left [] behind all = all.0
own-handle handles h left (o ∷ before) behind all = own-handle handles h left before behind all.1

-- so has a handle whose credits a look-up finds
pub is-own : (f : Front) (h : ℕ) → IsOpen f h → KeepsHandles f → Contains f.running.handles h
is-own f h handle kept =
    own-handle f.running.handles h handle.left handle.before handle.behind (subst (AllByRecursion (λ o. Contains f.running.handles o.0)) handle.stands kept.joined)

-- a touch keeps them
touch-kept : (f : Front) (h b : ℕ) (op : Op) (handle : IsOpen f h) → KeepsHandles f → KeepsHandles (touching f h b op handle)
touch-kept f h b op handle kept =
    let has = handles-step f.given f.sealed f.running (record { handle = h; block = b; op = op }) (is-own f h handle kept) (has-handles f kept) in
    record {
      each = has.each;
      all = has.all;
      joined =
          all-changed (λ o. Contains f.running.handles o.0) handle.before (h, handle.left) (h, left_after f b handle.left) handle.behind (λ one. one)
          (subst (AllByRecursion (λ o. Contains f.running.handles o.0)) handle.stands kept.joined);
      once =
          subst (IsDistinct nat_eq) (ap (map (λ o. o.0)) handle.stands ∙ same-numbers handle.before h handle.left (left_after f b handle.left) handle.behind)
          kept.once;
    }

-- a read keeps them
pub read-kept : (f : Front) (h b : ℕ) (v : List ℕ) → IsOpen f h → KeepsHandles f → KeepsHandles (reading_block f h b v)
read-kept f h b v handle kept =
    let has = handles-step f.given f.sealed f.running (read_step h b v) (is-own f h handle kept) (has-handles f kept) in
    record { each = has.each; all = has.all; joined = kept.joined; once = kept.once }

-- a stop keeps them
stop-kept : (f : Front) (h : ℕ) (handle : IsOpen f h) → KeepsHandles f → KeepsHandles (stopping f h handle)
stop-kept f h handle kept = record {
  each = kept.each;
  all = kept.all;
  joined =
      all-without (λ o. Contains f.running.handles o.0) handle.before (h, handle.left) handle.behind
      (subst (AllByRecursion (λ o. Contains f.running.handles o.0)) handle.stands kept.joined);
  once =
      distinct-without handle.before (h, handle.left) handle.behind
      (subst (λ (hs : List (ℕ × ℕ)). IsDistinct nat_eq (map (λ o. o.0) hs)) handle.stands kept.once);
}

-- a seal without open handles keeps them
pub seal-kept : (f : Front) → f.open_handles ≡ [] → KeepsHandles f → KeepsHandles (sealing f)
seal-kept f none kept =
    let has = handles-begin f.given (f.sealed ++ f.running ∷ []) (suc f.running.tid) (has-handles f kept) in
    record {
      each = has.each;
      all = has.all;
      joined = subst (AllByRecursion (λ o. Contains [] o.0)) (sym none) tt;
      once = kept.once;
    }

-- a new front has them
pub fresh-kept : (layout : Layout) (home_blocks capacity first : ℕ) → KeepsHandles (fresh_front layout home_blocks capacity first)
fresh-kept layout home_blocks capacity first =
    let has = handles-empty first in
    record { each = has.each; all = has.all; joined = tt; once = unfold IsDistinct in tt }

-- each step of the front alone keeps them
pub step-kept : (f front : Front) (event : FrontEvent) → FrontHappens f event front → KeepsHandles f → KeepsHandles front
step-kept f front event step kept = by event step
  where
    same : {made : Front} → front ≡ made → KeepsHandles made → KeepsHandles front
    same is made = subst KeepsHandles (sym is) made

    by : (event : FrontEvent) → FrontHappens f event front → KeepsHandles front
    by (Reserve n) step = same step.after (record { each = kept.each; all = kept.all; joined = kept.joined; once = kept.once })
    by (RefuseReserve n) step = same step.after (record { each = kept.each; all = kept.all; joined = kept.joined; once = kept.once })
    by (TakeBack n) step = same step.after (record { each = kept.each; all = kept.all; joined = kept.joined; once = kept.once })
    by (GiveBack n) step = same step.after (record { each = kept.each; all = kept.all; joined = kept.joined; once = kept.once })
    by (LoadCredits found) step = same step.after kept
    by (LoadMark found) step = same step.after kept
    by (ExtendHandle h n) step = same step.after (extend-kept f h n step.handle kept)
    by (Join n) step = same step.after (join-kept f n kept)
    by (WriteBlock h b v) step = same step.after (touch-kept f h b (Write v) step.handle kept)
    by (RevokeBlock h b) step = same step.after (touch-kept f h b Revoke step.handle kept)
    by (StopHandle h) step = same step.after (stop-kept f h step.handle kept)
    by Lock step = same step.after (record { each = kept.each; all = kept.all; joined = kept.joined; once = kept.once })
    by (Raise t) step = same step.after (record { each = kept.each; all = kept.all; joined = kept.joined; once = kept.once })
