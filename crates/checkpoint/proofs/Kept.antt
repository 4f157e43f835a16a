-- What pending copies keep, and how contracts see the live ones.
use Rattle.std.proofs.Common.{◌≡◌, inl, inr, ℕ, zero, suc, ◌+◌, ◌≤◌, Bool, true, false, cond, if◌then◌else◌, ◌&&◌, ◌==◌, List, [], ◌∷◌, ◌++◌, length, map, drop, arith, refl, sym, ap, ap₂, subst, ◌∙◌, Option, Some, eq-eqb}
use Rattle.std.specs.Cmp.{nat_cmp_total}
use Rattle.std.specs.FinMap.{FinMap, get, get-empty, get-insert, insert}
use Rattle.std.specs.List.{Contains, filter, slice_get}
use Rattle.std.specs.Ordering.{eq_by_cmp, nat_cmp}
use Rattle.std.proofs.lemmas.Bool.{and_from, cases_Bool, cases_lt}
use Rattle.std.proofs.lemmas.Bool.Decides.{nat_tests}
use Rattle.std.proofs.lemmas.List.{drop_all, length-map}
use Rattle.std.proofs.lemmas.Option.{none-some}
use Rattle.journal_model.proofs.ListElements.{contains-behind, contains-cases, contains-first, contains-none, get-front}
use Rattle.checkpoint.specs.declared.copies.QueuedCopy.{QueuedCopy}
use Rattle.checkpoint.specs.declared.pending.Pending.TheInside.{Inside}
use Rattle.checkpoint.specs.declared.version.Version.{Version}
use Rattle.checkpoint.specs.Copies.{is_live_of, newest_in, version_of}
use Rattle.checkpoint.specs.Pending.{ArePending, newest_of}
use Rattle.checkpoint.specs.PendingView.{KeepsPending, key_of, live_from, newest_map, pending_of}
use Rattle.checkpoint.specs.Steps.{AreDead}
use Rattle.checkpoint.proofs.Newest.{live-block, newest-found}
use Rattle.checkpoint.proofs.Ordered.{ordered-drop, ordered-live}
use Rattle.checkpoint.proofs.Released.{filter-no, filter-yes, get-drop}

-- numbers tie in their order if they are equal
tie-same : (a b : ℕ) → eq_by_cmp nat_cmp a b ≡ (b == a)
tie-same a b = grind (arith, nat_tests)

-- what an insertion leaves at a block
one-inserted : (live here : Bool) (v : Version) (o p : Option Version) → o ≡ p → (if live then cond here (Some v) o else o) ≡ (if live && here then Some v else p)
one-inserted true true v o p same = refl
one-inserted true false v o p same = same
one-inserted false here v o p same = same

-- an insertion or none, at a block
get-if : (live : Bool) (m : FinMap nat_cmp Version) (c b : ℕ) (v : Version) → get (if live then insert m c v else m) b ≡ (if live then cond (c == b) (Some v) (get m b) else get m b)
get-if true m c b v = get-insert nat_cmp_total m c v b ∙ ap (λ (t : Bool). cond t (Some v) (get m b)) (tie-same b c)
get-if false m c b v = refl

-- the map of the live copies gives each block's newest copy
pub newest-map : (cs : List QueuedCopy) (b : ℕ) → get (newest_map cs) b ≡ newest_in cs b
newest-map [] b = get-empty nat_cmp b
newest-map (c ∷ cs) b =
    get-if c.live (newest_map cs) c.block b (version_of c)
    ∙ one-inserted c.live (c.block == b) (version_of c) (get (newest_map cs) b) (newest_in cs b) (newest-map cs b)

-- a newest copy is a live one among the copies
pub record IsNewestAt (cs : List QueuedCopy) (b : ℕ) (v : Version) : Type 0 where
  pub at : ℕ
  pub copy : QueuedCopy
  pub there : slice_get cs at ≡ Some copy
  pub live : is_live_of b copy ≡ true
  pub version : version_of copy ≡ v

pub newest-at : (cs : List QueuedCopy) (b : ℕ) (v : Version) → newest_in cs b ≡ Some v → IsNewestAt cs b v
newest-at [] b v newest = absurd (none-some v newest)
newest-at (c ∷ cs) b v newest =
    elim (cases_Bool (is_live_of b c)) [
      | inl live ↦
          let one : Some (version_of c) ≡ Some v = sym (ap (λ (t : Bool). if t then Some (version_of c) else newest_in cs b) live) ∙ newest in
          record { at = 0; copy = c; there = refl; live = live; version = cc }
      | inr other ↦
          let rest = newest-at cs b v (sym (ap (λ (t : Bool). if t then Some (version_of c) else newest_in cs b) other) ∙ newest) in
          record { at = suc rest.at; copy = rest.copy; there = rest.there; live = rest.live; version = rest.version }
    ]

-- an element of a list gives an element of its map
contains-map : {X Y : Type 0} (f : X → Y) (xs : List X) (k : ℕ) (x : X) → slice_get xs k ≡ Some x → Contains (map f xs) (f x)
contains-map f [] k x there = absurd cc
contains-map f (y ∷ xs) zero x there = let one : y ≡ x = cc in contains-first (f y) (map f xs) (f x) (ap f one)
contains-map f (y ∷ xs) (suc k) x there = contains-behind (f y) (map f xs) (f x) (contains-map f xs k x there)

-- a live copy with this key stands among the copies
pub record IsLiveAt (cs : List QueuedCopy) (k : ℕ × ℕ) : Type 0 where
  pub at : ℕ
  pub copy : QueuedCopy
  pub there : slice_get cs at ≡ Some copy
  pub live : copy.live ≡ true
  pub key : key_of copy ≡ k

one-behind : (c : QueuedCopy) (cs : List QueuedCopy) (k : ℕ × ℕ) → IsLiveAt cs k → IsLiveAt (c ∷ cs) k
one-behind c cs k l = record { at = suc l.at; copy = l.copy; there = l.there; live = l.live; key = l.key }

live-at : (cs : List QueuedCopy) (k : ℕ × ℕ) → Contains (map key_of (filter (λ c. c.live) cs)) k → IsLiveAt cs k
live-at [] k there = absurd (contains-none k there)
live-at (c ∷ cs) k there =
    elim (cases_Bool c.live) [
      | inl live ↦
          elim (contains-cases (key_of c) (map key_of (filter (λ d. d.live) cs)) k (subst (λ (ds : List QueuedCopy). Contains (map key_of ds) k) (filter-yes (λ (d : QueuedCopy). d.live) c cs live) there)) [
            | inl same ↦ record { at = 0; copy = c; there = refl; live = live; key = same }
            | inr behind ↦ one-behind c cs k (live-at cs k behind)
          ]
      | inr dead ↦ one-behind c cs k (live-at cs k (subst (λ (ds : List QueuedCopy). Contains (map key_of ds) k) (filter-no (λ (d : QueuedCopy). d.live) c cs dead) there))
    ]

pub live-from_at : (n : ℕ) (cs : List QueuedCopy) (k : ℕ × ℕ) → Contains (map key_of (live_from n cs)) k → IsLiveAt cs k
live-from_at n cs k there =
    let found = live-at (drop n cs) k there in
    record { at = n + found.at; copy = found.copy; there = sym (get-drop n cs found.at) ∙ found.there; live = found.live; key = found.key }

-- what the fields keep implies what contracts see
pub kept-pending : (p : Inside) → KeepsPending p → ArePending (pending_of p)
kept-pending p k =
    let cs = p.copies.copies in
    record {
      ordered = k.ordered;
      few = omega (arith, k.copies.room, length-map cs key_of);
      queued = λ b v newest.
          let found = newest-at cs b v (sym (newest-map cs b) ∙ newest) in
          let block = (live-block b found.copy found.live).1 in
          let tid = ap (λ (w : Version). w.tid) found.version in
          subst (Contains (map key_of cs)) (ap₂ (λ (x y : ℕ). (x, y)) tid block) (contains-map key_of cs found.at found.copy found.there);
      pending = λ t b there.
          let found = live-from_at p.unwritten cs (t, b) there in
          let block = ap (λ (x : ℕ × ℕ). x.1) found.key in
          let tid = ap (λ (x : ℕ × ℕ). x.0) found.key in
          let live = and_from found.copy.live (found.copy.block == b) found.live (eq-eqb found.copy.block b block) in
          (version_of found.copy, newest-map cs b ∙ newest-found b cs found.at found.copy k.copies.single found.there live, tid);
      ordered_unwritten = ordered-live (drop p.unwritten cs) (ordered-drop p.unwritten cs k.ordered);
    }

-- live copies from a place on, if none is live up to the next
pub live-skip : (i j : ℕ) (cs : List QueuedCopy) → i ≤ j → AreDead cs i j → live_from j cs ≡ live_from i cs
live-skip zero zero cs le dead = refl
live-skip zero (suc j) [] le dead = refl
live-skip (suc i) zero [] le dead = refl
live-skip (suc i) (suc j) [] le dead = refl
live-skip zero (suc j) (c ∷ cs) le dead =
    live-skip zero j cs (omega arith) (record { dead = λ k d after below there. dead.dead (suc k) d (omega arith) (omega arith) there })
    ∙ sym (filter-no (λ (d : QueuedCopy). d.live) c cs (dead.dead 0 c (omega arith) (omega arith) refl))
live-skip (suc i) zero (c ∷ cs) le dead = absurd (omega arith)
live-skip (suc i) (suc j) (c ∷ cs) le dead =
    live-skip i j cs (omega arith) (record { dead = λ k d after below there. dead.dead (suc k) d (omega arith) (omega arith) there })

-- the first live copy from a place on, if that one is live
pub live-first : (n : ℕ) (cs : List QueuedCopy) (c : QueuedCopy) → slice_get cs n ≡ Some c → c.live ≡ true → live_from n cs ≡ c ∷ live_from (n + 1) cs
live-first n [] c there live = absurd cc
live-first zero (d ∷ cs) c there live = let one : d ≡ c = cc in ap (λ (x : QueuedCopy). filter (λ y. y.live) (x ∷ cs)) one ∙ filter-yes (λ (y : QueuedCopy). y.live) c cs live
live-first (suc n) (d ∷ cs) c there live = live-first n cs c there live ∙ ap (λ (m : ℕ). c ∷ live_from m (d ∷ cs)) {x = suc (n + 1)} {y = suc n + 1} (omega arith)

-- at the end no live copy is left
pub live-end : (n : ℕ) (cs : List QueuedCopy) → length cs ≤ n → live_from n cs ≡ []
live-end n cs end = ap (filter (λ (c : QueuedCopy). c.live)) (drop_all n cs end)

-- the first live copy from the unwritten place on
pub first-unwritten : (p : Inside) (c : QueuedCopy) → KeepsPending p → slice_get p.copies.copies p.unwritten ≡ Some c → slice_get (pending_of p).unwritten 0 ≡ Some (key_of c)
first-unwritten p c k here =
    ap (λ (ds : List QueuedCopy). slice_get (map key_of ds) 0) (live-first p.unwritten p.copies.copies c here (k.unwritten.live c here))

-- a live copy is its block's newest
pub newest-live : (p : Inside) (n : ℕ) (c : QueuedCopy) → KeepsPending p → slice_get p.copies.copies n ≡ Some c → c.live ≡ true → newest_of (pending_of p) c.block ≡ Some (version_of c)
newest-live p n c k here live =
    newest-map p.copies.copies c.block
    ∙ newest-found c.block p.copies.copies n c k.copies.single here (and_from c.live (c.block == c.block) live (eq-eqb c.block c.block refl))

-- joined ranges without live copies have none
pub dead-join : (cs : List QueuedCopy) (i j k : ℕ) → AreDead cs i j → AreDead cs j k → AreDead cs i k
dead-join cs i j k first second =
    record {
      dead = λ n c after below here.
          elim (cases_lt n j) [
            | inl before ↦ first.dead n c after before here
            | inr behind ↦ second.dead n c behind below here
          ];
    }

-- a longer list has none there either
pub dead-append : (cs ds : List QueuedCopy) (i j : ℕ) → j ≤ length cs → AreDead cs i j → AreDead (cs ++ ds) i j
dead-append cs ds i j within old = record { dead = λ n c after below here. old.dead n c after below (sym (get-front cs ds n (omega arith)) ∙ here) }
