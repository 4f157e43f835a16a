-- The last copies among changes: where they stand; a changed block has one or is revoked.
use Rattle.std.proofs.Common.{refl, sym, ◌∙◌, ap, subst, arith, inl, inr, zero, true≢false}
use Rattle.std.specs.Prelude.{◌≡◌, ◌⊎◌, ℕ, suc, ◌≤◌, ◌==◌, ◌||◌, Bool, true, false, if◌then◌else◌, List, [], ◌∷◌, ◌++◌, map, Some, Contains, slice_get}
use Rattle.std.specs.List.{list_any}
use Rattle.std.proofs.lemmas.Bool.{cases_Bool, eqb-true}
use Rattle.std.proofs.lemmas.Bool.Decides.{nat_tests}
use Rattle.std.proofs.lemmas.List.Folds.{list_any-append, list_any_at}
use Rattle.std.proofs.lemmas.Option.{get_or_from_slice_get, slice_get_within}
use Rattle.journal_model.proofs.ListElements.{contains-behind, contains-cases, contains-first, contains-none}
use Rattle.recovery.specs.HomeCopies.{Change, is_of, last_copies}
use Rattle.recovery.specs.HomeCopies.Change.{Copied, Revoked}

-- copies, each of a block
abbrev pub BlockCopies : Type 0
BlockCopies = List (ℕ × List ℕ)

-- a copy as a change
abbrev pub copied : ℕ × List ℕ → Change
copied c = Copied c.0 c.1

-- what stands at a place is an element
pub contains-at : {X : Type 0} (xs : List X) (k : ℕ) (x : X) → slice_get xs k ≡ Some x → Contains xs x
contains-at xs k x there = (k, slice_get_within xs k x there, get_or_from_slice_get xs k x x there)

-- a function's value at an element is an element of the map
pub mapped-has : {X Y : Type 0} (f : X → Y) (xs : List X) (x : X) → Contains xs x → Contains (map f xs) (f x)
mapped-has f [] x among = absurd (contains-none x among)
mapped-has f (y ∷ xs) x among =
    elim (contains-cases y xs x among) [
      | inl same ↦ contains-first (f y) (map f xs) (f x) (ap f same)
      | inr behind ↦ contains-behind (f y) (map f xs) (f x) (mapped-has f xs x behind)
    ]

-- and each element of the map comes from one
pub mapped-from : {X Y : Type 0} (f : X → Y) (xs : List X) (y : Y) → Contains (map f xs) y → (x : X) × Contains xs x × (f x ≡ y)
mapped-from f [] y among = absurd (contains-none y among)
mapped-from f (x ∷ xs) y among =
    elim (contains-cases (f x) (map f xs) y among) [
      | inl same ↦ (x, contains-first x xs x refl, same)
      | inr behind ↦ let rest = mapped-from f xs y behind in (rest.0, contains-behind x xs rest.0 rest.1, rest.2)
    ]

-- a change of a block is found among others
pub any-has : (b : ℕ) (changes : List Change) (c : Change) → Contains changes c → is_of b c ≡ true → list_any (is_of b) changes ≡ true
any-has b changes c (k, within, there) is = list_any_at (is_of b) changes k c within (ap (is_of b) there ∙ is)

-- a block is equal to itself
own-block : (b : ℕ) → (b == b) ≡ true
own-block b = grind (arith, nat_tests)

-- a copy is found
pub has-copied : (b : ℕ) (v : List ℕ) (changes : List Change) → Contains changes (Copied b v) → list_any (is_of b) changes ≡ true
has-copied b v changes among = any-has b changes (Copied b v) among (own-block b)

-- a revoke is found
pub has-revoked : (b : ℕ) (changes : List Change) → Contains changes (Revoked b) → list_any (is_of b) changes ≡ true
has-revoked b changes among = any-has b changes (Revoked b) among (own-block b)

-- if no change is of a block, no copy is
pub none-copied : (b : ℕ) (v : List ℕ) (changes : List Change) → list_any (is_of b) changes ≡ false → Contains changes (Copied b v) → ⊥
none-copied b v changes none among = true≢false (sym (has-copied b v changes among) ∙ none)

-- and no revoke is
pub none-revoked : (b : ℕ) (changes : List Change) → list_any (is_of b) changes ≡ false → Contains changes (Revoked b) → ⊥
none-revoked b changes none among = true≢false (sym (has-revoked b changes among) ∙ none)

-- if a disjunction fails, both tests fail
or-false : (p q : Bool) → (p || q) ≡ false → (p ≡ false) × (q ≡ false)
or-false true q is = absurd (true≢false is)
or-false false q is = (refl, is)

-- if it holds and the second fails, the first holds
or-first : (p q : Bool) → (p || q) ≡ true → q ≡ false → p ≡ true
or-first true q is none = refl
or-first false q is none = absurd (true≢false (sym is ∙ none))

-- what is in no joined list is in neither part
none-both : (b : ℕ) (xs ys : List Change) → list_any (is_of b) (xs ++ ys) ≡ false → (list_any (is_of b) xs ≡ false) × (list_any (is_of b) ys ≡ false)
none-both b xs ys none = or-false (list_any (is_of b) xs) (list_any (is_of b) ys) (sym (list_any-append (is_of b) xs ys) ∙ none)

-- a copy with no later change of its block is last
pub last-first : (b : ℕ) (v : List ℕ) (xs : List Change) → list_any (is_of b) xs ≡ false → Contains (last_copies (Copied b v ∷ xs)) (b, v)
last-first b v xs none = rw none (contains-first (b, v) (last_copies xs) (b, v) refl)

-- the last copies after a change are last with it too
pub last-behind : (x : Change) (xs : List Change) (p : ℕ × List ℕ) → Contains (last_copies xs) p → Contains (last_copies (x ∷ xs)) p
last-behind (Copied b v) xs p among =
    elim (list_any (is_of b) xs) as (λ any. Contains (if any then last_copies xs else (b, v) ∷ last_copies xs) p) [
      | true ↦ among
      | false ↦ contains-behind (b, v) (last_copies xs) p among
    ]
last-behind (Revoked b) xs p among = among

-- so they are after many changes
pub last-append : (xs ys : List Change) (p : ℕ × List ℕ) → Contains (last_copies ys) p → Contains (last_copies (xs ++ ys)) p
last-append [] ys p among = among
last-append (x ∷ xs) ys p among = last-behind x (xs ++ ys) p (last-append xs ys p among)

-- a last copy is the first change, if no later change is of its block, or is last among the later ones
last-cases : (c : ℕ) (w : List ℕ) (xs : List Change) (p : ℕ × List ℕ) → Contains (last_copies (Copied c w ∷ xs)) p →
    ((list_any (is_of c) xs ≡ false) × ((c, w) ≡ p)) ⊎ Contains (last_copies xs) p
last-cases c w xs p among =
    elim (cases_Bool (list_any (is_of c) xs)) [
      | inl any ↦ inr (rw any at among)
      | inr none ↦
          elim (contains-cases (c, w) (last_copies xs) p (rw none at among)) [
            | inl same ↦ inl (none, same)
            | inr behind ↦ inr behind
          ]
    ]

-- a last copy of joined changes is one of the second part, or of the first if the second has no change of its block
pub last-split : (xs ys : List Change) (b : ℕ) (v : List ℕ) → Contains (last_copies (xs ++ ys)) (b, v) →
    Contains (last_copies ys) (b, v) ⊎ (Contains (last_copies xs) (b, v) × (list_any (is_of b) ys ≡ false))
last-split [] ys b v among = inl among
last-split (Copied c w ∷ xs) ys b v among =
    elim (last-cases c w (xs ++ ys) (b, v) among) [
      | inl (none, same) ↦
          let both = none-both c xs ys none in
          let block : c ≡ b = ap (λ (p : ℕ × List ℕ). p.0) same in
          inr (
            subst (λ (p : ℕ × List ℕ). Contains (last_copies (Copied c w ∷ xs)) p) same (last-first c w xs both.0),
            subst (λ (n : ℕ). list_any (is_of n) ys ≡ false) block both.1,
          )
      | inr behind ↦
          elim (last-split xs ys b v behind) [
            | inl later ↦ inl later
            | inr (early, none) ↦ inr (last-behind (Copied c w) xs (b, v) early, none)
          ]
    ]
last-split (Revoked c ∷ xs) ys b v among = last-split xs ys b v among

-- copy k of these is block b's last
pub record IsLastAt (b : ℕ) (copies : BlockCopies) (v : List ℕ) (k : ℕ) : Type 0 where
  pub stands : slice_get copies k ≡ Some (b, v)
  pub last : (m : ℕ) (other : List ℕ) → slice_get copies m ≡ Some (b, other) → m ≤ k

-- the first copy is the last of its block, if no later one is
last-here : (c : ℕ × List ℕ) (cs : BlockCopies) (b : ℕ) (v : List ℕ) → c ≡ (b, v) → list_any (is_of b) (map copied cs) ≡ false → IsLastAt b (c ∷ cs) v 0
last-here c cs b v same none = record { stands = ap Some same; last = last }
  where
    last : (m : ℕ) (other : List ℕ) → slice_get (c ∷ cs) m ≡ Some (b, other) → m ≤ 0
    last zero other there = omega arith
    last (suc m) other there = absurd (none-copied b other (map copied cs) none (mapped-has copied cs (b, other) (contains-at cs m (b, other) there)))

-- so it is with a copy in front
last-there : (c : ℕ × List ℕ) (cs : BlockCopies) (b : ℕ) (v : List ℕ) (k : ℕ) → IsLastAt b cs v k → IsLastAt b (c ∷ cs) v (suc k)
last-there c cs b v k is = record { stands = is.stands; last = last }
  where
    last : (m : ℕ) (other : List ℕ) → slice_get (c ∷ cs) m ≡ Some (b, other) → m ≤ suc k
    last zero other there = omega arith
    last (suc m) other there = let before = is.last m other there in omega arith

-- a last copy among copies alone is its block's last
pub copied-last : (cs : BlockCopies) (b : ℕ) (v : List ℕ) → Contains (last_copies (map copied cs)) (b, v) → (k : ℕ) × IsLastAt b cs v k
copied-last [] b v among = absurd (contains-none (b, v) among)
copied-last (c ∷ cs) b v among =
    elim (last-cases c.0 c.1 (map copied cs) (b, v) among) [
      | inl (none, same) ↦
          let block : c.0 ≡ b = ap (λ (p : ℕ × List ℕ). p.0) same in
          (0, last-here c cs b v same (subst (λ (n : ℕ). list_any (is_of n) (map copied cs) ≡ false) block none))
      | inr behind ↦ let rest = copied-last cs b v behind in (suc rest.0, last-there c cs b v rest.0 rest.1)
    ]

-- revokes alone have no last copy
pub revoked-none : (rs : List ℕ) (p : ℕ × List ℕ) → Contains (last_copies (map Revoked rs)) p → ⊥
revoked-none [] p among = contains-none p among
revoked-none (r ∷ rs) p among = revoked-none rs p among

-- revokes in front take none away
pub revoked-last : (rs : List ℕ) (changes : List Change) → last_copies (map Revoked rs ++ changes) ≡ last_copies changes
revoked-last [] changes = refl
revoked-last (r ∷ rs) changes = revoked-last rs changes

-- the first change, if it is the last of its block, is a last copy or a revoke
changed-first : (b : ℕ) (x : Change) (xs : List Change) → is_of b x ≡ true → list_any (is_of b) xs ≡ false →
    ((v : List ℕ) × Contains (last_copies (x ∷ xs)) (b, v)) ⊎ Contains (x ∷ xs) (Revoked b)
changed-first b (Copied c v) xs is none =
    let same : c ≡ b = eqb-true c b is in
    inl (v, subst (λ (n : ℕ). Contains (last_copies (Copied n v ∷ xs)) (b, v)) (sym same) (last-first b v xs none))
changed-first b (Revoked c) xs is none = inr (contains-first (Revoked c) xs (Revoked b) (ap Revoked (eqb-true c b is)))

-- a changed block has a last copy or is revoked
pub changed-last : (b : ℕ) (changes : List Change) → list_any (is_of b) changes ≡ true →
    ((v : List ℕ) × Contains (last_copies changes) (b, v)) ⊎ Contains changes (Revoked b)
changed-last b [] found = absurd (true≢false (sym found))
changed-last b (x ∷ xs) found =
    elim (cases_Bool (list_any (is_of b) xs)) [
      | inl later ↦
          elim (changed-last b xs later) [
            | inl (v, last) ↦ inl (v, last-behind x xs (b, v) last)
            | inr revoked ↦ inr (contains-behind x xs (Revoked b) revoked)
          ]
      | inr none ↦ changed-first b x xs (or-first (is_of b x) (list_any (is_of b) xs) found none) none
    ]

-- a last copy is one of the changes
pub last-among : (changes : List Change) (b : ℕ) (v : List ℕ) → Contains (last_copies changes) (b, v) → Contains changes (Copied b v)
last-among [] b v among = absurd (contains-none (b, v) among)
last-among (Copied c w ∷ xs) b v among =
    elim (last-cases c w xs (b, v) among) [
      | inl (none, same) ↦ contains-first (Copied c w) xs (Copied b v) (ap copied same)
      | inr behind ↦ contains-behind (Copied c w) xs (Copied b v) (last-among xs b v behind)
    ]
last-among (Revoked c ∷ xs) b v among = contains-behind (Revoked c) xs (Copied b v) (last-among xs b v among)
