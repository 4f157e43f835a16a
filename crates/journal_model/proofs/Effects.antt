-- Effects, touched blocks and entries of steps, also with one more step.
use Rattle.std.proofs.Common.{◌≡◌, ◌⊎◌, inl, inr, ℕ, ◌==◌, false, not, if◌then◌else◌, List, [], ◌∷◌, ◌++◌, map, Option, Some, None, option_map, refl, sym, ◌∙◌, ap, arith, nat_eq, ◌≢◌, eq-eqb}
use Rattle.std.proofs.lemmas.Bool.{cases_eq}
use Rattle.std.proofs.lemmas.Option.{none-some, some_pair_parts}
use Rattle.std.specs.List.{filter_map, Contains, IsDistinct, AllByRecursion}
use Rattle.std.proofs.lemmas.List.{append-nil}
use Rattle.std.proofs.lemmas.List.Elements.{filter_map-append, filter-append}
use Rattle.std.proofs.lemmas.Map.Keys.{IsDistinct-cons}
use Rattle.std.proofs.lemmas.Bool.Decides.{nat_tests}
use Rattle.journal_model.proofs.ListElements.{option-known, contains-cases, contains-first, contains-behind, contains-none, contains-filter_map, contains-from_filter_map, contains-filter, contains-from_filter, filter_map-agree, filter_map-map, distinct-filter}
use Rattle.journal_model.specs.declared.entry.Entry.{Entry}
use Rattle.journal_model.specs.declared.transaction.Step.{Step}
use Rattle.journal_model.specs.Transaction.{entry_of, later, effect, without, touched, entries}

-- nothing later changes nothing
pub later-none : (o : Option Entry) → later None o ≡ o
later-none None = refl
later-none (Some e) = refl

-- the last of three effects counts, however they are grouped
pub later-later : (x y z : Option Entry) → later (later x y) z ≡ later x (later y z)
later-later x y None = refl
later-later x y (Some e) = refl

-- what one step leaves of block b
abbrev pub step_effect : ℕ → Step → Option Entry
step_effect b s = if s.block == b then entry_of s.op else None

-- the effect of joined steps
effect-append : (b : ℕ) (xs ys : List Step) → effect b (xs ++ ys) ≡ later (effect b xs) (effect b ys)
effect-append b [] ys = sym (later-none (effect b ys))
effect-append b (x ∷ xs) ys =
    ap (later (step_effect b x)) (effect-append b xs ys) ∙ sym (later-later (step_effect b x) (effect b xs) (effect b ys))

-- the effect of steps and one more
pub effect-push : (b : ℕ) (ss : List Step) (s : Step) → effect b (ss ++ s ∷ []) ≡ later (effect b ss) (step_effect b s)
effect-push b ss s = effect-append b ss (s ∷ [])

-- the effect of one step on the block that it names
step_effect-same : (b : ℕ) (s : Step) → s.block ≡ b → step_effect b s ≡ entry_of s.op
step_effect-same b s same = rw (eq-eqb s.block b same)

-- a step leaves nothing of another block
step_effect-other : (b : ℕ) (s : Step) → s.block ≢ b → step_effect b s ≡ None
step_effect-other b s other = grind (arith, nat_tests)

-- a step that leaves something of a block names it
step_effect-some : (b : ℕ) (s : Step) (e : Entry) → step_effect b s ≡ Some e → (s.block ≡ b) × (entry_of s.op ≡ Some e)
step_effect-some b s e made =
    elim (cases_eq s.block b) [
      | inl same ↦ (same, sym (step_effect-same b s same) ∙ made)
      | inr other ↦ absurd (none-some e (sym (step_effect-other b s other) ∙ made))
    ]

-- if the later of two is nothing, so are both
later-is_none : (x y : Option Entry) → later x y ≡ None → (x ≡ None) × (y ≡ None)
later-is_none x None e = (e, refl)
later-is_none x (Some v) e = absurd (none-some v (sym e))

-- the later of two is one of them
later-is_some : (x y : Option Entry) (e : Entry) → later x y ≡ Some e → (y ≡ Some e) ⊎ ((y ≡ None) × (x ≡ Some e))
later-is_some x None e h = inr (refl, h)
later-is_some x (Some v) e h = inl h

-- a step that touches nothing, and one that does
touched-cases : (s : Step) (ss : List Step) →
    ((entry_of s.op ≡ None) × (touched (s ∷ ss) ≡ touched ss))
    ⊎ ((e : Entry) × (entry_of s.op ≡ Some e) × (touched (s ∷ ss) ≡ s.block ∷ without s.block (touched ss)))
touched-cases s ss =
    elim (option-known (entry_of s.op)) [
      | inl none ↦ inl (none, rw none)
      | inr (e, made) ↦ inr (e, made, rw made)
    ]

-- an effect by later steps stays with an earlier step
effect-before : (b : ℕ) (s : Step) (ss : List Step) → (e : Entry) × (effect b ss ≡ Some e) → (e : Entry) × (effect b (s ∷ ss) ≡ Some e)
effect-before b s ss (e, made) = (e, ap (later (step_effect b s)) made)

-- a step's effect stays an effect with later steps
effect-here : (b : ℕ) (s : Step) (ss : List Step) (e : Entry) → entry_of s.op ≡ Some e → s.block ≡ b → (f : Entry) × (effect b (s ∷ ss) ≡ Some f)
effect-here b s ss e made same =
    elim (option-known (effect b ss)) [
      | inl none ↦ (e, ap (later (step_effect b s)) none ∙ step_effect-same b s same ∙ made)
      | inr (f, later) ↦ effect-before b s ss (f, later)
    ]

-- a touched block has an effect
pub touched-effect : (b : ℕ) (ss : List Step) → Contains (touched ss) b → (e : Entry) × (effect b ss ≡ Some e)
touched-effect b [] m = absurd (contains-none b m)
touched-effect b (s ∷ ss) m =
    elim (touched-cases s ss) [
      | inl unseen ↦ effect-before b s ss (touched-effect b ss (rw unseen.1 at m))
      | inr (e, made, split) ↦
          elim (contains-cases s.block (without s.block (touched ss)) b (rw split at m)) [
            | inl same ↦ effect-here b s ss e made same
            | inr behind ↦
                effect-before b s ss
                (touched-effect b ss (contains-from_filter (λ y. not (y == s.block)) (touched ss) b behind))
          ]
    ]

-- `without` keeps all other numbers
contains-without : (x y : ℕ) (xs : List ℕ) → x ≢ y → Contains xs y → Contains (without x xs) y
contains-without x y xs other m = contains-filter (λ z. not (z == x)) xs y m (grind (arith, nat_tests))

-- a block with an effect is touched
pub effect-touched : (b : ℕ) (ss : List Step) (e : Entry) → effect b ss ≡ Some e → Contains (touched ss) b
effect-touched b [] e made = absurd (none-some e made)
effect-touched b (s ∷ ss) e made =
    elim (touched-cases s ss) [
      | inl (unseen, split) ↦
          rw split
          (elim (later-is_some (step_effect b s) (effect b ss) e made) [
            | inl after ↦ effect-touched b ss e after
            | inr (none, here) ↦ absurd (none-some e (sym unseen ∙ (step_effect-some b s e here).1))
          ])
      | inr (f, seen, split) ↦
          rw split
          (elim (cases_eq s.block b) [
            | inl same ↦ contains-first s.block (without s.block (touched ss)) b same
            | inr other ↦
                contains-behind s.block (without s.block (touched ss)) b
                (contains-without s.block b (touched ss) other
                (elim (later-is_some (step_effect b s) (effect b ss) e made) [
                  | inl after ↦ effect-touched b ss e after
                  | inr (none, here) ↦ absurd (other (step_effect-some b s e here).0)
                ]))
          ])
    ]

-- `without x` has no x
without-apart : (x : ℕ) (xs : List ℕ) → AllByRecursion (λ y. nat_eq x y ≡ false) (without x xs)
without-apart x [] = tt
without-apart x (y ∷ ys) =
    elim (cases_eq y x) [
      | inl same ↦ rw (eq-eqb y x same) (without-apart x ys)
      | inr other ↦
          let apart : (y == x) ≡ false = grind (arith, nat_tests) in
          let apart_too : nat_eq x y ≡ false = grind (arith, nat_tests) in
          rw apart (apart_too, without-apart x ys)
    ]

-- the touched blocks are distinct
pub touched-distinct : (ss : List Step) → IsDistinct nat_eq (touched ss)
touched-distinct [] = unfold IsDistinct in tt
touched-distinct (s ∷ ss) =
    elim (touched-cases s ss) [
      | inl (unseen, split) ↦ rw split (touched-distinct ss)
      | inr (e, seen, split) ↦
          rw split
          (IsDistinct-cons nat_eq s.block (without s.block (touched ss)) (without-apart s.block (touched ss))
          (distinct-filter nat_eq (λ y. not (y == s.block)) (touched ss) (touched-distinct ss)))
    ]

-- an entry of block b with this effect
abbrev pub entry_with : (ℕ → Option Entry) → ℕ → Option (ℕ × Entry)
entry_with f b = option_map (λ e. (b, e)) (f b)

-- an entry made for block c is of c, with its effect
entry_with-some : (f : ℕ → Option Entry) (c b : ℕ) (e : Entry) → entry_with f c ≡ Some (b, e) → f b ≡ Some e
entry_with-some f c b e made =
    elim (option-known (f c)) [
      | inl none ↦ absurd (none-some (b, e) (sym (ap (option_map (λ e. (c, e))) none) ∙ made))
      | inr (g, some) ↦
          let parts : (c ≡ b) × (g ≡ e) = some_pair_parts c b g e (sym (ap (option_map (λ e. (c, e))) some) ∙ made) in
          ap f (sym parts.0) ∙ some ∙ ap Some parts.1
    ]

-- the blocks of entries, if each has an effect
entry_blocks : (f : ℕ → Option Entry) (bs : List ℕ) → ((b : ℕ) → Contains bs b → (e : Entry) × (f b ≡ Some e)) → map (λ p. p.0) (filter_map (entry_with f) bs) ≡ bs
entry_blocks f [] each = refl
entry_blocks f (b ∷ bs) each =
    let here : (e : Entry) × (f b ≡ Some e) = each b (contains-first b bs b refl) in
    rw (here.1, entry_blocks f bs (λ c m. each c (contains-behind b bs c m)))

-- the blocks of the entries are the touched blocks
pub entries-blocks : (ss : List Step) → map (λ p. p.0) (entries ss) ≡ touched ss
entries-blocks ss = entry_blocks (λ b. effect b ss) (touched ss) (λ b m. touched-effect b ss m)

-- an entry says the effect on its block
pub entries-effect : (ss : List Step) (b : ℕ) (e : Entry) → Contains (entries ss) (b, e) → effect b ss ≡ Some e
entries-effect ss b e m =
    let from : (c : ℕ) × (entry_with (λ b. effect b ss) c ≡ Some (b, e)) = contains-from_filter_map (entry_with (λ b. effect b ss)) (touched ss) (b, e) m in
    entry_with-some (λ b. effect b ss) from.0 b e from.1

-- a block with an effect has that entry
pub effect-entries : (ss : List Step) (b : ℕ) (e : Entry) → effect b ss ≡ Some e → Contains (entries ss) (b, e)
effect-entries ss b e made =
    contains-filter_map (entry_with (λ b. effect b ss)) (touched ss) b (b, e) (effect-touched b ss e made) (rw made)

-- without x of a list with another number at its end
without-push : (x y : ℕ) (xs : List ℕ) → x ≢ y → without x (xs ++ y ∷ []) ≡ without x xs ++ y ∷ []
without-push x y xs other =
    let apart : (y == x) ≡ false = grind (arith, nat_tests) in
    filter-append (λ z. not (z == x)) xs (y ∷ []) ∙ rw apart

-- without x of a list with x at its end
without-push_same : (x y : ℕ) (xs : List ℕ) → x ≡ y → without x (xs ++ y ∷ []) ≡ without x xs
without-push_same x y xs same =
    filter-append (λ z. not (z == x)) xs (y ∷ []) ∙ rw (eq-eqb y x (sym same), append-nil)

-- one more read leaves the touched blocks
pub touched-push_read : (ss : List Step) (s : Step) → entry_of s.op ≡ None → touched (ss ++ s ∷ []) ≡ touched ss
touched-push_read [] s read = rw read
touched-push_read (t ∷ ss) s read = rw (touched-push_read ss s read)

-- one more touch of a block without an effect adds it
pub touched-push_new : (ss : List Step) (s : Step) (e : Entry) → entry_of s.op ≡ Some e → effect s.block ss ≡ None → touched (ss ++ s ∷ []) ≡ touched ss ++ s.block ∷ []
touched-push_new [] s e made fresh = rw made
touched-push_new (t ∷ ss) s e made fresh =
    let parts : (step_effect s.block t ≡ None) × (effect s.block ss ≡ None) = later-is_none (step_effect s.block t) (effect s.block ss) fresh in
    let rest : touched (ss ++ s ∷ []) ≡ touched ss ++ s.block ∷ [] = touched-push_new ss s e made parts.1 in
    elim (option-known (entry_of t.op)) [
      | inl unseen ↦ rw (unseen, rest)
      | inr (f, seen) ↦
          let other : t.block ≢ s.block = λ same. none-some f (sym parts.0 ∙ step_effect-same s.block t same ∙ seen) in
          rw (seen, rest) (ap (λ bs. t.block ∷ bs) (without-push t.block s.block (touched ss) other))
    ]

-- one more touch of a block with an effect adds nothing
pub touched-push_known : (ss : List Step) (s : Step) (e old : Entry) → entry_of s.op ≡ Some e → effect s.block ss ≡ Some old → touched (ss ++ s ∷ []) ≡ touched ss
touched-push_known [] s e old made known = absurd (none-some old known)
touched-push_known (t ∷ ss) s e old made known =
    elim (later-is_some (step_effect s.block t) (effect s.block ss) old known) [
      | inl after ↦ rw (touched-push_known ss s e old made after)
      | inr (none, here) ↦
          let parts : (t.block ≡ s.block) × (entry_of t.op ≡ Some old) = step_effect-some s.block t old here in
          rw (parts.1, touched-push_new ss s e made none)
          (ap (λ bs. t.block ∷ bs) (without-push_same t.block s.block (touched ss) parts.0))
    ]

-- a read has no effect on any block
step_effect-read : (b : ℕ) (s : Step) → entry_of s.op ≡ None → step_effect b s ≡ None
step_effect-read b s read =
    elim (cases_eq s.block b) [
      | inl same ↦ step_effect-same b s same ∙ read
      | inr other ↦ step_effect-other b s other
    ]

-- one more read leaves the entries as they are
pub entries-push_read : (ss : List Step) (s : Step) → entry_of s.op ≡ None → entries (ss ++ s ∷ []) ≡ entries ss
entries-push_read ss s read =
    rw (touched-push_read ss s read)
    (filter_map-agree (entry_with (λ b. effect b (ss ++ s ∷ []))) (entry_with (λ b. effect b ss)) (touched ss)
    (λ b m. ap (option_map (λ e. (b, e))) (effect-push b ss s ∙ ap (later (effect b ss)) (step_effect-read b s read))))

-- other entries stay when one more step touches a block without one
entry_with-push_new : (ss : List Step) (s : Step) → effect s.block ss ≡ None → (b : ℕ) → Contains (touched ss) b → entry_with (λ b. effect b (ss ++ s ∷ [])) b ≡ entry_with (λ b. effect b ss) b
entry_with-push_new ss s fresh b m =
    let seen : (e : Entry) × (effect b ss ≡ Some e) = touched-effect b ss m in
    let other : s.block ≢ b = λ same. none-some seen.0 (sym fresh ∙ ap (λ c. effect c ss) same ∙ seen.1) in
    ap (option_map (λ e. (b, e))) (effect-push b ss s ∙ ap (later (effect b ss)) (step_effect-other b s other))

-- a touch of a block without an entry adds one at the end
pub entries-push_new : (ss : List Step) (s : Step) (e : Entry) → entry_of s.op ≡ Some e → effect s.block ss ≡ None → entries (ss ++ s ∷ []) ≡ entries ss ++ (s.block, e) ∷ []
entries-push_new ss s e made fresh =
    let here : effect s.block (ss ++ s ∷ []) ≡ Some e = effect-push s.block ss s ∙ ap (later (effect s.block ss)) (step_effect-same s.block s refl ∙ made) in
    let old : filter_map (entry_with (λ b. effect b (ss ++ s ∷ []))) (touched ss) ≡ entries ss =
    filter_map-agree (entry_with (λ b. effect b (ss ++ s ∷ []))) (entry_with (λ b. effect b ss)) (touched ss) (entry_with-push_new ss s fresh) in
    ap (filter_map (entry_with (λ b. effect b (ss ++ s ∷ [])))) (touched-push_new ss s e made fresh)
    ∙ filter_map-append (entry_with (λ b. effect b (ss ++ s ∷ []))) (touched ss) (s.block ∷ [])
    ∙ rw (old, here)

-- the entry of block b after a touch of a block with an entry
entry_with-push_known : (ss : List Step) (s : Step) (e old : Entry) → entry_of s.op ≡ Some e → effect s.block ss ≡ Some old → (b : ℕ) →
    entry_with (λ b. effect b (ss ++ s ∷ [])) b ≡ option_map (λ p. if p.0 == s.block then (s.block, e) else p) (entry_with (λ b. effect b ss) b)
entry_with-push_known ss s e old made known b =
    elim (cases_eq s.block b) [
      | inl same ↦
          let seen : effect b ss ≡ Some old = sym (ap (λ c. effect c ss) same) ∙ known in
          rw (effect-push b ss s, step_effect-same b s same, made, seen, eq-eqb b s.block (sym same))
          (ap (λ c. Some (c, e)) (sym same))
      | inr other ↦
          let apart : (b == s.block) ≡ false = grind (arith, nat_tests) in
          rw (effect-push b ss s, step_effect-other b s other)
          (elim (option-known (effect b ss)) [
            | inl none ↦ rw none
            | inr (f, some) ↦ rw (some, apart)
          ])
    ]

-- a touch of a block with an entry changes it in place
pub entries-push_known : (ss : List Step) (s : Step) (e old : Entry) → entry_of s.op ≡ Some e → effect s.block ss ≡ Some old →
    entries (ss ++ s ∷ []) ≡ map (λ p. if p.0 == s.block then (s.block, e) else p) (entries ss)
entries-push_known ss s e old made known =
    rw (touched-push_known ss s e old made known)
    (filter_map-map (entry_with (λ b. effect b (ss ++ s ∷ []))) (entry_with (λ b. effect b ss))
    (λ p. if p.0 == s.block then (s.block, e) else p) (entry_with-push_known ss s e old made known) (touched ss))
