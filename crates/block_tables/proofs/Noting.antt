-- What notes of revokes cover: the same as the chain.
use Rattle.std.proofs.Common.{inl, inr, refl, sym, ap, subst, ◌∙◌, arith, cond, zero, ⊎_elim}
use Rattle.std.specs.Prelude.{◌≡◌, ◌⊎◌, ◌↔◌, ℕ, suc, ◌+◌, ◌≤◌, Bool, true, false, List, [], ◌∷◌, map, Option, Some, None, Contains, slice_get}
use Rattle.std.proofs.lemmas.Bool.{cases_eq, cases_lt}
use Rattle.std.proofs.lemmas.Bool.Decides.{nat_tests}
use Rattle.std.proofs.lemmas.List.Elements.{Contains-append_cases, Contains-append_left, Contains-append_right}
use Rattle.std.proofs.lemmas.Option.{none-some, same_Some}
use Rattle.std.specs.Cmp.{nat_cmp_total}
use Rattle.std.specs.FinMap.{empty, get, get-empty, get-insert, insert}
use Rattle.std.specs.Ordering.{eq_by_cmp, nat_cmp}
use Rattle.journal_model.proofs.ListElements.{contains-behind, contains-cases, contains-first, contains-none}
use Rattle.log_model.specs.declared.log.Text.{Text}
use Rattle.log_model.specs.Replay.{IsCovered}
use Rattle.log_model.specs.Text.{text_revokes}
use Rattle.block_tables.specs.Revokes.{revoke_notes, revokes_of}
use Rattle.block_tables.specs.Revokes.{BlockTable, Covers, greatest, noted, noted_all}

-- what an insertion leaves at its block
pub get-own : (m : BlockTable) (b c v : ℕ) → b ≡ c → get (insert m b v) c ≡ Some v
get-own m b c v same =
    let tie : eq_by_cmp nat_cmp c b ≡ true = grind (arith, nat_tests) in
    get-insert nat_cmp_total m b v c ∙ ap (λ (t : Bool). cond t (Some v) (get m c)) tie

pub get-other : (m : BlockTable) (b c v : ℕ) → (b ≡ c → ⊥) → get (insert m b v) c ≡ get m c
get-other m b c v other =
    let tie : eq_by_cmp nat_cmp c b ≡ false = grind (arith, nat_tests) in
    get-insert nat_cmp_total m b v c ∙ ap (λ (t : Bool). cond t (Some v) (get m c)) tie

-- the greater of two is one of them, and not below either
greatest-cases : (t : ℕ) (o : Option ℕ) → (o ≡ Some (greatest t o)) ⊎ (greatest t o ≡ t)
greatest-cases t None = inr refl
greatest-cases t (Some u) = elim (cases_lt u t) [ inl above ↦ inr (grind arith) | inr below ↦ inl (ap Some (grind arith)) ]

greatest-own : (t : ℕ) (o : Option ℕ) → t ≤ greatest t o
greatest-own t None = omega arith
greatest-own t (Some u) = grind arith

greatest-known : (t : ℕ) (o : Option ℕ) (u : ℕ) → o ≡ Some u → u ≤ greatest t o
greatest-known t None u is = absurd (none-some u is)
greatest-known t (Some v) u is = let same : v ≡ u = same_Some v u is in grind arith

-- what one more note covers
pub note-covers : (m : BlockTable) (b u c t : ℕ) → Covers (noted m b u) c t ↔ (Covers m c t ⊎ ((b ≡ c) × (t ≤ u)))
note-covers m b u c t = (to, from)
  where
    own : b ≡ c → get (noted m b u) c ≡ Some (greatest u (get m b))
    own same = get-own m b c (greatest u (get m b)) same

    to : Covers (noted m b u) c t → Covers m c t ⊎ ((b ≡ c) × (t ≤ u))
    to covers =
        elim (cases_eq b c) [
          | inl same ↦
              let is : greatest u (get m b) ≡ covers.number = same_Some _ _ (sym (own same) ∙ covers.noted) in
              let above = covers.not_before in
              elim (greatest-cases u (get m b)) [
                | inl old ↦ inl (record { number = covers.number; noted = ap (get m) (sym same) ∙ old ∙ ap Some is; not_before = above })
                | inr new ↦ inr (same, omega arith)
              ]
          | inr other ↦
              inl (record { number = covers.number; noted = sym (get-other m b c (greatest u (get m b)) other) ∙ covers.noted; not_before = covers.not_before })
        ]

    from : Covers m c t ⊎ ((b ≡ c) × (t ≤ u)) → Covers (noted m b u) c t
    from (inr (same, up_to)) =
        let least = greatest-own u (get m b) in
        record { number = greatest u (get m b); noted = own same; not_before = omega arith }
    from (inl covers) =
        elim (cases_eq b c) [
          | inl same ↦
              let least = greatest-known u (get m b) covers.number (ap (get m) same ∙ covers.noted) in
              let above = covers.not_before in
              record { number = greatest u (get m b); noted = own same; not_before = omega arith }
          | inr other ↦
              record { number = covers.number; noted = get-other m b c (greatest u (get m b)) other ∙ covers.noted; not_before = covers.not_before }
        ]

-- some of these notes covers the copy
abbrev pub IsNoted : List (ℕ × ℕ) → ℕ → ℕ → Type 0
IsNoted notes b t = (u : ℕ) × Contains notes (b, u) × (t ≤ u)

-- what notes over a table cover
notes-cover : (m : BlockTable) (notes : List (ℕ × ℕ)) (b t : ℕ) → Covers (noted_all m notes) b t ↔ (Covers m b t ⊎ IsNoted notes b t)
notes-cover m [] b t = (λ covers. inl covers, λ either. ⊎_elim (λ covers. covers) (λ none. absurd (contains-none (b, none.0) none.1)) either)
notes-cover m (n ∷ ns) b t =
    let rest = notes-cover (noted m n.0 n.1) ns b t in
    let one = note-covers m n.0 n.1 b t in (
      λ covers.
          elim (rest.0 covers) [
            | inl here ↦
                elim (one.0 here) [
                  | inl old ↦ inl old
                  | inr (same, up_to) ↦ inr (n.1, contains-first n ns (b, n.1) (ap (λ (a : ℕ). (a, n.1)) same), up_to)
                ]
            | inr (u, among, up_to) ↦ inr (u, contains-behind n ns (b, u) among, up_to)
          ],
      λ either.
          rest.1
          (elim either [
            | inl old ↦ inl (one.1 (inl old))
            | inr (u, among, up_to) ↦
                elim (contains-cases n ns (b, u) among) [
                  | inl same ↦
                      let number : n.1 ≡ u = ap (λ (p : ℕ × ℕ). p.1) same in
                      inl (one.1 (inr (ap (λ (p : ℕ × ℕ). p.0) same, omega arith)))
                  | inr behind ↦ inr (u, behind, up_to)
                ]
          ]),
    )

-- what notes over an empty table cover
pub noted-cover : (notes : List (ℕ × ℕ)) (b t : ℕ) → Covers (noted_all empty notes) b t ↔ IsNoted notes b t
noted-cover notes b t =
    let all = notes-cover empty notes b t in (
      λ covers. ⊎_elim (λ old. absurd (none-some old.number (sym (get-empty nat_cmp b) ∙ old.noted))) (λ is. is) (all.0 covers),
      λ is. all.1 (inr is),
    )

-- a text of the chain with this number revokes the block
record IsRevoked (first : ℕ) (texts : List Text) (b u : ℕ) : Type 0 where
  place : ℕ
  text : Text
  stands : slice_get texts place ≡ Some text
  revokes : Contains (text_revokes text) b
  number : u ≡ first + place

-- the notes of one text are its revokes
mapped-from : (first : ℕ) (bs : List ℕ) (b u : ℕ) → Contains {X = ℕ × ℕ} (map (λ b. (b, first)) bs) (b, u) → Contains bs b × (u ≡ first)
mapped-from first [] b u among = absurd (contains-none (b, u) among)
mapped-from first (c ∷ bs) b u among =
    elim (contains-cases (c, first) (map (λ b. (b, first)) bs) (b, u) among) [
      | inl same ↦ (contains-first c bs b (ap (λ (p : ℕ × ℕ). p.0) same), sym (ap (λ (p : ℕ × ℕ). p.1) same))
      | inr behind ↦ let rest = mapped-from first bs b u behind in (contains-behind c bs b rest.0, rest.1)
    ]

mapped-to : (first : ℕ) (bs : List ℕ) (b : ℕ) → Contains bs b → Contains {X = ℕ × ℕ} (map (λ b. (b, first)) bs) (b, first)
mapped-to first [] b among = absurd (contains-none b among)
mapped-to first (c ∷ bs) b among =
    elim (contains-cases c bs b among) [
      | inl same ↦ contains-first (c, first) (map (λ b. (b, first)) bs) (b, first) (ap (λ (a : ℕ). (a, first)) same)
      | inr behind ↦ contains-behind (c, first) (map (λ b. (b, first)) bs) (b, first) (mapped-to first bs b behind)
    ]

-- a note is of a text that revokes its block
notes-from : (first : ℕ) (texts : List Text) (b u : ℕ) → Contains (revoke_notes first texts) (b, u) → IsRevoked first texts b u
notes-from first [] b u among = absurd (contains-none (b, u) among)
notes-from first (t ∷ ts) b u among =
    elim (Contains-append_cases (map (λ b. (b, first)) (text_revokes t)) (revoke_notes (suc first) ts) (b, u) among) [
      | inl here ↦
          let is = mapped-from first (text_revokes t) b u here in
          let number = is.1 in
          record { place = 0; text = t; stands = refl; revokes = is.0; number = omega arith }
      | inr behind ↦
          let rest = notes-from (suc first) ts b u behind in
          let number = rest.number in
          record { place = suc rest.place; text = rest.text; stands = rest.stands; revokes = rest.revokes; number = omega arith }
    ]

-- each text that revokes a block has a note
notes-to : (first : ℕ) (texts : List Text) (b k : ℕ) (text : Text) → slice_get texts k ≡ Some text → Contains (text_revokes text) b →
    Contains (revoke_notes first texts) (b, first + k)
notes-to first [] b k text stands revokes = absurd (none-some text stands)
notes-to first (t ∷ ts) b zero text stands revokes =
    let same : t ≡ text = same_Some t text stands in
    Contains-append_left (map (λ b. (b, first)) (text_revokes t)) (revoke_notes (suc first) ts) (b, first + 0)
    (subst (λ (n : ℕ). Contains {X = ℕ × ℕ} (map (λ b. (b, first)) (text_revokes t)) (b, n)) {x = first} {y = first + 0} (omega arith)
    (mapped-to first (text_revokes t) b (subst (λ (x : Text). Contains (text_revokes x) b) (sym same) revokes)))
notes-to first (t ∷ ts) b (suc k) text stands revokes =
    Contains-append_right (map (λ b. (b, first)) (text_revokes t)) (revoke_notes (suc first) ts) (b, first + suc k)
    (subst (λ (n : ℕ). Contains (revoke_notes (suc first) ts) (b, n)) {x = suc first + k} {y = first + suc k} (omega arith)
    (notes-to (suc first) ts b k text stands revokes))

-- the notes cover what the chain covers
pub revokes-cover : (first : ℕ) (texts : List Text) (i b : ℕ) → Covers (revokes_of first texts) b (first + i) ↔ IsCovered texts i b
revokes-cover first texts i b =
    let all = noted-cover (revoke_notes first texts) b (first + i) in (
      λ covers.
          let is = all.0 covers in
          let from = notes-from first texts b is.0 is.1 in
          let number = from.number in
          let up_to = is.2 in
          record { revoker = from.place; text = from.text; not_before = omega arith; stands = from.stands; revokes = from.revokes },
      λ covered.
          let before = covered.not_before in
          all.1 (first + covered.revoker, notes-to first texts b covered.revoker covered.text covered.stands covered.revokes, omega arith),
    )
