-- A chain's tables choose the copies that go home by definition.
use Rattle.std.proofs.Common.{refl, sym, ◌∙◌, ap, arith, inl, inr, append_assoc, true≢false}
use Rattle.std.specs.Prelude.{◌≡◌, ◌↔◌, ℕ, suc, ◌+◌, ◌&&◌, not, nat_le, Bool, true, false, if◌then◌else◌, List, [], ◌∷◌, ◌++◌, length, map, Option, Some, None, Contains, IsTrue}
use Rattle.std.specs.FinMap.{empty, get}
use Rattle.std.specs.List.{list_any}
use Rattle.std.proofs.lemmas.Bool.{cases_Bool, eqb-true, leb-true}
use Rattle.std.proofs.lemmas.Bool.Decides.{nat_tests}
use Rattle.std.proofs.lemmas.Grind.{flat_map-append}
use Rattle.std.proofs.lemmas.List.{append-nil, length-append}
use Rattle.std.proofs.lemmas.List.Elements.{Contains-append_cases, Contains-append_left, Contains-append_right}
use Rattle.std.proofs.lemmas.Option.{none-some, same_Some}
use Rattle.log_model.specs.declared.log.Text.{Text}
use Rattle.log_model.specs.Text.{text_copies, text_revokes}
use Rattle.block_tables.specs.Copies.{copies_of, copy_notes, placed_all, places_of}
use Rattle.block_tables.specs.Revokes.{BlockTable, Covers, revokes_of}
use Rattle.recovery.specs.Choice.{chosen, chosen_all, goes_by, is_place, reaches}
use Rattle.recovery.specs.HomeCopies.{Change, chain_changes, home_copies, is_of, last_copies}
use Rattle.recovery.specs.HomeCopies.Change.{Copied, Revoked}
use Rattle.recovery.proofs.ChainChanges.{chain-copied, chain-copied_from, changes-copied, changes-revoked, changes_of, copied-from, revoked-from}
use Rattle.recovery.proofs.LastCopies.{BlockCopies, changed-last, copied, last-among, none-copied, none-revoked, revoked-last}
use Rattle.recovery.proofs.PlaceNotes.{HasNoCopy, covers-revoked, place-newest}

-- the test of a place holds if the place is noted
place-noted : (place : ℕ) (o : Option ℕ) → (is_place place o ≡ true) ↔ (o ≡ Some place)
place-noted place None = (λ is. absurd (true≢false (sym is)), λ is. absurd (none-some place is))
place-noted place (Some noted) = (
  λ is. ap Some (eqb-true noted place is),
  λ is. let same : noted ≡ place = same_Some noted place is in grind (arith, nat_tests),
)

-- the test of a revoke holds if the table covers the copy
pub covers-reaches : (revokes : BlockTable) (b tid : ℕ) → (reaches tid (get revokes b) ≡ true) ↔ Covers revokes b tid
covers-reaches revokes b tid = (λ is. to (get revokes b) refl is, from)
  where
    to : (o : Option ℕ) → get revokes b ≡ o → reaches tid o ≡ true → Covers revokes b tid
    to None is test = absurd (true≢false (sym test))
    to (Some number) is test = record { number = number; noted = is; not_before = leb-true tid number test }

    from : Covers revokes b tid → reaches tid (get revokes b) ≡ true
    from covers =
        let low = covers.not_before in
        let test : nat_le tid covers.number ≡ true = grind (arith, nat_tests) in
        ap (reaches tid) covers.noted ∙ test

-- both tests hold or fail as their conjunction does
both-true : (p q : Bool) → (p && not q) ≡ true → (p ≡ true) × (q ≡ false)
both-true true true is = absurd (true≢false (sym is))
both-true true false is = (refl, refl)
both-true false q is = absurd (true≢false (sym is))

-- a copy goes home by the tables if its place is noted and no revoke covers it
pub goes-home : (revokes places : BlockTable) (tid place b : ℕ) →
    (goes_by revokes places tid place b ≡ true) ↔ ((get places b ≡ Some place) × (Covers revokes b tid → ⊥))
goes-home revokes places tid place b = (to, from)
  where
    to : goes_by revokes places tid place b ≡ true → (get places b ≡ Some place) × (Covers revokes b tid → ⊥)
    to goes =
        let both = both-true (is_place place (get places b)) (reaches tid (get revokes b)) goes in
        ((place-noted place (get places b)).0 both.0, λ covers. true≢false (sym ((covers-reaches revokes b tid).1 covers) ∙ both.1))

    from : (get places b ≡ Some place) × (Covers revokes b tid → ⊥) → goes_by revokes places tid place b ≡ true
    from is =
        let newest : is_place place (get places b) ≡ true = (place-noted place (get places b)).1 is.0 in
        elim (cases_Bool (reaches tid (get revokes b))) [
          | inl covered ↦ absurd (is.1 ((covers-reaches revokes b tid).0 covered))
          | inr uncovered ↦ rw (newest, uncovered) refl
        ]

-- else it stays
goes-not : (revokes places : BlockTable) (tid place b : ℕ) → (((get places b ≡ Some place) × (Covers revokes b tid → ⊥)) → ⊥) →
    goes_by revokes places tid place b ≡ false
goes-not revokes places tid place b none =
    elim (cases_Bool (goes_by revokes places tid place b)) [
      | inl goes ↦ absurd (none ((goes-home revokes places tid place b).0 goes))
      | inr stays ↦ stays
    ]

-- any two such tests decide it
pub goes-tested : (revokes places : BlockTable) (tid place b : ℕ) (newest covered : Bool) → (IsTrue newest ↔ (get places b ≡ Some place)) →
    (IsTrue covered ↔ Covers revokes b tid) → (newest && not covered) ≡ goes_by revokes places tid place b
goes-tested revokes places tid place b true true is_newest is_covered = sym (goes-not revokes places tid place b (λ is. is.1 (is_covered.0 refl)))
goes-tested revokes places tid place b true false is_newest is_covered =
    sym ((goes-home revokes places tid place b).1 (is_newest.0 refl, λ covers. true≢false (sym (is_covered.1 covers))))
goes-tested revokes places tid place b false covered is_newest is_covered = sym (goes-not revokes places tid place b (λ is. true≢false (sym (is_newest.1 is.0))))

-- the changes after a copy of the first text
abbrev behind_copy : BlockCopies → Text → List Text → List Change
behind_copy behind t ts = changes_of behind (text_revokes t) ++ chain_changes ts

-- if none of them is of its block, no later copy of it exists
none-behind : (behind : BlockCopies) (t : Text) (ts : List Text) (b : ℕ) → list_any (is_of b) (behind_copy behind t ts) ≡ false → HasNoCopy b (behind ++ copies_of ts)
none-behind behind t ts b none v among =
    elim (Contains-append_cases behind (copies_of ts) (b, v) among) [
      | inl here ↦
          none-copied b v (behind_copy behind t ts) none
          (Contains-append_left (changes_of behind (text_revokes t)) (chain_changes ts) (Copied b v) (changes-copied behind (text_revokes t) b v here))
      | inr there ↦
          none-copied b v (behind_copy behind t ts) none
          (Contains-append_right (changes_of behind (text_revokes t)) (chain_changes ts) (Copied b v) (chain-copied ts b v there))
    ]

-- and no text from there on revokes it
none-revokes : (behind : BlockCopies) (t : Text) (ts : List Text) (b : ℕ) → list_any (is_of b) (behind_copy behind t ts) ≡ false →
    Contains (chain_changes (t ∷ ts)) (Revoked b) → ⊥
none-revokes behind t ts b none among =
    elim (Contains-append_cases (changes_of (text_copies t) (text_revokes t)) (chain_changes ts) (Revoked b) among) [
      | inl here ↦
          none-revoked b (behind_copy behind t ts) none
          (Contains-append_left (changes_of behind (text_revokes t)) (chain_changes ts) (Revoked b)
          (changes-revoked behind (text_revokes t) b (revoked-from (text_copies t) (text_revokes t) b here)))
      | inr there ↦
          none-revoked b (behind_copy behind t ts) none
          (Contains-append_right (changes_of behind (text_revokes t)) (chain_changes ts) (Revoked b) there)
    ]

-- a copy among them is a later copy
copy-behind : (behind : BlockCopies) (t : Text) (ts : List Text) (b : ℕ) (v : List ℕ) → Contains (behind_copy behind t ts) (Copied b v) →
    Contains (behind ++ copies_of ts) (b, v)
copy-behind behind t ts b v among =
    elim (Contains-append_cases (changes_of behind (text_revokes t)) (chain_changes ts) (Copied b v) among) [
      | inl here ↦ Contains-append_left behind (copies_of ts) (b, v) (copied-from behind (text_revokes t) b v here)
      | inr there ↦ Contains-append_right behind (copies_of ts) (b, v) (chain-copied_from ts b v there)
    ]

-- a revoke among them is one of a text from there on
revoke-behind : (behind : BlockCopies) (t : Text) (ts : List Text) (b : ℕ) → Contains (behind_copy behind t ts) (Revoked b) →
    Contains (chain_changes (t ∷ ts)) (Revoked b)
revoke-behind behind t ts b among =
    elim (Contains-append_cases (changes_of behind (text_revokes t)) (chain_changes ts) (Revoked b) among) [
      | inl here ↦
          Contains-append_left (changes_of (text_copies t) (text_revokes t)) (chain_changes ts) (Revoked b)
          (changes-revoked (text_copies t) (text_revokes t) b (revoked-from behind (text_revokes t) b here))
      | inr there ↦ Contains-append_right (changes_of (text_copies t) (text_revokes t)) (chain_changes ts) (Revoked b) there
    ]

-- a chain's copies, split at one of them
copies-split : (before ts : List Text) (t : Text) (front behind : BlockCopies) (c : ℕ × List ℕ) → text_copies t ≡ front ++ c ∷ behind →
    copies_of (before ++ t ∷ ts) ≡ (copies_of before ++ front) ++ c ∷ (behind ++ copies_of ts)
copies-split before ts t front behind c split =
    flat_map-append text_copies before (t ∷ ts)
    ∙ ap (λ (x : BlockCopies). copies_of before ++ (x ++ copies_of ts)) split
    ∙ ap (λ (x : BlockCopies). copies_of before ++ x) (append_assoc front (c ∷ behind) (copies_of ts))
    ∙ sym (append_assoc (copies_of before) front (c ∷ (behind ++ copies_of ts)))

-- its place is noted if no later copy of its block exists
chain-newest : (before ts : List Text) (t : Text) (front behind : BlockCopies) (c : ℕ × List ℕ) → text_copies t ≡ front ++ c ∷ behind →
    (get (places_of (before ++ t ∷ ts)) c.0 ≡ Some (length (copies_of before) + length front)) ↔ HasNoCopy c.0 (behind ++ copies_of ts)
chain-newest before ts t front behind c split =
    let is = place-newest (copies_of before ++ front) (behind ++ copies_of ts) c in
    let same : get (places_of (before ++ t ∷ ts)) c.0 ≡ get (placed_all empty (copy_notes 0 ((copies_of before ++ front) ++ c ∷ (behind ++ copies_of ts)))) c.0 =
    ap (λ (x : BlockCopies). get (placed_all empty (copy_notes 0 x)) c.0) (copies-split before ts t front behind c split) in
    let place : Some (length (copies_of before ++ front)) ≡ Some (length (copies_of before) + length front) =
    ap Some (length-append (copies_of before) front) in
    (λ noted. is.0 (sym same ∙ noted ∙ sym place), λ none. same ∙ is.1 none ∙ place)

-- a copy goes home by its chain's tables if no later change is of its block
goes-last : (first : ℕ) (before ts : List Text) (t : Text) (front behind : BlockCopies) (c : ℕ × List ℕ) → text_copies t ≡ front ++ c ∷ behind →
    goes_by (revokes_of first (before ++ t ∷ ts)) (places_of (before ++ t ∷ ts)) (first + length before) (length (copies_of before) + length front) c.0
    ≡ not (list_any (is_of c.0) (behind_copy behind t ts))
goes-last first before ts t front behind c split =
    let revokes : BlockTable = revokes_of first (before ++ t ∷ ts) in
    let places : BlockTable = places_of (before ++ t ∷ ts) in
    let place : ℕ = length (copies_of before) + length front in
    let newest = chain-newest before ts t front behind c split in
    let covers = covers-revoked first before (t ∷ ts) c.0 in
    elim (cases_Bool (list_any (is_of c.0) (behind_copy behind t ts))) [
      | inl found ↦
          goes-not revokes places (first + length before) place c.0 (λ is.
          elim (changed-last c.0 (behind_copy behind t ts) found) [
            | inl (v, last) ↦ newest.0 is.0 v (copy-behind behind t ts c.0 v (last-among (behind_copy behind t ts) c.0 v last))
            | inr revoked ↦ is.1 (covers.1 (revoke-behind behind t ts c.0 revoked))
          ])
          ∙ sym (ap not found)
      | inr none ↦
          (goes-home revokes places (first + length before) place c.0).1 (
            newest.1 (none-behind behind t ts c.0 none),
            λ covered. none-revokes behind t ts c.0 none (covers.0 covered),
          )
          ∙ sym (ap not none)
    ]

-- one copy is chosen, or left out
one-chosen : (goes any : Bool) (c : ℕ × List ℕ) (xs ys zs : BlockCopies) → goes ≡ not any → xs ++ ys ≡ zs →
    (if goes then c ∷ xs else xs) ++ ys ≡ (if any then zs else (c.0, c.1) ∷ zs)
one-chosen true true c xs ys zs is same = absurd (true≢false is)
one-chosen true false c xs ys zs is same = ap (λ (l : BlockCopies). c ∷ l) same
one-chosen false true c xs ys zs is same = same
one-chosen false false c xs ys zs is same = absurd (true≢false (sym is))

-- if each copy goes home unless a later change is of its block, the chosen copies are the last ones
chosen-last : (revokes places : BlockTable) (tid place : ℕ) (copies : BlockCopies) (tail : List Change) →
    ((front behind : BlockCopies) (c : ℕ × List ℕ) → copies ≡ front ++ c ∷ behind →
    goes_by revokes places tid (place + length front) c.0 ≡ not (list_any (is_of c.0) (map copied behind ++ tail))) →
    chosen revokes places tid place copies ++ last_copies tail ≡ last_copies (map copied copies ++ tail)
chosen-last revokes places tid place [] tail rule = refl
chosen-last revokes places tid place (c ∷ cs) tail rule =
    let here =
    ap (λ (p : ℕ). goes_by revokes places tid p c.0) {x = place} {y = place + 0} (omega arith) ∙ rule [] cs c refl in
    let rest =
    chosen-last revokes places tid (suc place) cs tail (λ front behind d split.
    ap (λ (p : ℕ). goes_by revokes places tid p d.0) {x = suc place + length front} {y = place + suc (length front)} (omega arith)
    ∙ rule (c ∷ front) behind d (ap (λ (x : BlockCopies). c ∷ x) split)) in
    one-chosen (goes_by revokes places tid place c.0) (list_any (is_of c.0) (map copied cs ++ tail)) c (chosen revokes places tid (suc place) cs)
    (last_copies tail) (last_copies (map copied cs ++ tail)) here rest

-- one text's choice, then the later texts' home copies, are all home copies
text-chosen : (first : ℕ) (before ts : List Text) (t : Text) →
    chosen (revokes_of first (before ++ t ∷ ts)) (places_of (before ++ t ∷ ts)) (first + length before) (length (copies_of before)) (text_copies t)
    ++ home_copies ts
    ≡ home_copies (t ∷ ts)
text-chosen first before ts t =
    let revokes : BlockTable = revokes_of first (before ++ t ∷ ts) in
    let places : BlockTable = places_of (before ++ t ∷ ts) in
    let tid : ℕ = first + length before in
    let place : ℕ = length (copies_of before) in
    let tail : List Change = map Revoked (text_revokes t) ++ chain_changes ts in
    ap (λ (x : BlockCopies). chosen revokes places tid place (text_copies t) ++ x) (sym (revoked-last (text_revokes t) (chain_changes ts)))
    ∙ chosen-last revokes places tid place (text_copies t) tail (λ front behind c split.
    goes-last first before ts t front behind c split
    ∙ ap (λ (changes : List Change). not (list_any (is_of c.0) changes)) (append_assoc (map copied behind) (map Revoked (text_revokes t)) (chain_changes ts)))
    ∙ ap last_copies (sym (append_assoc (map copied (text_copies t)) (map Revoked (text_revokes t)) (chain_changes ts)))

-- one more text adds its copies
pub copies-more : (texts : List Text) (t : Text) → copies_of (texts ++ t ∷ []) ≡ copies_of texts ++ text_copies t
copies-more texts t = flat_map-append text_copies texts (t ∷ []) ∙ ap (λ (x : BlockCopies). copies_of texts ++ x) (append-nil (text_copies t))

-- and their count
pub copies-count : (texts : List Text) (t : Text) → length (copies_of (texts ++ t ∷ [])) ≡ length (copies_of texts) + length (text_copies t)
copies-count texts t = ap length (copies-more texts t) ∙ length-append (copies_of texts) (text_copies t)

-- the choice of all texts from one on is their home copies
pub suffix-chosen : (first : ℕ) (before ts texts : List Text) (tid place : ℕ) → texts ≡ before ++ ts → tid ≡ first + length before →
    place ≡ length (copies_of before) → chosen_all (revokes_of first texts) (places_of texts) tid place ts ≡ home_copies ts
suffix-chosen first before [] texts tid place is number at = refl
suffix-chosen first before (t ∷ ts) texts tid place is number at =
    let rest =
    suffix-chosen first (before ++ t ∷ []) ts texts (suc tid) (place + length (text_copies t)) (is ∙ sym (append_assoc before (t ∷ []) ts))
    (omega (arith, length-append before (t ∷ []))) (omega (arith, copies-count before t)) in
    ap (λ (x : BlockCopies). chosen (revokes_of first texts) (places_of texts) tid place (text_copies t) ++ x) rest
    ∙ ap (λ (x : List Text). chosen (revokes_of first x) (places_of x) tid place (text_copies t) ++ home_copies ts) is
    ∙ ap (λ (n : ℕ). chosen (revokes_of first (before ++ t ∷ ts)) (places_of (before ++ t ∷ ts)) n place (text_copies t) ++ home_copies ts) number
    ∙ ap (λ (n : ℕ). chosen (revokes_of first (before ++ t ∷ ts)) (places_of (before ++ t ∷ ts)) (first + length before) n (text_copies t) ++ home_copies ts) at
    ∙ text-chosen first before ts t

-- the copies that a chain's tables choose are those that go home
pub home-chosen : (first : ℕ) (texts : List Text) → chosen_all (revokes_of first texts) (places_of texts) first 0 texts ≡ home_copies texts
home-chosen first texts = suffix-chosen first [] texts texts first 0 refl (omega arith) refl
