-- A chain's changes, and the copies and revokes of its texts that they contain.
use Rattle.std.proofs.Common.{refl, sym, ◌∙◌, ap, subst, arith, inl, inr, zero}
use Rattle.std.specs.Prelude.{◌≡◌, ℕ, suc, ◌≤◌, List, [], ◌∷◌, ◌++◌, map, Some, Contains, slice_get}
use Rattle.std.proofs.lemmas.List.Elements.{Contains-append_cases, Contains-append_left, Contains-append_right}
use Rattle.std.proofs.lemmas.Option.{none-some, same_Some}
use Rattle.journal_model.proofs.ListElements.{contains-none}
use Rattle.log_model.specs.declared.log.Text.{Text}
use Rattle.log_model.specs.Replay.{IsCovered}
use Rattle.log_model.specs.Text.{text_copies, text_revokes}
use Rattle.block_tables.specs.Copies.{copies_of}
use Rattle.recovery.specs.HomeCopies.{Change, chain_changes, text_changes}
use Rattle.recovery.specs.HomeCopies.Change.{Copied, Revoked}
use Rattle.recovery.proofs.LastCopies.{BlockCopies, copied, mapped-from, mapped-has}

-- the changes of copies, then of revokes
abbrev pub changes_of : BlockCopies → List ℕ → List Change
changes_of cs rs = map copied cs ++ map Revoked rs

-- each copy is one of them
pub changes-copied : (cs : BlockCopies) (rs : List ℕ) (b : ℕ) (v : List ℕ) → Contains cs (b, v) → Contains (changes_of cs rs) (Copied b v)
changes-copied cs rs b v among = Contains-append_left (map copied cs) (map Revoked rs) (Copied b v) (mapped-has copied cs (b, v) among)

-- each revoke is one of them
pub changes-revoked : (cs : BlockCopies) (rs : List ℕ) (b : ℕ) → Contains rs b → Contains (changes_of cs rs) (Revoked b)
changes-revoked cs rs b among = Contains-append_right (map copied cs) (map Revoked rs) (Revoked b) (mapped-has Revoked rs b among)

-- equal changes have equal copies
one-copy : (c d : ℕ × List ℕ) → copied c ≡ copied d → c ≡ d
one-copy c d same =
    let block : c.0 ≡ d.0 = cc in
    let bytes : c.1 ≡ d.1 = cc in
    ap (λ (n : ℕ). (n, c.1)) block ∙ ap (λ (w : List ℕ). (d.0, w)) bytes

-- equal changes have equal revokes
one-revoke : (r b : ℕ) → Revoked r ≡ Revoked b → r ≡ b
one-revoke r b same = cc

-- a revoke is no copy
revoke-copy : (r b : ℕ) (v : List ℕ) → Revoked r ≡ Copied b v → ⊥
revoke-copy r b v same = cc

-- each copied change is one of the copies
pub copied-from : (cs : BlockCopies) (rs : List ℕ) (b : ℕ) (v : List ℕ) → Contains (changes_of cs rs) (Copied b v) → Contains cs (b, v)
copied-from cs rs b v among =
    elim (Contains-append_cases (map copied cs) (map Revoked rs) (Copied b v) among) [
      | inl here ↦
          let from = mapped-from copied cs (Copied b v) here in
          subst (λ (p : ℕ × List ℕ). Contains cs p) (one-copy from.0 (b, v) from.2) from.1
      | inr there ↦ let from = mapped-from Revoked rs (Copied b v) there in absurd (revoke-copy from.0 b v from.2)
    ]

-- each revoked change is one of the revokes
pub revoked-from : (cs : BlockCopies) (rs : List ℕ) (b : ℕ) → Contains (changes_of cs rs) (Revoked b) → Contains rs b
revoked-from cs rs b among =
    elim (Contains-append_cases (map copied cs) (map Revoked rs) (Revoked b) among) [
      | inl here ↦ let from = mapped-from copied cs (Revoked b) here in absurd (revoke-copy b from.0.0 from.0.1 (sym from.2))
      | inr there ↦
          let from = mapped-from Revoked rs (Revoked b) there in
          subst (λ (r : ℕ). Contains rs r) (one-revoke from.0 b from.2) from.1
    ]

-- each change of a text is one of its chain
pub chain-has : (texts : List Text) (j : ℕ) (text : Text) (c : Change) → slice_get texts j ≡ Some text → Contains (text_changes text) c →
    Contains (chain_changes texts) c
chain-has [] j text c stands has = absurd (none-some text stands)
chain-has (t ∷ ts) zero text c stands has =
    Contains-append_left (text_changes t) (chain_changes ts) c (subst (λ (x : Text). Contains (text_changes x) c) (sym (same_Some t text stands)) has)
chain-has (t ∷ ts) (suc j) text c stands has = Contains-append_right (text_changes t) (chain_changes ts) c (chain-has ts j text c stands has)

-- each copy of a chain is one of its changes
pub chain-copied : (texts : List Text) (b : ℕ) (v : List ℕ) → Contains (copies_of texts) (b, v) → Contains (chain_changes texts) (Copied b v)
chain-copied [] b v among = absurd (contains-none (b, v) among)
chain-copied (t ∷ ts) b v among =
    elim (Contains-append_cases (text_copies t) (copies_of ts) (b, v) among) [
      | inl here ↦
          Contains-append_left (text_changes t) (chain_changes ts) (Copied b v) (changes-copied (text_copies t) (text_revokes t) b v here)
      | inr behind ↦ Contains-append_right (text_changes t) (chain_changes ts) (Copied b v) (chain-copied ts b v behind)
    ]

-- each copied change of a chain is one of its copies
pub chain-copied_from : (texts : List Text) (b : ℕ) (v : List ℕ) → Contains (chain_changes texts) (Copied b v) → Contains (copies_of texts) (b, v)
chain-copied_from [] b v among = absurd (contains-none (Copied b v) among)
chain-copied_from (t ∷ ts) b v among =
    elim (Contains-append_cases (text_changes t) (chain_changes ts) (Copied b v) among) [
      | inl here ↦ Contains-append_left (text_copies t) (copies_of ts) (b, v) (copied-from (text_copies t) (text_revokes t) b v here)
      | inr behind ↦ Contains-append_right (text_copies t) (copies_of ts) (b, v) (chain-copied_from ts b v behind)
    ]

-- a cover stays one with one more text in front
pub covered-more : (t : Text) (ts : List Text) (i b : ℕ) → IsCovered ts i b → IsCovered (t ∷ ts) (suc i) b
covered-more t ts i b covered =
    let before = covered.not_before in
    record { revoker = suc covered.revoker; text = covered.text; not_before = omega arith; stands = covered.stands; revokes = covered.revokes }

-- and one without that text
pub covered-tail : (t : Text) (ts : List Text) (i b : ℕ) → IsCovered (t ∷ ts) (suc i) b → IsCovered ts i b
covered-tail t ts i b covered = at covered.revoker covered.not_before covered.stands
  where
    at : (r : ℕ) → suc i ≤ r → slice_get (t ∷ ts) r ≡ Some covered.text → IsCovered ts i b
    at zero before stands = absurd (omega arith)
    at (suc r) before stands = record { revoker = r; text = covered.text; not_before = omega arith; stands = stands; revokes = covered.revokes }

-- what covers from a text on covers from the first text on
covered-earlier : (texts : List Text) (i b : ℕ) → IsCovered texts i b → IsCovered texts 0 b
covered-earlier texts i b covered =
    record { revoker = covered.revoker; text = covered.text; not_before = omega arith; stands = covered.stands; revokes = covered.revokes }

-- a revoke of the chain covers its block from the first text on
pub revoked-covered : (texts : List Text) (b : ℕ) → Contains (chain_changes texts) (Revoked b) → IsCovered texts 0 b
revoked-covered [] b among = absurd (contains-none (Revoked b) among)
revoked-covered (t ∷ ts) b among =
    elim (Contains-append_cases (text_changes t) (chain_changes ts) (Revoked b) among) [
      | inl here ↦
          record { revoker = 0; text = t; not_before = omega arith; stands = refl; revokes = revoked-from (text_copies t) (text_revokes t) b here }
      | inr behind ↦ covered-earlier (t ∷ ts) 1 b (covered-more t ts 0 b (revoked-covered ts b behind))
    ]

-- what covers a block is a revoke of the chain
pub covered-revoked : (texts : List Text) (i b : ℕ) → IsCovered texts i b → Contains (chain_changes texts) (Revoked b)
covered-revoked texts i b covered =
    chain-has texts covered.revoker covered.text (Revoked b) covered.stands
    (changes-revoked (text_copies covered.text) (text_revokes covered.text) b covered.revokes)
