-- The places noted of copies, and the revokes of a chain that its table holds.
use Rattle.std.proofs.Common.{refl, sym, ◌∙◌, ap, arith, inl, inr}
use Rattle.std.specs.Prelude.{◌≡◌, ◌⊎◌, ◌↔◌, ℕ, suc, ◌+◌, ◌-◌, ◌≤◌, List, [], ◌∷◌, ◌++◌, length, Some, Contains}
use Rattle.std.proofs.lemmas.Bool.{cases_eq}
use Rattle.std.proofs.lemmas.Option.{same_Some}
use Rattle.std.specs.FinMap.{empty, get, insert}
use Rattle.journal_model.proofs.ListElements.{contains-behind, contains-cases, contains-first, contains-none, get-behind}
use Rattle.log_model.specs.declared.log.Text.{Text}
use Rattle.log_model.specs.Replay.{IsCovered}
use Rattle.block_tables.specs.Copies.{copy_notes, placed_all}
use Rattle.block_tables.specs.Revokes.{BlockTable, Covers, revokes_of}
use Rattle.block_tables.proofs.Noting.{get-other, get-own, revokes-cover}
use Rattle.recovery.specs.HomeCopies.{chain_changes}
use Rattle.recovery.specs.HomeCopies.Change.{Revoked}
use Rattle.recovery.proofs.ChainChanges.{covered-revoked, revoked-covered}
use Rattle.recovery.proofs.LastCopies.{BlockCopies}

-- no copy of block b is among these
abbrev pub HasNoCopy : ℕ → BlockCopies → Type 0
HasNoCopy b copies = (v : List ℕ) → Contains copies (b, v) → ⊥

-- the notes of joined copies are joined
pub copy_notes-append : (p : ℕ) (xs ys : BlockCopies) → copy_notes p (xs ++ ys) ≡ copy_notes p xs ++ copy_notes (p + length xs) ys
copy_notes-append p [] ys = ap (λ (q : ℕ). copy_notes q ys) {x = p} {y = p + 0} (omega arith)
copy_notes-append p (x ∷ xs) ys =
    let rest = copy_notes-append (suc p) xs ys in
    let place : suc p + length xs ≡ p + suc (length xs) = omega arith in
    ap (λ (ns : List (ℕ × ℕ)). (x.0, p) ∷ ns) (rest ∙ ap (λ (q : ℕ). copy_notes (suc p) xs ++ copy_notes q ys) place)

-- joined notes are noted in order
pub placed-append : (table : BlockTable) (ms ns : List (ℕ × ℕ)) → placed_all table (ms ++ ns) ≡ placed_all (placed_all table ms) ns
placed-append table [] ns = refl
placed-append table (m ∷ ms) ns = placed-append (insert table m.0 m.1) ms ns

-- what is noted of a block after copies: as before if none is of it, else the place of one of them
record IsNotedBehind (table : BlockTable) (p : ℕ) (copies : BlockCopies) (b : ℕ) : Type 0 where
  noted :
      (HasNoCopy b copies × (get (placed_all table (copy_notes p copies)) b ≡ get table b))
      ⊎ ((q : ℕ) × (v : List ℕ) × Contains copies (b, v) × (p ≤ q) × (get (placed_all table (copy_notes p copies)) b ≡ Some q))

noted-behind : (table : BlockTable) (p : ℕ) (copies : BlockCopies) (b : ℕ) → IsNotedBehind table p copies b
noted-behind table p [] b = record { noted = inl (λ v among. contains-none (b, v) among, refl) }
noted-behind table p (c ∷ cs) b =
    elim (noted-behind (insert table c.0 p) (suc p) cs b).noted [
      | inl (none, same) ↦
          elim (cases_eq c.0 b) [
            | inl here ↦
                record {
                  noted =
                      inr (p, c.1, contains-first c cs (b, c.1) (ap (λ (n : ℕ). (n, c.1)) here), omega arith, same ∙ get-own table c.0 b p here);
                }
            | inr other ↦
                record {
                  noted =
                      inl (
                        λ v among.
                            elim (contains-cases c cs (b, v) among) [
                              | inl first ↦ other (ap (λ (x : ℕ × List ℕ). x.0) first)
                              | inr behind ↦ none v behind
                            ],
                        same ∙ get-other table c.0 b p other,
                      );
                }
          ]
      | inr (q, v, among, above, value) ↦ record { noted = inr (q, v, contains-behind c cs (b, v) among, omega arith, value) }
    ]

-- the table of joined copies
pub joined-notes : (table : BlockTable) (p : ℕ) (xs ys : BlockCopies) →
    placed_all table (copy_notes p (xs ++ ys)) ≡ placed_all (placed_all table (copy_notes p xs)) (copy_notes (p + length xs) ys)
joined-notes table p xs ys =
    ap (placed_all table) (copy_notes-append p xs ys) ∙ placed-append table (copy_notes p xs) (copy_notes (p + length xs) ys)

-- the place noted of a block is that of its copy with no later copy
pub place-newest : (xs ys : BlockCopies) (c : ℕ × List ℕ) → (get (placed_all empty (copy_notes 0 (xs ++ c ∷ ys))) c.0 ≡ Some (length xs)) ↔ HasNoCopy c.0 ys
place-newest xs ys c =
    let before : BlockTable = placed_all empty (copy_notes 0 xs) in
    let q : ℕ = 0 + length xs in
    let same = ap (λ (table : BlockTable). get table c.0) (joined-notes empty 0 xs (c ∷ ys)) in
    elim (noted-behind (insert before c.0 q) (suc q) ys c.0).noted [
      | inl (none, value) ↦
          let place : Some q ≡ Some (length xs) = ap Some {x = q} {y = length xs} (omega arith) in
          (λ noted. none, λ last. same ∙ value ∙ get-own before c.0 c.0 q refl ∙ place)
      | inr (r, v, among, above, value) ↦ (
        λ noted. let is : r ≡ length xs = same_Some r (length xs) (sym value ∙ sym same ∙ noted) in absurd (omega arith),
        λ last. absurd (last v among),
      )
    ]

-- what covers a block from a text on is a text from there on
covered-suffix : (before suffix : List Text) (b : ℕ) → IsCovered (before ++ suffix) (length before) b → IsCovered suffix 0 b
covered-suffix before suffix b covered =
    let low = covered.not_before in
    let place : covered.revoker ≡ length before + (covered.revoker - length before) = omega arith in
    record {
      revoker = covered.revoker - length before;
      text = covered.text;
      not_before = omega arith;
      stands = sym (get-behind before suffix covered.revoker (covered.revoker - length before) place) ∙ covered.stands;
      revokes = covered.revokes;
    }

-- and each such text covers it
suffix-covered : (before suffix : List Text) (b : ℕ) → IsCovered suffix 0 b → IsCovered (before ++ suffix) (length before) b
suffix-covered before suffix b covered = record {
  revoker = length before + covered.revoker;
  text = covered.text;
  not_before = omega arith;
  stands = get-behind before suffix (length before + covered.revoker) covered.revoker refl ∙ covered.stands;
  revokes = covered.revokes;
}

-- so the table covers a block from a text on if a change from there on revokes it
pub covers-revoked : (first : ℕ) (before suffix : List Text) (b : ℕ) →
    Covers (revokes_of first (before ++ suffix)) b (first + length before) ↔ Contains (chain_changes suffix) (Revoked b)
covers-revoked first before suffix b =
    let is = revokes-cover first (before ++ suffix) (length before) b in (
      λ covers. covered-revoked suffix 0 b (covered-suffix before suffix b (is.0 covers)),
      λ among. is.1 (suffix-covered before suffix b (revoked-covered suffix b among)),
    )
