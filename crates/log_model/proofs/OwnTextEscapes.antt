-- Unescaping undoes escaping, and an escaped copy is as long as the copy.
use Rattle.std.proofs.Common.{refl, sym, arith, length-drop}
use Rattle.std.specs.Prelude.{◌≡◌, ℕ, ◌≤◌, Bool, true, false, if◌then◌else◌, List, ◌∷◌, ◌++◌, length, drop}
use Rattle.std.proofs.lemmas.Bool.Decides.{Decides-eqb}
use Rattle.std.proofs.lemmas.Slice.Eq.{starts_is}
use Rattle.journal_model.specs.Layout.{begins_with_magic, magic_bytes}
use Rattle.log_model.specs.Escape.{escaped, unescaped}

-- a list that begins with the magic is the magic and the rest
magic_first : (v : List ℕ) → begins_with_magic v ≡ true → v ≡ magic_bytes ++ drop 4 v
magic_first v begins = (starts_is Decides-eqb v magic_bytes (begins_with_magic v) refl).0 begins

-- a copy is restored after it was escaped and unescaped
pub unescaped-escaped : (v : List ℕ) → unescaped (begins_with_magic v) (escaped v) ≡ v
unescaped-escaped v = go (begins_with_magic v) refl
  where
    go : (flag : Bool) → begins_with_magic v ≡ flag → unescaped flag (if flag then 0 ∷ 0 ∷ 0 ∷ 0 ∷ drop 4 v else v) ≡ v
    go true begins = sym (magic_first v begins)
    go false begins = refl

-- escaping keeps the length of at least four bytes
pub length-escaped : (v : List ℕ) → 4 ≤ length v → length (escaped v) ≡ length v
length-escaped v long = go (begins_with_magic v)
  where
    go : (flag : Bool) → length (if flag then 0 ∷ 0 ∷ 0 ∷ 0 ∷ drop 4 v else v) ≡ length v
    go true = simp length-drop (omega arith)
    go false = refl
