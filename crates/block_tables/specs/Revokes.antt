-- Which copies a table of revokes covers, and the table of a chain.
-- Source: fs/jbd2/revoke.c by behaviour.
use Rattle.std.specs.Prelude.{◌≡◌, ℕ, suc, ◌≤◌, nat_lt, if◌then◌else◌, List, [], ◌∷◌, ◌++◌, map, Option, Some, None}
use Rattle.std.specs.FinMap.{FinMap, empty, get, insert}
use Rattle.std.specs.Ordering.{nat_cmp}
use Rattle.log_model.specs.declared.log.Text.{Text}
use Rattle.log_model.specs.Text.{text_revokes}

-- for each noted block the transaction that revokes it, or the place of its copy
abbrev pub BlockTable : Type 0
BlockTable = FinMap nat_cmp ℕ

-- b has a number, not below t
pub record Covers (table : BlockTable) (b t : ℕ) : Type 0 where
  pub number : ℕ
  pub noted : get table b ≡ Some number
  pub not_before : t ≤ number

abbrev pub greatest : ℕ → Option ℕ → ℕ
greatest t None = t
greatest t (Some u) = if nat_lt u t then t else u

-- the table after a note that transaction t revokes block b
abbrev pub noted : BlockTable → ℕ → ℕ → BlockTable
noted table b t = insert table b (greatest t (get table b))

abbrev pub noted_all : BlockTable → List (ℕ × ℕ) → BlockTable
noted_all table [] = table
noted_all table (n ∷ ns) = noted_all (noted table n.0 n.1) ns

abbrev pub notes_of : ℕ → List ℕ → List (ℕ × ℕ)
notes_of t blocks = map (λ b. (b, t)) blocks

abbrev pub revoke_notes : ℕ → List Text → List (ℕ × ℕ)
revoke_notes first [] = []
revoke_notes first (t ∷ ts) = notes_of first (text_revokes t) ++ revoke_notes (suc first) ts

-- the table of a chain whose first text has this number
abbrev pub revokes_of : ℕ → List Text → BlockTable
revokes_of first texts = noted_all empty (revoke_notes first texts)
