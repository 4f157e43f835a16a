-- How a copy that begins with the magic is kept apart from the log's own blocks.
-- Source: journal.rst, "Data Block" (escaped blocks).
use Rattle.std.specs.Prelude.{ℕ, Bool, if◌then◌else◌, List, ◌∷◌, ◌++◌, drop}
use Rattle.journal_model.specs.Layout.{begins_with_magic, magic_bytes}

-- zeros instead of the magic
abbrev pub escaped : List ℕ → List ℕ
escaped copy = if begins_with_magic copy then 0 ∷ 0 ∷ 0 ∷ 0 ∷ drop 4 copy else copy

-- a copy as the replay writes it, with the magic if its tag says escaped
abbrev pub unescaped : Bool → List ℕ → List ℕ
unescaped flag stored = if flag then magic_bytes ++ drop 4 stored else stored
