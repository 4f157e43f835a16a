-- Which copies of a chain go home, in order.
-- Source: fs/jbd2/recovery.c and revoke.c by behaviour; that each block is written once is this project's own.
use Rattle.std.specs.Prelude.{ℕ, ◌==◌, Bool, if◌then◌else◌, List, [], ◌∷◌, ◌++◌, map}
use Rattle.std.specs.List.{flat_map, list_any}
use Rattle.log_model.specs.declared.log.Text.{Text}
use Rattle.log_model.specs.Text.{text_copies, text_revokes}

-- one change of a block in a chain
pub data Change : Type 0 where
  Copied : (b : ℕ) → (bytes : List ℕ) → Change
  Revoked : (b : ℕ) → Change

-- a transaction's changes: its revokes count as after its copies
abbrev pub text_changes : Text → List Change
text_changes t = map (λ c. Copied c.0 c.1) (text_copies t) ++ map Revoked (text_revokes t)

-- a chain's changes, in order
abbrev pub chain_changes : List Text → List Change
chain_changes texts = flat_map text_changes texts

-- whether the change is of this block
abbrev pub is_of : ℕ → Change → Bool
is_of b (Copied c bytes) = c == b
is_of b (Revoked c) = c == b

-- the copies whose block no later change is of
abbrev pub last_copies : List Change → List (ℕ × List ℕ)
last_copies [] = []
last_copies (Copied b bytes ∷ changes) = if list_any (is_of b) changes then last_copies changes else (b, bytes) ∷ last_copies changes
last_copies (Revoked b ∷ changes) = last_copies changes

-- the copies of a chain that go home, in order: no later change copies or revokes their block
abbrev pub home_copies : List Text → List (ℕ × List ℕ)
home_copies texts = last_copies (chain_changes texts)
