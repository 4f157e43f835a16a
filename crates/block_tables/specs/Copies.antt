-- Which copy of each block is the newest of a chain by its table, and which copies a replay writes home.
use Rattle.std.specs.Prelude.{◌≡◌, ℕ, suc, ◌+◌, List, [], ◌∷◌, length, take, Some, slice_get}
use Rattle.std.specs.FinMap.{empty, get, insert}
use Rattle.std.specs.List.{flat_map}
use Rattle.log_model.specs.declared.log.Text.{Text}
use Rattle.log_model.specs.Text.{text_copies}
use Rattle.block_tables.specs.Revokes.{BlockTable, Covers, revokes_of}

abbrev pub placed_all : BlockTable → List (ℕ × ℕ) → BlockTable
placed_all table [] = table
placed_all table (n ∷ ns) = placed_all (insert table n.0 n.1) ns

-- the notes of these copies; the first has place p
abbrev pub copy_notes : ℕ → List (ℕ × List ℕ) → List (ℕ × ℕ)
copy_notes p [] = []
copy_notes p (c ∷ cs) = (c.0, p) ∷ copy_notes (suc p) cs

abbrev pub copies_of : List Text → List (ℕ × List ℕ)
copies_of texts = flat_map text_copies texts

-- the place of copy k of text i among all copies
abbrev pub copy_place : List Text → ℕ → ℕ → ℕ
copy_place texts i k = length (copies_of (take i texts)) + k

-- the place of each block's last copy
abbrev pub places_of : List Text → BlockTable
places_of texts = placed_all empty (copy_notes 0 (copies_of texts))

-- copy k of text i goes home: it is its block's newest by the table, and is not covered
pub record GoesHome (first : ℕ) (texts : List Text) (b i k : ℕ) (bytes : List ℕ) : Type 0 where
  pub text : Text
  pub stands : slice_get texts i ≡ Some text
  pub copy : slice_get (text_copies text) k ≡ Some (b, bytes)
  pub newest : get (places_of texts) b ≡ Some (copy_place texts i k)
  pub uncovered : Covers (revokes_of first texts) b (first + i) → ⊥
