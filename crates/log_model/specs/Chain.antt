-- Which transactions a log holds, as the longest list of texts in a row, and which block is damage.
-- Source: fs/jbd2/recovery.c by behaviour. The bound of one lap and damage are this project's own.
use Rattle.std.specs.Prelude.{◌≡◌, ◌⊎◌, ℕ, suc, ◌+◌, ◌-◌, ◌%◌, ◌<◌, ◌≤◌, true, List, [], ◌∷◌, ◌++◌, length, map, ⊤}
use Rattle.std.specs.List.{flat_map, range_with_len, AllByRecursion}
use Rattle.log_model.specs.declared.log.Tag.{Tag}
use Rattle.log_model.specs.declared.log.Piece.{Piece}
use Rattle.log_model.specs.declared.log.Text.{Text}
use Rattle.journal_model.specs.declared.number.Area.TheVariants.{Log}
use Rattle.journal_model.specs.Disk.{Image}
use Rattle.journal_model.specs.Layout.{Layout, HasHeader, descriptor_type, revoke_type, begins_with_magic, sequence_in}
use Rattle.log_model.specs.Descriptor.{IsDescriptor}
use Rattle.log_model.specs.RevokeBlock.{IsRevokeBlock}
use Rattle.log_model.specs.Text.{IsPiece, IsText, pieces_blocks, text_blocks}

pub record Ring : Type 0 where
  pub first : ℕ
  pub blocks : ℕ

-- position k counts over all laps
abbrev pub ring_place : Ring → ℕ → ℕ
ring_place r k = r.first + k % r.blocks

-- the k-th ring block from a place on
abbrev pub place_from : Ring → ℕ → ℕ → ℕ
place_from r place k = r.first + (place - r.first + k) % r.blocks

unfoldable pub lap : Ring → Image → ℕ → List (List ℕ)
lap r image place = map (λ k. image Log (place_from r place k)) (range_with_len 0 r.blocks)

abbrev pub AreTexts : Layout → ℕ → ℕ → List Text → Type 0
AreTexts l count sequence [] = ⊤
AreTexts l count sequence (t ∷ ts) = IsText l count sequence t × AreTexts l count (suc sequence) ts

abbrev pub texts_blocks : List Text → List (List ℕ)
texts_blocks ts = flat_map text_blocks ts

pub record BeginsWithTexts (l : Layout) (count sequence : ℕ) (blocks : List (List ℕ)) (texts : List Text) : Type 0 where
  pub rest : List (List ℕ)
  pub split : blocks ≡ texts_blocks texts ++ rest
  pub numbered : AreTexts l count sequence texts

-- the longest list of texts, numbered from the sequence on, that the blocks begin with
pub record IsChain (l : Layout) (count sequence : ℕ) (blocks : List (List ℕ)) (texts : List Text) : Type 0 where
  pub begins : BeginsWithTexts l count sequence blocks texts
  pub longest : (others : List Text) → BeginsWithTexts l count sequence blocks others → length others ≤ length texts

-- a descriptor or revoke block of this sequence that is well formed for no tags or numbers
abbrev pub IsMalformed : Layout → ℕ → ℕ → List ℕ → Type 0
IsMalformed l count sequence block =
    (HasHeader descriptor_type sequence block × ((tags : List Tag) → IsDescriptor l count sequence block tags → ⊥))
    ⊎ (HasHeader revoke_type sequence block × ((numbers : List ℕ) → IsRevokeBlock l count sequence block numbers → ⊥))

-- block k of the lap is malformed, and stands after the chain and some well-formed pieces of the next number,
-- which it has too
pub record IsDamaged (l : Layout) (count sequence : ℕ) (blocks : List (List ℕ)) (k : ℕ) : Type 0 where
  pub texts : List Text
  pub chain : IsChain l count sequence blocks texts
  pub pieces : List Piece
  pub block : List ℕ
  pub rest : List (List ℕ)
  pub split : blocks ≡ texts_blocks texts ++ pieces_blocks pieces ++ block ∷ rest
  pub well_formed : AllByRecursion (IsPiece l count (sequence + length texts)) pieces
  pub malformed : IsMalformed l count (sequence + length texts) block
  pub place : k ≡ length (texts_blocks texts) + length (pieces_blocks pieces)

-- a ring block with a sequence above the limit could be taken for part of a new transaction
pub record IsAhead (r : Ring) (image : Image) (limit place : ℕ) : Type 0 where
  pub low : r.first ≤ place
  pub high : place < r.first + r.blocks
  pub magic : begins_with_magic (image Log place) ≡ true
  pub above : limit < sequence_in (image Log place)
