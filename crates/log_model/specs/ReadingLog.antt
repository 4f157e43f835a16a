-- What stands at the front of log blocks: tags, a piece, pieces or a text, or none.
use Rattle.std.specs.Prelude.{◌≡◌, ℕ, ◌+◌, ◌<◌, ◌++◌, List, length, drop, Option, MatchOption, All}
use Rattle.std.specs.List.{AllByRecursion}
use Rattle.log_model.specs.declared.log.Tag.{Tag}
use Rattle.log_model.specs.declared.log.Piece.{Piece}
use Rattle.log_model.specs.declared.log.Text.{Text}
use Rattle.journal_model.specs.Layout.{Layout}
use Rattle.log_model.specs.Descriptor.{BeginsWithTags}
use Rattle.log_model.specs.Text.{IsPiece, IsText, piece_blocks, pieces_blocks, text_blocks}
use Rattle.log_model.specs.Chain.{AreTexts, texts_blocks}

abbrev pub Finds : {X : Type 0} → (X → Type 0) → Option X → Type 0
Finds {X} P found = MatchOption found ((x : X) → P x → ⊥) P

abbrev pub layout_with : ℕ → ℕ → Layout
layout_with size bytes = record { block_size = size; number_bytes = bytes }

pub record HasTags (l : Layout) (count : ℕ) (bytes : List ℕ) (tags : List Tag) : Type 0 where
  pub spelled : BeginsWithTags l bytes tags
  pub below : All (λ t. t.block < count) tags

pub record NoPieceBegins (l : Layout) (count sequence : ℕ) (blocks : List (List ℕ)) : Type 0 where
  pub none : (p : Piece) (rest : List (List ℕ)) → IsPiece l count sequence p → blocks ≡ piece_blocks p ++ rest → ⊥

-- the blocks begin with these `taken` blocks
pub record StandsFirst (front blocks : List (List ℕ)) (taken : ℕ) : Type 0 where
  pub split : blocks ≡ front ++ drop taken blocks
  pub size : taken ≡ length front

pub record PieceBegins (l : Layout) (count sequence : ℕ) (blocks : List (List ℕ)) (p : Piece) (taken : ℕ) : Type 0 where
  pub well_formed : IsPiece l count sequence p
  pub front : StandsFirst (piece_blocks p) blocks taken

pub record PiecesBegin
    (l : Layout) (count sequence : ℕ) (blocks : List (List ℕ)) (ps : List Piece) (taken : ℕ) : Type 0 where
  pub well_formed : AllByRecursion (IsPiece l count sequence) ps
  pub front : StandsFirst (pieces_blocks ps) blocks taken

pub record NoTextBegins (l : Layout) (count sequence : ℕ) (blocks : List (List ℕ)) : Type 0 where
  pub none : (t : Text) (rest : List (List ℕ)) → IsText l count sequence t → blocks ≡ text_blocks t ++ rest → ⊥

pub record TextBegins (l : Layout) (count sequence : ℕ) (blocks : List (List ℕ)) (t : Text) (taken : ℕ) : Type 0 where
  pub is_text : IsText l count sequence t
  pub front : StandsFirst (text_blocks t) blocks taken

-- `next` is the number due after the texts
pub record TextsBegin
    (l : Layout) (count sequence : ℕ) (blocks : List (List ℕ)) (ts : List Text) (next taken : ℕ) : Type 0 where
  pub numbered : AreTexts l count sequence ts
  pub front : StandsFirst (texts_blocks ts) blocks taken
  pub due : next ≡ sequence + length ts
