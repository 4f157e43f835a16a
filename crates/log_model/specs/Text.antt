-- The text of a transaction in the log: revoke blocks, descriptors with their copies, then a commit block.
-- Source: journal.rst, "Layout" and "Commit Block".
use Rattle.std.specs.Prelude.{◌≡◌, ℕ, List, [], ◌∷◌, ◌++◌, length, map}
use Rattle.std.specs.List.{flat_map, zip, AllByRecursion}
use Rattle.log_model.specs.declared.log.Tag.{Tag}
use Rattle.log_model.specs.declared.log.Piece.{Piece}
use Rattle.log_model.specs.declared.log.Piece.TheVariants.{Revokes, Copies}
use Rattle.log_model.specs.declared.log.Text.{Text}
use Rattle.journal_model.specs.Layout.{Layout, HasHeader, commit_type}
use Rattle.log_model.specs.Descriptor.{IsDescriptor}
use Rattle.log_model.specs.RevokeBlock.{IsRevokeBlock}
use Rattle.log_model.specs.Escape.{unescaped}

-- nothing after a commit block's header is read, so it is never malformed
abbrev pub IsCommitBlock : ℕ → List ℕ → Type 0
IsCommitBlock sequence block = HasHeader commit_type sequence block

abbrev pub piece_blocks : Piece → List (List ℕ)
piece_blocks (Revokes block numbers) = block ∷ []
piece_blocks (Copies block tags copies) = block ∷ copies

pub record HasCopies (l : Layout) (count sequence : ℕ) (block : List ℕ) (tags : List Tag) (copies : List (List ℕ)) : Type 0 where
  pub descriptor : IsDescriptor l count sequence block tags
  pub each_tag : length copies ≡ length tags

abbrev pub IsPiece : Layout → ℕ → ℕ → Piece → Type 0
IsPiece l count sequence (Revokes block numbers) = IsRevokeBlock l count sequence block numbers
IsPiece l count sequence (Copies block tags copies) = HasCopies l count sequence block tags copies

abbrev pub pieces_blocks : List Piece → List (List ℕ)
pieces_blocks pieces = flat_map piece_blocks pieces

abbrev pub text_blocks : Text → List (List ℕ)
text_blocks t = pieces_blocks t.pieces ++ t.commit ∷ []

-- every header has that number, and every block is well formed
pub record IsText (l : Layout) (count sequence : ℕ) (t : Text) : Type 0 where
  pub pieces : AllByRecursion (IsPiece l count sequence) t.pieces
  pub commit : IsCommitBlock sequence t.commit

-- the copies as a replay writes them home, with their blocks; and the blocks revoked
abbrev pub piece_copies : Piece → List (ℕ × List ℕ)
piece_copies (Revokes block numbers) = []
piece_copies (Copies block tags copies) = map (λ p. (p.0.block, unescaped p.0.escaped p.1)) (zip tags copies)

abbrev pub piece_revokes : Piece → List ℕ
piece_revokes (Revokes block numbers) = numbers
piece_revokes (Copies block tags copies) = []

abbrev pub text_copies : Text → List (ℕ × List ℕ)
text_copies t = flat_map piece_copies t.pieces

abbrev pub text_revokes : Text → List ℕ
text_revokes t = flat_map piece_revokes t.pieces
