-- How a dump prints a log: one line for each block of the chain. The form is this project's own.
use Rattle.std.specs.Prelude.{◌≡◌, ℕ, suc, ◌+◌, ◌==◌, if◌then◌else◌, Some, List, [], ◌∷◌, ◌++◌, length, map, codes}
use Rattle.std.specs.List.{flat_map, enumerate_from, join_with_byte}
use Rattle.std.specs.Fmt.{decimal}
use Rattle.log_model.specs.declared.log.Tag.{Tag}
use Rattle.log_model.specs.declared.log.Piece.{Piece}
use Rattle.log_model.specs.declared.log.Piece.TheVariants.{Revokes, Copies}
use Rattle.log_model.specs.declared.log.Text.{Text}
use Rattle.journal_model.specs.declared.number.Area.TheVariants.{Log}
use Rattle.journal_model.specs.declared.refusal.JournalError.{JournalError}
use Rattle.journal_model.specs.declared.refusal.JournalError.TheVariants.{Damage}
use Rattle.log_model.specs.Superblock.{Super, super_refusal, wide_features}
use Rattle.journal_model.specs.Disk.{Image, Shape}
use Rattle.journal_model.specs.Layout.{every_number}
use Rattle.log_model.specs.Chain.{place_from}
use Rattle.log_model.specs.Opening.{layout_of, ring_of, super_of, lap_place, IsClean, HasChain, IsDamagedImage}

abbrev pub blank : ℕ
blank = 32

abbrev pub comma : ℕ
comma = 44

abbrev pub newline : ℕ
newline = 10

abbrev pub copy_caption : ℕ → Tag → List ℕ
copy_caption sequence t =
    codes "copy " ++ decimal sequence ++ codes " block=" ++ decimal t.block ++ (if t.escaped then codes " escaped" else [])

abbrev pub piece_captions : ℕ → Piece → List (List ℕ)
piece_captions sequence (Revokes block numbers) =
    (codes "revoke " ++ decimal sequence ++ codes " blocks=" ++ join_with_byte comma (map decimal numbers)) ∷ []
piece_captions sequence (Copies block tags copies) =
    (codes "descriptor " ++ decimal sequence ++ codes " tags=" ++ decimal (length tags)) ∷ map (copy_caption sequence) tags

abbrev pub text_captions : ℕ → Text → List (List ℕ)
text_captions sequence t = flat_map (piece_captions sequence) t.pieces ++ (codes "commit " ++ decimal sequence) ∷ []

abbrev pub texts_captions : ℕ → List Text → List (List ℕ)
texts_captions sequence [] = []
texts_captions sequence (t ∷ ts) = text_captions sequence t ++ texts_captions (suc sequence) ts

abbrev pub width_word : Super → List ℕ
width_word s = if s.s_feature_incompat == wide_features then codes " wide" else []

abbrev pub super_line : Super → List ℕ
super_line s =
    codes "super blocksize=" ++ decimal s.s_blocksize ++ codes " maxlen=" ++ decimal s.s_maxlen
    ++ codes " first=" ++ decimal s.s_first ++ codes " sequence=" ++ decimal s.s_sequence
    ++ codes " start=" ++ decimal s.s_start ++ width_word s

-- each after its place
abbrev pub block_lines : Super → List Text → List (List ℕ)
block_lines s texts =
    map (λ c. decimal (place_from (ring_of s) s.s_start c.0) ++ blank ∷ c.1) (enumerate_from 0 (texts_captions s.s_sequence texts))

abbrev pub end_line : Super → List Text → List ℕ
end_line s texts =
    codes "end sequence=" ++ decimal (s.s_sequence + length texts) ++ codes " transactions=" ++ decimal (length texts)

-- a clean log has no chain
abbrev pub lines_of : Super → List Text → List (List ℕ)
lines_of s texts =
    super_line s
    ∷ (if s.s_start == 0
    then (codes "empty sequence=" ++ decimal s.s_sequence) ∷ []
    else block_lines s texts ++ end_line s texts ∷ [])

unfoldable pub dump_text : Super → List Text → List ℕ
dump_text s texts = flat_map (λ line. line ++ newline ∷ []) (lines_of s texts)

-- home is not known, so each number that the layout can spell is accepted
abbrev pub dump_shape : Super → ℕ → ℕ → Shape
dump_shape s size blocks = record { block_size = size; log_blocks = blocks; home_blocks = every_number (layout_of s) }

-- an accepted log without damage has a dump
pub data IsDump (shape : Shape) (image : Image) : List ℕ → Type 0 where
  OfClean : IsClean shape image → IsDump shape image (dump_text (super_of image) [])
  OfChain : (texts : List Text) → HasChain shape image texts → IsDump shape image (dump_text (super_of image) texts)

-- the superblock's tests, then the first malformed block; neither blocks ahead nor the numbers left are tested
pub data IsDumpRefused (shape : Shape) (image : Image) : JournalError → Type 0 where
  BySuperblock : (e : JournalError) → super_refusal shape (image Log 0) ≡ Some e → IsDumpRefused shape image e
  ByDamage : (k : ℕ) → IsDamagedImage shape image k → IsDumpRefused shape image (Damage (lap_place image k))
