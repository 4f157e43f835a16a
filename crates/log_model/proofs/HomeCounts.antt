-- A text for a home area is one for any larger home area.
use Rattle.std.proofs.Common.{◌≡◌, ℕ, ◌<◌, ◌≤◌, ◌^◌, List, [], ◌∷◌, length, arith, min}
use Rattle.std.specs.Prelude.{All}
use Rattle.std.specs.List.{AllByRecursion}
use Rattle.std.proofs.lemmas.List.Elements.{All-weaker}
use Rattle.journal_model.specs.declared.entry.Entry.{Entry}
use Rattle.log_model.specs.declared.log.Piece.{Piece}
use Rattle.log_model.specs.declared.log.Piece.TheVariants.{Revokes, Copies}
use Rattle.log_model.specs.declared.log.Text.{Text}
use Rattle.journal_model.specs.Block.{IsAllowedBlock}
use Rattle.journal_model.specs.Layout.{Layout, IsLayout, every_number, uuid_bytes}
use Rattle.log_model.specs.OwnText.{own_text}
use Rattle.log_model.specs.Text.{IsPiece, IsText}
use Rattle.log_model.proofs.OwnTextWhole.{own_text_is}

-- a piece stays one for a larger home area
piece_weaker : (l : Layout) (low high sequence : ℕ) (p : Piece) → low ≤ high → IsPiece l low sequence p → IsPiece l high sequence p
piece_weaker l low high sequence (Revokes block numbers) le is = record {
  has_header = is.has_header;
  used = is.used;
  fits = is.fits;
  spelled = is.spelled;
  below = All-weaker (λ b. b < low) (λ b. b < high) (λ b h. omega arith) numbers is.below;
}
piece_weaker l low high sequence (Copies block tags copies) le is = record {
  descriptor = record {
    has_header = is.descriptor.has_header;
    spelled = is.descriptor.spelled;
    below = All-weaker (λ t. t.block < low) (λ t. t.block < high) (λ t h. omega arith) tags is.descriptor.below;
  };
  each_tag = is.each_tag;
}

pieces_weaker : (l : Layout) (low high sequence : ℕ) (ps : List Piece) → low ≤ high → AllByRecursion (IsPiece l low sequence) ps → AllByRecursion (IsPiece l high sequence) ps
pieces_weaker l low high sequence [] le all = tt
pieces_weaker l low high sequence (p ∷ ps) le all = (piece_weaker l low high sequence p le all.0, pieces_weaker l low high sequence ps le all.1)

pub text_weaker : (l : Layout) (low high sequence : ℕ) (t : Text) → low ≤ high → IsText l low sequence t → IsText l high sequence t
text_weaker l low high sequence t le is = record { pieces = pieces_weaker l low high sequence t.pieces le is.pieces; commit = is.commit }

-- the own text of allowed entries is a text
pub own_text_of_allowed : (l : Layout) (uuid : List ℕ) (count sequence : ℕ) (entries : List (ℕ × Entry)) →
    IsLayout l → length uuid ≡ uuid_bytes → sequence < 2 ^ 32 → All (λ p. IsAllowedBlock l count p.0) entries →
    IsText l count sequence (own_text l uuid sequence entries)
own_text_of_allowed l uuid count sequence entries layout size small allowed =
    let low : ℕ = min count (every_number l) in
    let spelled : low ≤ every_number l = omega arith in
    let within : low ≤ count = omega arith in
    let below = All-weaker (λ (p : ℕ × Entry). IsAllowedBlock l count p.0) (λ p. p.0 < low) (λ p h. let home = h.in_home in let spells = h.spelled in omega arith) entries allowed in
    text_weaker l low count sequence (own_text l uuid sequence entries) within (own_text_is l uuid low sequence entries layout size spelled small below)
