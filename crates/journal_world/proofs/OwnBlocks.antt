-- What a reader who looks for another text finds in an own text.
use Rattle.std.proofs.Common.{◌≡◌, ℕ, suc, ◌+◌, ◌<◌, Bool, true, false, true≢false, List, [], ◌∷◌, length, map, Some, arith, refl, sym, ◌∙◌, inl, inr}
use Rattle.std.specs.Prelude.{◌^◌, if◌then◌else◌, drop, All}
use Rattle.std.specs.List.{AllByRecursion, slice_get}
use Rattle.log_model.proofs.HomeCounts.{own_text_of_allowed}
use Rattle.journal_model.proofs.ListElements.{each-append}
use Rattle.log_model.proofs.ReadingPieces.{one_type}
use Rattle.journal_model.specs.declared.entry.Entry.{Entry}
use Rattle.log_model.specs.declared.log.Piece.{Piece}
use Rattle.log_model.specs.declared.log.Piece.TheVariants.{Revokes, Copies}
use Rattle.log_model.specs.declared.log.Text.{Text}
use Rattle.journal_model.specs.Block.{IsAllowedBlock}
use Rattle.log_model.specs.Chain.{AreTexts, texts_blocks}
use Rattle.log_model.specs.Escape.{escaped}
use Rattle.journal_model.specs.Layout.{Layout, IsLayout, HasHeader, begins_with_magic, commit_type, descriptor_type, numbers_of, revoke_type, sequence_in, tags_of, uuid_bytes}
use Rattle.journal_model.specs.Transaction.{copied, revoked}
use Rattle.log_model.specs.OwnText.{groups, own_copies, own_revokes, own_text}
use Rattle.log_model.specs.Text.{IsPiece, IsText, piece_blocks, pieces_blocks, text_blocks}
use Rattle.journal_world.proofs.Chains.{IsNotDue}
use Rattle.journal_world.proofs.Elements.{all-before, all-map, all-weaker}
use Rattle.journal_world.specs.Opening.{IsBehind}

-- a block that begins with the magic has this number
pub record IsNumbered (sequence : ℕ) (block : List ℕ) : Type 0 where
  pub number : begins_with_magic block ≡ true → sequence_in block ≡ sequence

-- a block of a text that is not its last: it neither ends the text nor is damage
pub record IsInner (l : Layout) (count sequence : ℕ) (block : List ℕ) : Type 0 where
  pub numbered : IsNumbered sequence block
  pub due : IsNotDue l count sequence block

-- an escaped copy does not begin with the magic
pub escaped-plain : (v : List ℕ) → begins_with_magic (escaped v) ≡ false
escaped-plain v = go (begins_with_magic v) refl
  where
    go : (flag : Bool) → begins_with_magic v ≡ flag → begins_with_magic (if flag then 0 ∷ 0 ∷ 0 ∷ 0 ∷ drop 4 v else v) ≡ false
    go true begins = refl
    go false begins = begins

-- a block that begins with a header has its number
pub header-numbered : (type sequence : ℕ) (v : List ℕ) → HasHeader type sequence v → IsNumbered sequence v
header-numbered type sequence v h = record { number = λ m. h.sequence_is }

-- the copies of a piece do not begin with the magic
abbrev HasPlainCopies : Piece → Type 0
HasPlainCopies (Revokes block numbers) = Unit {0}
HasPlainCopies (Copies block tags copies) = AllByRecursion (λ v. begins_with_magic v ≡ false) copies

-- the copies of an own text do not begin with the magic
own-plain : (l : Layout) (uuid : List ℕ) (sequence : ℕ) (entries : List (ℕ × Entry)) → AllByRecursion HasPlainCopies (own_text l uuid sequence entries).pieces
unfolding own_text
own-plain l uuid sequence entries =
    each-append HasPlainCopies (map (own_revokes l sequence) (groups (numbers_of l) (revoked entries)))
    (map (own_copies l uuid sequence) (groups (tags_of l) (copied entries)))
    (all-map HasPlainCopies (own_revokes l sequence) (λ g. tt) (groups (numbers_of l) (revoked entries)))
    (all-map HasPlainCopies (own_copies l uuid sequence)
    (λ g. all-map (λ v. begins_with_magic v ≡ false) (λ c. escaped c.1) (λ c. escaped-plain c.1) g)
    (groups (tags_of l) (copied entries)))

module _ (l : Layout) (count : ℕ) where
  -- a block without the magic is none of the log's own
  plain-inner : (sequence : ℕ) (v : List ℕ) → begins_with_magic v ≡ false → IsInner l count sequence v
  plain-inner sequence v plain =
      let never : begins_with_magic v ≡ true → ⊥ = λ m. true≢false (sym m ∙ plain) in
      record {
        numbered = record { number = λ m. absurd (never m) };
        due = record {
          no_commit = λ h. never h.magic;
          no_damage = λ d. elim d [
            | inl h ↦ never h.0.magic
            | inr h ↦ never h.0.magic
          ];
        };
      }

  -- copies without the magic are none of the log's own
  copies-inner : (sequence : ℕ) (vs : List (List ℕ)) → AllByRecursion (λ v. begins_with_magic v ≡ false) vs → AllByRecursion (IsInner l count sequence) vs
  copies-inner sequence [] plain = tt
  copies-inner sequence (v ∷ vs) plain = (plain-inner sequence v plain.0, copies-inner sequence vs plain.1)

  -- the blocks of a piece are inner ones of its text
  piece-inner : (sequence : ℕ) (p : Piece) → IsPiece l count sequence p → HasPlainCopies p → AllByRecursion (IsInner l count sequence) (piece_blocks p)
  piece-inner sequence (Revokes block numbers) is plain = (
    record {
      numbered = header-numbered revoke_type sequence block is.has_header;
      due = record {
        no_commit = λ h. let types : commit_type ≡ revoke_type = one_type h is.has_header in omega arith;
        no_damage = λ d. elim d [
          | inl h ↦ let types : descriptor_type ≡ revoke_type = one_type h.0 is.has_header in omega arith
          | inr h ↦ h.1 numbers is
        ];
      };
    },
    tt,
  )
  piece-inner sequence (Copies block tags copies) is plain = (
    record {
      numbered = header-numbered descriptor_type sequence block is.descriptor.has_header;
      due = record {
        no_commit = λ h. let types : commit_type ≡ descriptor_type = one_type h is.descriptor.has_header in omega arith;
        no_damage = λ d. elim d [
          | inl h ↦ h.1 tags is.descriptor
          | inr h ↦ let types : revoke_type ≡ descriptor_type = one_type h.0 is.descriptor.has_header in omega arith
        ];
      };
    },
    copies-inner sequence copies plain,
  )

  -- the blocks of pieces are inner ones
  pub pieces-inner : (sequence : ℕ) (ps : List Piece) → AllByRecursion (IsPiece l count sequence) ps → AllByRecursion HasPlainCopies ps →
      AllByRecursion (IsInner l count sequence) (pieces_blocks ps)
  pieces-inner sequence [] are plain = tt
  pieces-inner sequence (p ∷ ps) are plain =
      each-append (IsInner l count sequence) (piece_blocks p) (pieces_blocks ps) (piece-inner sequence p are.0 plain.0) (pieces-inner sequence ps are.1 plain.1)

-- a text of this number whose blocks before the last are inner ones
pub record IsOwn (l : Layout) (count sequence : ℕ) (t : Text) : Type 0 where
  pub is_text : IsText l count sequence t
  pub inner : AllByRecursion (IsInner l count sequence) (pieces_blocks t.pieces)

-- the own text of entries of allowed blocks is one
pub own-is : (l : Layout) (uuid : List ℕ) (count sequence : ℕ) (entries : List (ℕ × Entry)) →
    IsLayout l → length uuid ≡ uuid_bytes → sequence < 2 ^ 32 → All (λ p. IsAllowedBlock l count p.0) entries →
    IsOwn l count sequence (own_text l uuid sequence entries)
own-is l uuid count sequence entries layout size small allowed =
    let is : IsText l count sequence (own_text l uuid sequence entries) = own_text_of_allowed l uuid count sequence entries layout size small allowed in
    record { is_text = is; inner = pieces-inner l count sequence (own_text l uuid sequence entries).pieces is.pieces (own-plain l uuid sequence entries) }

-- each block of such a text before the last is an inner one
pub own-inner : (l : Layout) (count sequence : ℕ) (t : Text) (k : ℕ) (v : List ℕ) → IsOwn l count sequence t →
    slice_get (text_blocks t) k ≡ Some v → k + 1 < length (text_blocks t) → IsInner l count sequence v
own-inner l count sequence t k v own stands before =
    all-before (IsInner l count sequence) (pieces_blocks t.pieces) t.commit k v own.inner stands before

-- each block of such a text has its number
pub own-numbered : (l : Layout) (count sequence : ℕ) (t : Text) → IsOwn l count sequence t → AllByRecursion (IsNumbered sequence) (text_blocks t)
own-numbered l count sequence t own =
    each-append (IsNumbered sequence) (pieces_blocks t.pieces) (t.commit ∷ [])
    (all-weaker (IsInner l count sequence) (IsNumbered sequence) (λ v i. i.numbered) (pieces_blocks t.pieces) own.inner)
    (header-numbered commit_type sequence t.commit own.is_text.commit, tt)

-- such texts, numbered sequence, sequence + 1, and so on
abbrev pub AreOwn : Layout → ℕ → ℕ → List Text → Type 0
AreOwn l count sequence [] = Unit {0}
AreOwn l count sequence (t ∷ ts) = IsOwn l count sequence t × AreOwn l count (suc sequence) ts

-- own texts are texts
pub own-texts : (l : Layout) (count sequence : ℕ) (ts : List Text) → AreOwn l count sequence ts → AreTexts l count sequence ts
own-texts l count sequence [] are = tt
own-texts l count sequence (t ∷ ts) are = (are.0.is_text, own-texts l count (suc sequence) ts are.1)

-- the blocks of own texts are below the next number
pub own-behind : (l : Layout) (count sequence next : ℕ) (ts : List Text) → next ≡ sequence + length ts → AreOwn l count sequence ts →
    AllByRecursion (IsBehind next) (texts_blocks ts)
own-behind l count sequence next [] due are = tt
own-behind l count sequence next (t ∷ ts) due are =
    each-append (IsBehind next) (text_blocks t) (texts_blocks ts)
    (all-weaker (IsNumbered sequence) (IsBehind next) (λ v n. record { below = λ m. let same = n.number m in omega arith }) (text_blocks t)
    (own-numbered l count sequence t are.0))
    (own-behind l count (suc sequence) next ts (omega arith) are.1)
