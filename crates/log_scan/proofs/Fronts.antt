-- What a block says of itself stands at the front there.
use Rattle.std.proofs.Common.{◌≡◌, ℕ, suc, ◌+◌, ◌<◌, ◌≤◌, List, [], ◌∷◌, ◌++◌, length, take, drop, refl, sym, ◌∙◌, ap, subst, arith, inl, inr, length-append}
use Rattle.std.proofs.lemmas.List.{length-take-le, take-append-drop}
use Rattle.log_model.specs.declared.log.Tag.{Tag}
use Rattle.log_model.specs.declared.log.Piece.{Piece}
use Rattle.log_model.specs.declared.log.Piece.TheVariants.{Revokes, Copies}
use Rattle.log_model.specs.Chain.{IsMalformed}
use Rattle.log_model.specs.Descriptor.{IsDescriptor}
use Rattle.journal_model.specs.Layout.{HasHeader, Layout}
use Rattle.log_model.specs.ReadingLog.{NoPieceBegins}
use Rattle.log_model.specs.RevokeBlock.{IsRevokeBlock}
use Rattle.log_model.specs.Text.{IsPiece, IsCommitBlock, piece_blocks}
use Rattle.log_model.proofs.ReadingPieces.{one_type}
use Rattle.log_model.proofs.ReadingTags.{one_descriptor}
use Rattle.log_scan.specs.declared.finding.Found.{Found}
use Rattle.log_scan.specs.declared.finding.Found.TheVariants.{RevokeBlock, Descriptor, CommitBlock, Malformed, Nothing}
use Rattle.log_scan.specs.Finding.{BlockBegins, DescriptorBegins, FinderValue, IsFound, IsOther, Says}

-- a header has one type
other-type : {type other sequence : ℕ} {block : List ℕ} → (type ≡ other → ⊥) → HasHeader type sequence block → HasHeader other sequence block → ⊥
other-type apart p q = apart (one_type p q)

module _ (l : Layout) (count sequence behind : ℕ) (block : List ℕ) where
  -- a descriptor with more tags than blocks after it counts as nothing
  pub other-many : (tags : List Tag) → IsDescriptor l count sequence block tags → behind < length tags → IsOther l count sequence behind block
  other-many tags is many = record {
    revokes = λ numbers other. other-type (λ e. absurd (omega arith)) other.has_header is.has_header;
    copies = λ others also. let same = ap length (one_descriptor also is) in omega arith;
    commit = λ other. other-type (λ e. absurd (omega arith)) other is.has_header;
    malformed = malformed;
  } where
    malformed : IsMalformed l count sequence block → ⊥
    malformed (inl bad) = bad.1 tags is
    malformed (inr bad) = other-type (λ e. absurd (omega arith)) bad.0 is.has_header

module _ (l : Layout) (count sequence : ℕ) where
  -- where no block stands, nothing of the transaction stands
  pub found-none : (blocks : List (List ℕ)) (f : FinderValue) → blocks ≡ [] → IsFound l count sequence blocks f Nothing
  found-none blocks f empty = record {
    piece = record { none = λ p rest is e. none p rest (sym empty ∙ e) };
    commit = λ b. let split = b.split in absurd (cc);
    malformed = λ b. let split = b.split in absurd (cc);
  } where
    none : (p : Piece) (rest : List (List ℕ)) → [] ≡ piece_blocks p ++ rest → ⊥
    none (Revokes b numbers) rest e = cc
    none (Copies b tags copies) rest e = cc

  module _ (blocks : List (List ℕ)) (block : List ℕ) (others : List (List ℕ)) (split : blocks ≡ block ∷ others) where
    -- the block at the front is the one that stands there
    same-front : (P : List ℕ → Type 0) → BlockBegins P blocks → P block
    same-front P b =
        let also = b.split in
        let same : b.block ≡ block = cc in
        subst P same b.is

    -- a descriptor and as many of the blocks after it are a piece
    descriptor-begins : (tags : List Tag) (n : ℕ) → n ≡ length tags → n ≤ length others → IsDescriptor l count sequence block tags →
        DescriptorBegins l count sequence blocks tags n
    descriptor-begins tags n same few is = let next : suc n ≡ 1 + n = omega arith in record {
      block = block;
      copies = take n others;
      begins = record {
        well_formed = record { descriptor = is; each_tag = let size = length-take-le n others few in omega arith };
        front = record {
          split =
              split ∙ ap (λ (xs : List (List ℕ)). block ∷ xs) (sym (take-append-drop n others))
              ∙ ap (λ (xs : List (List ℕ)). block ∷ (take n others ++ xs)) (sym (ap (drop (suc n)) split) ∙ ap (λ (m : ℕ). drop m blocks) next);
          size = let size = length-take-le n others few in omega arith;
        };
      };
      size = same;
    }

    -- no piece begins with a block that is none of the transaction's
    no-piece : IsOther l count sequence (length others) block → NoPieceBegins l count sequence blocks
    no-piece other = record { none = λ p rest is e. neither p rest is (sym split ∙ e) }
      where
        neither : (p : Piece) (rest : List (List ℕ)) → IsPiece l count sequence p → block ∷ others ≡ piece_blocks p ++ rest → ⊥
        neither (Revokes b numbers) rest is e =
            let same : b ≡ block = cc in
            other.revokes numbers (subst (λ (x : List ℕ). IsRevokeBlock l count sequence x numbers) same is)
        neither (Copies b tags copies) rest is e =
            let same : b ≡ block = cc in
            let behind : others ≡ copies ++ rest = cc in
            let sizes = ap length behind ∙ length-append copies rest in
            let each = is.each_tag in
            let few = other.copies tags (subst (λ (x : List ℕ). IsDescriptor l count sequence x tags) same is.descriptor) in
            omega arith

    -- what the block says of itself stands there
    pub found-says : (f : FinderValue) (found : Found) → Says l count sequence (length others) block f found → IsFound l count sequence blocks f found
    found-says f (RevokeBlock n) says = record {
      block = block;
      begins = record { well_formed = says.1; front = record { split = split ∙ ap (λ (xs : List (List ℕ)). block ∷ xs) (sym (ap (drop 1) split)); size = refl } };
    }
    found-says f (Descriptor n) says = descriptor-begins (take n f.tags) n (let size = length-take-le n f.tags says.0 in omega arith) says.1 says.2
    found-says f CommitBlock says = record { block = block; behind = others; split = split; is = says }
    found-says f Malformed says = record { block = block; behind = others; split = split; is = says }
    found-says f Nothing says = record {
      piece = no-piece says;
      commit = λ b. says.commit (same-front (IsCommitBlock sequence) b);
      malformed = λ b. says.malformed (same-front (IsMalformed l count sequence) b);
    }
