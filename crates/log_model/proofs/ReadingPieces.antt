-- Pieces are read in one way: none begins another, or with a block that ends them.
use Rattle.std.proofs.Common.{◌≡◌, ℕ, ◌<◌, List, [], ◌∷◌, ◌++◌, length, arith, refl, sym, ◌∙◌, subst, ap, append_assoc, inl, inr}
use Rattle.std.specs.List.{AllByRecursion}
use Rattle.log_model.specs.declared.log.Tag.{Tag}
use Rattle.log_model.specs.declared.log.Piece.{Piece}
use Rattle.log_model.specs.declared.log.Piece.TheVariants.{Revokes, Copies}
use Rattle.journal_model.specs.Layout.{Layout, HasHeader, descriptor_type, commit_type, revoke_type}
use Rattle.log_model.specs.Descriptor.{IsDescriptor}
use Rattle.log_model.specs.RevokeBlock.{IsRevokeBlock}
use Rattle.log_model.specs.Text.{IsPiece, IsCommitBlock, HasCopies, piece_blocks, pieces_blocks}
use Rattle.log_model.specs.Chain.{IsMalformed}
use Rattle.log_model.specs.ReadingLog.{NoPieceBegins}
use Rattle.log_model.proofs.ReadingTags.{one_descriptor}
use Rattle.log_model.proofs.ReadingNumbers.{one_revoke_block}

-- a block has one type
pub one_type :
    {type other sequence next : ℕ} {block : List ℕ}
    → HasHeader type sequence block → HasHeader other next block → type ≡ other
one_type p q = sym p.type_is ∙ q.type_is

-- equally long fronts of one list are equal, and so are the rests
pub one_front :
    {X : Type 0} (xs ys vs ws : List X) → length xs ≡ length ys → xs ++ vs ≡ ys ++ ws → (xs ≡ ys) × (vs ≡ ws)
one_front [] [] vs ws n e = (refl, e)
one_front [] (y ∷ ys) vs ws n e = absurd (omega arith)
one_front (x ∷ xs) [] vs ws n e = absurd (omega arith)
one_front (x ∷ xs) (y ∷ ys) vs ws n e =
    let rest : xs ++ vs ≡ ys ++ ws = cc in
    let shorter : length xs ≡ length ys = cc in
    let both = one_front xs ys vs ws shorter rest in
    let same = both.0 in
    (cc, both.1)

-- a commit block, or a malformed block of the number, ends the pieces
pub data Ends (l : Layout) (count sequence : ℕ) (block : List ℕ) : Type 0 where
  commits : IsCommitBlock sequence block → Ends l count sequence block
  damages : IsMalformed l count sequence block → Ends l count sequence block

module _ (l : Layout) (count sequence : ℕ) where
  -- a revoke block is no descriptor
  revokes_no_copies :
      (block numbers : List ℕ) (tags : List Tag) (copies : List (List ℕ))
      → IsRevokeBlock l count sequence block numbers → HasCopies l count sequence block tags copies → ⊥
  revokes_no_copies block numbers tags copies p q =
      let types : revoke_type ≡ descriptor_type = one_type p.has_header q.descriptor.has_header in
      omega arith

  -- no piece begins another
  pub one_piece :
      0 < l.number_bytes → (p q : Piece) (xs ys : List (List ℕ))
      → IsPiece l count sequence p → IsPiece l count sequence q → piece_blocks p ++ xs ≡ piece_blocks q ++ ys
      → (p ≡ q) × (xs ≡ ys)
  one_piece some (Revokes b ms) (Revokes c ns) xs ys p q e =
      let block : b ≡ c = cc in
      let numbers = one_revoke_block some (subst (λ x. IsRevokeBlock l count sequence x ms) block p) q in
      (cc, cc)
  one_piece some (Revokes b ms) (Copies c tags copies) xs ys p q e =
      let block : b ≡ c = cc in
      absurd (revokes_no_copies _ _ _ _ (subst (λ x. IsRevokeBlock l count sequence x ms) block p) q)
  one_piece some (Copies b tags copies) (Revokes c ns) xs ys p q e =
      let block : b ≡ c = cc in
      absurd (revokes_no_copies _ _ _ _ q (subst (λ x. HasCopies l count sequence x tags copies) block p))
  one_piece some (Copies b tags copies) (Copies c others more) xs ys p q e =
      let block : b ≡ c = cc in
      let list = one_descriptor (subst (λ x. IsDescriptor l count sequence x tags) block p.descriptor) q.descriptor in
      let counts : length copies ≡ length more = p.each_tag ∙ ap length list ∙ sym q.each_tag in
      let behind : copies ++ xs ≡ more ++ ys = cc in
      let both = one_front copies more xs ys counts behind in
      let same = both.0 in
      (cc, both.1)

  -- no piece begins with a block that ends the pieces
  pub no_piece_at_end :
      (p : Piece) (xs ys : List (List ℕ)) (block : List ℕ)
      → IsPiece l count sequence p → Ends l count sequence block → piece_blocks p ++ xs ≡ block ∷ ys → ⊥
  no_piece_at_end (Revokes b ms) xs ys block p (commits h) e =
      let same : block ≡ b = cc in
      let types : commit_type ≡ revoke_type = one_type (subst (λ x. IsCommitBlock sequence x) same h) p.has_header in
      omega arith
  no_piece_at_end (Copies b tags copies) xs ys block p (commits h) e =
      let same : block ≡ b = cc in
      let types : commit_type ≡ descriptor_type =
      one_type (subst (λ x. IsCommitBlock sequence x) same h) p.descriptor.has_header in
      omega arith
  no_piece_at_end (Revokes b ms) xs ys block p (damages (inl h)) e =
      let same : block ≡ b = cc in
      let types : descriptor_type ≡ revoke_type =
      one_type (subst (λ x. HasHeader descriptor_type sequence x) same h.0) p.has_header in
      omega arith
  no_piece_at_end (Revokes b ms) xs ys block p (damages (inr h)) e =
      let same : b ≡ block = cc in
      h.1 ms (subst (λ x. IsRevokeBlock l count sequence x ms) same p)
  no_piece_at_end (Copies b tags copies) xs ys block p (damages (inl h)) e =
      let same : b ≡ block = cc in
      h.1 tags (subst (λ x. IsDescriptor l count sequence x tags) same p.descriptor)
  no_piece_at_end (Copies b tags copies) xs ys block p (damages (inr h)) e =
      let same : block ≡ b = cc in
      let types : revoke_type ≡ descriptor_type =
      one_type (subst (λ x. HasHeader revoke_type sequence x) same h.0) p.descriptor.has_header in
      omega arith

  -- no piece begins with the block after all pieces
  pub none_at_end :
      (block : List ℕ) (rest : List (List ℕ)) → Ends l count sequence block
      → NoPieceBegins l count sequence (block ∷ rest)
  none_at_end block rest ends =
      record { none = λ p others is e. no_piece_at_end p others rest block is ends (sym e) }

  -- pieces followed by no further one are one list
  pub one_list_of_pieces :
      0 < l.number_bytes → (ps qs : List Piece) (xs ys : List (List ℕ))
      → AllByRecursion (IsPiece l count sequence) ps → AllByRecursion (IsPiece l count sequence) qs
      → NoPieceBegins l count sequence xs → NoPieceBegins l count sequence ys
      → pieces_blocks ps ++ xs ≡ pieces_blocks qs ++ ys → (ps ≡ qs) × (xs ≡ ys)
  one_list_of_pieces some [] [] xs ys are others last none e = (refl, e)
  one_list_of_pieces some [] (q ∷ qs) xs ys are others last none e =
      absurd (last.none q (pieces_blocks qs ++ ys) others.0 (simp append_assoc at e))
  one_list_of_pieces some (p ∷ ps) [] xs ys are others last none e =
      absurd (none.none p (pieces_blocks ps ++ xs) are.0 (simp append_assoc at (sym e)))
  one_list_of_pieces some (p ∷ ps) (q ∷ qs) xs ys are others last none e =
      let split : piece_blocks p ++ (pieces_blocks ps ++ xs) ≡ piece_blocks q ++ (pieces_blocks qs ++ ys) =
      simp append_assoc at e in
      let first = one_piece some p q _ _ are.0 others.0 split in
      let rest = one_list_of_pieces some ps qs xs ys are.1 others.1 last none first.1 in
      let head = first.0 in let tail = rest.0 in
      (cc, rest.1)
